use Rattle.driver_sockets.proofs.TyingLemmas.{tied_new}
use Rattle.front.proofs.UnreadLemmas.{behind_new}
use Rattle.front.proofs.front.Front.new.Goals as goal

pub returns-clause-tied : goal.returns-clause-tied
returns-clause-tied g c = tied_new c.new-2.result.loans c.new.result.items c.new-2.ensures

pub returns-clause-sound : goal.returns-clause-sound
returns-clause-sound g c = behind_new g.D.Disk.history c.new-2.result.loans c.args.core c.requires.sound c.requires.fresh c.new-2.ensures
