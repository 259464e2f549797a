use Rattle.std.proofs.Common.{refl}
use Rattle.engine.proofs.OpeningLemmas.{opened_so}
use Rattle.engine.proofs.engine.Engine.open.Goals as goal

pub returns-clause-opened : goal.returns-clause-opened
returns-clause-opened g c = opened_so g.D.Disk.history c.args.disk _ c.in-Ok.ensures.opened c.new.ensures refl
