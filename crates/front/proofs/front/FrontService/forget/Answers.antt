use Rattle.std.proofs.Common.{rules, ◌<◌, ◌∙◌, length}
use Rattle.driver_sockets.proofs.AloneLemmas.{stands_ended}
use Rattle.driver_sockets.proofs.TyingLemmas.{tied_end, tied_over}
use Rattle.front.proofs.UnreadLemmas.{behind_without}
use Rattle.front.proofs.front.FrontService.forget.Goals as goal

pub returns-then-connection-len-clause-sound : goal.returns-then-connection-len-clause-sound
returns-then-connection-len-clause-sound g c =
    let inside : c.args.connection < length c.args.self.now.sockets.items = search rules in (
      behind_without g.D.Disk.history c.args.self.now.lending.loans c.end.new.self.loans c.args.connection c.args.self.now.core c.end.ensures
          c.requires.sound.0,
      tied_end c.args.self.now.lending.loans c.end.new.self.loans c.args.self.now.sockets.items c.args.connection c.replace.new.dest c.requires.sound.1
          c.end.ensures,
      stands_ended c.args.self.now.alone c.args.self.now.sockets.items c.args.connection c.replace.new.dest inside
          (c.replace.ensures.after ∙ c.new.ensures) c.requires.sound.2,
    )

pub returns-else-connection-len-clause-sound : goal.returns-else-connection-len-clause-sound
returns-else-connection-len-clause-sound g c = (
  behind_without g.D.Disk.history c.args.self.now.lending.loans c.end.new.self.loans c.args.connection c.args.self.now.core c.end.ensures c.requires.sound.0,
  tied_over c.args.self.now.lending.loans c.end.new.self.loans c.args.self.now.sockets.items c.args.connection c.requires.sound.1 c.end.ensures,
  c.requires.sound.2,
)
