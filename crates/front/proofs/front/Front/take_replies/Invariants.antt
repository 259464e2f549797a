use Rattle.std.proofs.Common.{drop}
use Rattle.server.specs.View.{frames_in}
use Rattle.driver_sockets.specs.Alone.{StandsAlone}
use Rattle.front.specs.Rounds.{Floor, OnlyTakes, TakesEach, floor}
use Rattle.driver_sockets.specs.Tying.{AreTied}
use Rattle.front.specs.Unread.{HasTurned, HaveReplies}
use Rattle.front.proofs.front.Front.take_replies.Given as goal

abbrev pub invariant-replies : goal.invariant-replies
invariant-replies g l = record {
  turned : HasTurned g.D.Disk.history l.self.core;
  tied : AreTied l.self.lending.loans l.self.sockets.items;
  stands : StandsAlone l.self.alone l.self.sockets.items;
  replied : HaveReplies l.self.lending.loans (drop l.id-index l.replies);
  takes : (last : Floor) → TakesEach (frames_in (drop l.id-index l.replies)) (floor l.self) last
      → TakesEach (frames_in l.replies) (floor l.initial.self) last;
  only : OnlyTakes l.initial.self l.self;
}
