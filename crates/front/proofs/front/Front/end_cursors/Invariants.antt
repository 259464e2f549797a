use Rattle.std.proofs.Common.{◌≡◌}
use Rattle.driver_sockets.specs.Alone.{StandsAlone}
use Rattle.front.specs.Rounds.{EndsEach}
use Rattle.front.specs.Turning.{desk}
use Rattle.driver_sockets.specs.Tying.{AreTied}
use Rattle.front.specs.Unread.{IsBehind}
use Rattle.front.proofs.front.Front.end_cursors.Given as goal

abbrev pub invariant-cursors : goal.invariant-cursors
invariant-cursors g l = record {
  sound : IsBehind g.D.Disk.history l.self.lending.loans l.self.core;
  tied : AreTied l.self.lending.loans l.self.sockets.items;
  stands : StandsAlone l.self.alone l.self.sockets.items;
  each : EndsEach l.times (desk l.initial.self) (desk l.self);
  rest : l.self ≡ record l.initial.self { core = l.self.core; lending = l.self.lending };
}
