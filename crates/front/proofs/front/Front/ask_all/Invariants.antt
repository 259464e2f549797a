use Rattle.std.proofs.Common.{◌≡◌, ◌≤◌, ◌<◌, ◌+◌, ◌%◌, ℕ, None, get_or, length}
use Rattle.server.specs.Durable.{is_stopped}
use Rattle.driver_sockets.specs.Alone.{StandsAlone}
use Rattle.front.specs.Turning.{desk}
use Rattle.driver_sockets.specs.Tying.{AreTied}
use Rattle.front.specs.Unread.{IsBehind}
use Rattle.driver_sockets.specs.declared.socket.Socket.{Socket}
use Rattle.front.proofs.TurningLemmas.{HaveServed}
use Rattle.front.proofs.front.Front.ask_all.Given as goal

abbrev pub invariant-sockets : goal.invariant-sockets
invariant-sockets g l = record {
  sound : IsBehind g.D.Disk.history l.self.lending.loans l.self.core;
  tied : AreTied l.self.lending.loans l.self.sockets.items;
  free : l.self.alone ≡ None;
  stands : StandsAlone None l.self.sockets.items;
  running : is_stopped l.self.core ≡ is_stopped l.initial.self.core;
  as_many : length l.self.sockets.items ≡ length l.initial.self.sockets.items;
  all_of : l.count ≡ length l.initial.self.sockets.items;
  first : l.self.first ≡ l.initial.self.first;
  asked : HaveServed l.initial.self.sockets.items l.self.sockets.items l.first l.count l.step l.time (desk l.initial.self) (desk l.self);
  as_were : (s : ℕ) (any : Socket) → l.step ≤ s → s < l.count
      → get_or l.self.sockets.items ((l.first + s) % l.count) any ≡ get_or l.initial.self.sockets.items ((l.first + s) % l.count) any;
}
