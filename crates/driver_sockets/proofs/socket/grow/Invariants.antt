use Rattle.std.proofs.Common.{◌≡◌, ◌+◌, ◌≤◌, length, max}
use Rattle.driver_sockets.specs.Serving.{HaveGrown}
use Rattle.driver_sockets.proofs.socket.grow.Given as goal

abbrev pub invariant-numbers : goal.invariant-numbers
invariant-numbers l =
    (length l.sockets.items ≡ l.counter)
    × (HaveGrown l.initial.sockets.items l.sockets.items × (length l.sockets.items ≤ max (length l.initial.sockets.items) (l.number + 1)))
