use Rattle.std.proofs.Common.{◌≡◌, length}
use Rattle.sockets.proofs.table.free_places.Given as goal

abbrev pub invariant-loop : goal.invariant-loop
invariant-loop g l = length l.places.items ≡ l.counter
