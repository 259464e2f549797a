use Rattle.std.proofs.Common.{◌≡◌, drop}
use Rattle.driver_sockets.specs.Cursors.{owner_in}
use Rattle.driver_sockets.proofs.open_cursors.owner_in.Given as goal

abbrev pub invariant-cursors : goal.invariant-cursors
invariant-cursors l = owner_in l.id l.list ≡ owner_in l.id (drop l.number l.list)
