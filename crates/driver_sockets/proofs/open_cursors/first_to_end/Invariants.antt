use Rattle.std.proofs.Common.{◌≡◌, drop}
use Rattle.driver_sockets.specs.Cursors.{first_to_end}
use Rattle.driver_sockets.proofs.open_cursors.first_to_end.Given as goal

abbrev pub invariant-cursors : goal.invariant-cursors
invariant-cursors l = first_to_end l.lending.loans l.list ≡ first_to_end l.lending.loans (drop l.number l.list)
