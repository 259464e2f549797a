use Rattle.std.proofs.Common.{◌≡◌}
use Rattle.driver_sockets.specs.Lending.{least_used}
use Rattle.driver_sockets.proofs.lending.Lending.least_used.Given as goal

abbrev pub invariant-numbers : goal.invariant-numbers
invariant-numbers l = l.least ≡ least_used l.self.loans l.counts l.number
