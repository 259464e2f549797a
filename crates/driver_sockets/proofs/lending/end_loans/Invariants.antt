use Rattle.std.proofs.Common.{◌≡◌, map, take, drop}
use Rattle.driver_sockets.specs.Lending.{after_end}
use Rattle.driver_sockets.proofs.lending.end_loans.Given as goal

abbrev pub invariant-loans : goal.invariant-loans
invariant-loans l = record {
  done : take l.number l.loans ≡ map (after_end l.socket) (take l.number l.initial.loans);
  left : drop l.number l.loans ≡ drop l.number l.initial.loans;
}
