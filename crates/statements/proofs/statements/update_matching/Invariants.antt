use Rattle.statements.proofs.UpdatingLoop.{Looking}
use Rattle.statements.proofs.statements.update_matching.Given as goal

abbrev pub invariant-places : goal.invariant-places
invariant-places l = Looking l.statement l.initial.run l.run l.found l.place
