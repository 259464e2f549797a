use Rattle.statements.proofs.StatementLoop.{HasLeft}
use Rattle.statements.proofs.statements.run_statements.Given as goal

abbrev pub invariant-statements : goal.invariant-statements
invariant-statements l = HasLeft l.statements l.initial.run l.run l.index
