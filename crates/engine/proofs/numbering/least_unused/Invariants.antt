use Rattle.engine.specs.Numbering.{numbered}
use Rattle.database_model.proofs.Numbers.{Searched}
use Rattle.engine.proofs.numbering.least_unused.Given as goal

abbrev pub invariant-numbers : goal.invariant-numbers
invariant-numbers l = Searched (numbered l.names) l.end l.counter l.number
