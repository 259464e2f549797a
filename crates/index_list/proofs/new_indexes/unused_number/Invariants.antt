use Rattle.database_model.specs.CreateIndexes.{numbered}
use Rattle.database_model.proofs.Numbers.{Searched}
use Rattle.index_list.proofs.new_indexes.unused_number.Given as goal

abbrev pub invariant-numbers : goal.invariant-numbers
invariant-numbers l = Searched (numbered l.indexes) l.end l.counter l.number
