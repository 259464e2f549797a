use Rattle.std.proofs.Common.{◌≡◌, drop}
use Rattle.database_model.specs.CreateIndexes.{are_same_fields}
use Rattle.index_list.proofs.new_indexes.are_same_fields.Given as goal

abbrev pub invariant-fields : goal.invariant-fields
invariant-fields l = are_same_fields (drop l.at l.a) (drop l.at l.b) ≡ are_same_fields l.a l.b
