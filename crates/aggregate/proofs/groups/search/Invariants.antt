use Rattle.std.proofs.Common.{◌≡◌, drop, map}
use Rattle.bson.specs.View.{tree}
use Rattle.aggregate_model.specs.Group.{same}
use Rattle.aggregate.specs.Groups.{entry_of}
use Rattle.aggregate.specs.Table.{has}
use Rattle.aggregate.proofs.groups.search.Given as goal

abbrev pub invariant-groups : goal.invariant-groups
invariant-groups l = has same (map entry_of (drop l.at l.groups)) (tree l.id) ≡ has same (map entry_of l.groups) (tree l.id)
