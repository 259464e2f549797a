use Rattle.std.proofs.Common.{◌≡◌, ◌++◌, drop, map}
use Rattle.aggregate.specs.States.{state_of}
use Rattle.pipelines.specs.GroupView.{group_field_of}
use Rattle.aggregate.specs.Table.{starts}
use Rattle.aggregate.proofs.groups.starts.Given as goal

abbrev pub invariant-fields : goal.invariant-fields
invariant-fields l = map state_of l.states.items ++ starts (map group_field_of (drop l.field-index l.fields)) ≡ starts (map group_field_of l.fields)
