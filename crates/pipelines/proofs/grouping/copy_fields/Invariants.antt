use Rattle.std.proofs.Common.{◌≡◌, ◌++◌, drop, map}
use Rattle.pipelines.specs.GroupView.{group_field_of}
use Rattle.pipelines.proofs.grouping.copy_fields.Given as goal

abbrev pub invariant-fields : goal.invariant-fields
invariant-fields l = map group_field_of l.all.items ++ map group_field_of (drop l.field-index l.fields) ≡ map group_field_of l.fields
