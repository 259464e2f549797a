use Rattle.std.proofs.Common.{◌≡◌, ◌++◌, drop, map}
use Rattle.pipelines.specs.GroupView.{id_field_of}
use Rattle.pipelines.proofs.grouping.copy_id_fields.Given as goal

abbrev pub invariant-fields : goal.invariant-fields
invariant-fields l = map id_field_of l.all.items ++ map id_field_of (drop l.field-index l.fields) ≡ map id_field_of l.fields
