use Rattle.std.proofs.Common.{◌≡◌, drop, map}
use Rattle.sort.specs.SortKeys.{field_of as sort_field_of}
use Rattle.plan_model.specs.Plan.{fields_of, sorts_as}
use Rattle.planner.specs.View.{index_of}
use Rattle.planner.proofs.field.sorts_as.Given as goal

abbrev pub invariant-fields : goal.invariant-fields
invariant-fields l =
    sorts_as (map sort_field_of (drop l.place l.fields)) (drop l.place (fields_of (index_of l.index)))
    ≡ sorts_as (map sort_field_of l.fields) (fields_of (index_of l.index))
