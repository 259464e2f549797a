-- What the types of the crate stand for.
use Rattle.std.specs.Prelude.{Option, Some, None, List, [], ◌∷◌, option_map}
use Rattle.std.specs.Borrow.{Bor}
use Rattle.bson.specs.Tree.{Tree}
use Rattle.bson.specs.View.{tree}
use Rattle.bson.specs.declared.value.Value.{Value}
use Rattle.index.specs.Definition.{Definition, Field}
use Rattle.plan_model.specs.Usable.{Bound, Usable}
use Rattle.plan_model.specs.Plan.{id_field, Range, Plan, scan, by_index}
use Rattle.planner.specs.declared.usable.Bound.{Bound as BoundOf}
use Rattle.planner.specs.declared.usable.Usable.{Usable as Found}
use Rattle.planner.specs.declared.field.Field.{Field as FieldOf}
use Rattle.planner.specs.declared.field.Field.TheVariants as fields
use Rattle.planner.specs.declared.range.IndexRange.{IndexRange}
use Rattle.planner.specs.declared.range.Leading.{Leading}
use Rattle.planner.specs.declared.plan.Plan.{Plan as Chosen}
use Rattle.planner.specs.declared.plan.Plan.TheVariants as plans

abbrev pub bound_of : BoundOf → Bound
bound_of b = record { comparison = b.comparison; operand = tree b.operand.now }

abbrev pub value_in : Option (Bor Value) → Option Tree
value_in o = option_map (λ v. tree v.now) o

abbrev pub usable_of : Found → Usable
usable_of u = record {
  equal = value_in u.equal;
  low = option_map bound_of u.low;
  high = option_map bound_of u.high;
}

abbrev pub field_of : FieldOf → Field
field_of fields.Id = id_field
field_of (fields.Of f) = f.now

abbrev pub index_of : Option (Bor Definition) → Option Definition
index_of o = option_map (λ d. d.now) o

-- those that are there
abbrev pub values_of : List (Option (Bor Value)) → List Tree
values_of [] = []
values_of (None ∷ os) = values_of os
values_of (Some v ∷ os) = tree v.now ∷ values_of os

abbrev pub leading_of : Leading → List Tree
leading_of l = values_of (l.first ∷ l.second ∷ l.third ∷ l.fourth ∷ [])

abbrev pub range_of : IndexRange → Range
range_of r = record {
  index = index_of r.index;
  equal = leading_of r.equal;
  low = option_map bound_of r.low;
  high = option_map bound_of r.high;
  is_sorted = r.is_sorted;
}

abbrev pub plan_of : Chosen → Plan
plan_of plans.Scan = scan
plan_of (plans.Index r) = by_index (range_of r)
