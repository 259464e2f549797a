use Rattle.std.proofs.Common.{◌≡◌, ◌++◌, ◌≤◌, drop}
use Rattle.planner.specs.KeyRange.{front_text}
use Rattle.plan_model.specs.Plan.{fields_of}
use Rattle.planner.specs.View.{index_of, values_of}
use Rattle.planner.proofs.span.put_front.Given as goal

abbrev pub invariant-values : goal.invariant-values
invariant-values l = record {
  few : l.place ≤ l.value-index;
  left : l.out.items ++ front_text (drop l.place (fields_of (index_of l.index))) (values_of (drop l.value-index l.values))
      ≡ l.initial.out.items ++ front_text (fields_of (index_of l.index)) (values_of l.values);
}
