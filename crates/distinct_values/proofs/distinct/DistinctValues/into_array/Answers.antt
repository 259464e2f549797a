use Rattle.distinct_values.proofs.WalkLemmas.{push_step, push_done}
use Rattle.distinct_values.proofs.distinct.DistinctValues.into_array.Goals as goal

pub values-preserved : goal.values-preserved
values-preserved c =
    push_step c.values.array c.push.new.array _ c.values.value-iterator c.next.new.self c.in-Some.value _ c.in-Some.ensures.steps c.into_value.ensures.same
    c.in_ok-push.ensures c.values.invariant

pub returns : goal.returns
returns c = push_done c.values.array _ c.values.value-iterator c.in-None.ensures.steps.0 c.values.invariant
