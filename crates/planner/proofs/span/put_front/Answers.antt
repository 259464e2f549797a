use Rattle.std.proofs.Common.{◌++◌, drop}
use Rattle.planner.specs.KeyRange.{front_text}
use Rattle.plan_model.specs.Plan.{fields_of}
use Rattle.planner.specs.View.{index_of, values_of}
use Rattle.planner.proofs.SpanTextLemmas.{all_put}
use Rattle.planner.proofs.span.put_front.Goals as goal

pub returns : goal.returns
returns c =
    all_put c.args.values.now c.values.value-index (drop c.values.place (fields_of (index_of c.args.index))) c.values.out.items
    (c.args.out.now.items ++ front_text (fields_of (index_of c.args.index)) (values_of c.args.values.now)) c.values-test.false c.values.invariant.left
