use Rattle.std.proofs.Common.{subst, arith}
use Rattle.bson.specs.Edits.{GrowFault}
use Rattle.bson.specs.View.{tree, items_of}
use Rattle.aggregate.proofs.ArrayLemmas.{item_more, items_done, too_deep, fits, none_left}
use Rattle.aggregate.proofs.accumulators.array_of.Goals as goal

pub values-preserved : goal.values-preserved
values-preserved c =
    item_more c.values.array c.push.new.self c.values.value-iterator.rest.items c.next.new.self.rest.items c.in-Some.value (items_of c.args.values.items)
    c.in-Some.ensures.steps.0 c.in-Ok.ensures.ok c.values.invariant

pub returns-in-Err-Deep : goal.returns-in-Err-Deep
returns-in-Err-Deep c = λ known.
    too_deep c.values.array c.values.value-iterator.rest.items c.next.new.self.rest.items c.in-Some.value (items_of c.args.values.items)
    c.in-Some.ensures.steps.0 (subst (GrowFault 98 (tree c.in-Some.value)) c.in-Err-Deep.field-0-is c.in-Err-Deep.ensures.fault) c.values.invariant

pub returns : goal.returns
returns c =
    fits c.values.array (items_of c.args.values.items)
    (items_done c.values.array c.values.value-iterator.rest.items (items_of c.args.values.items)
    (none_left c.values.value-iterator.rest.items (omega (arith, c.values.value-iterator.rest.ok, c.in-None.ensures.steps.0))) c.values.invariant)
    c.levels-levels.ensures.lawful.depth
