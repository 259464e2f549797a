use Rattle.std.proofs.Common.{subst}
use Rattle.bson.specs.Edits.{GrowFault}
use Rattle.bson.specs.Tree.{append_items}
use Rattle.bson.specs.View.{tree, items_of}
use Rattle.update.proofs.ArrayLemmas.{item_more, items_none, too_deep, fits}
use Rattle.update.proofs.arrays.with_items.Goals as goal

pub returns-in-Err-Deep : goal.returns-in-Err-Deep
returns-in-Err-Deep c = λ known.
    too_deep c.values.array c.args.values.now c.values.value-index c.value-item.result (tree c.in_ok-copy.field-0)
    (append_items c.args.source (items_of c.args.values.now))
    c.values-test.true c.value-item.is c.in_ok-copy.ensures
    (subst (GrowFault 98 (tree c.in_ok-copy.field-0)) c.in-Err-Deep.field-0-is c.in-Err-Deep.ensures.fault) c.values.invariant

pub values-preserved : goal.values-preserved
values-preserved c =
    item_more c.values.array c.push.new.self c.args.values.now c.values.value-index c.value-item.result (tree c.in_ok-copy.field-0)
    (append_items c.args.source (items_of c.args.values.now))
    c.values-test.true c.value-item.is c.in_ok-copy.ensures c.in-Ok.ensures.ok c.values.invariant

pub returns : goal.returns
returns c =
    let all = append_items c.args.source (items_of c.args.values.now) in
    fits c.values.array all
    (items_none c.values.array c.args.values.now c.values.value-index all c.values-test.false c.values.invariant) c.levels-levels.ensures.lawful.depth
