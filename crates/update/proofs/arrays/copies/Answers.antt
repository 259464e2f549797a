use Rattle.bson.specs.View.{items_of}
use Rattle.update.proofs.ArrayLemmas.{copy_more, items_none}
use Rattle.update.proofs.arrays.copies.Goals as goal

pub values-preserved : goal.values-preserved
values-preserved c =
    copy_more c.values.all.items c.push.new.self.items c.args.values.now c.values.value-index c.value-item.result c.in_ok-copy.field-0
    (items_of c.args.values.now)
    c.values-test.true c.value-item.is c.in_ok-copy.ensures c.in_ok-push.ensures.items c.values.invariant

pub returns : goal.returns
returns c = items_none (items_of c.values.all.items) c.args.values.now c.values.value-index (items_of c.args.values.now) c.values-test.false c.values.invariant
