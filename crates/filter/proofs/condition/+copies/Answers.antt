use Rattle.filter.proofs.ParsingLemmas.{copied}
use Rattle.filter.proofs.condition.+copies.Goals as goal

pub Filter::copy-conditions-preserved : goal.Filter::copy-conditions-preserved
Filter::copy-conditions-preserved t c =
    copied c.deref-condition-items.result.now c.conditions.condition-index c.condition-item.result c.in_ok-copy.field-0 c.conditions.conditions.items
    c.push.new.self.items
    c.conditions-test.true c.condition-item.is c.in_ok-copy.ensures c.in_ok-push.ensures.items c.conditions.invariant
