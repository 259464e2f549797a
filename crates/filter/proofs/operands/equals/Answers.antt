use Rattle.std.proofs.Common.{sym, ap, ◌∙◌}
use Rattle.std.proofs.lemmas.List.{drop_all}
use Rattle.bson.specs.View.{items_of}
use Rattle.filter.specs.Condition.{equals, append_conditions}
use Rattle.filter.specs.View.{conditions_of}
use Rattle.filter.proofs.ParsingLemmas.{equals_more, append_conditions-none}
use Rattle.filter.proofs.operands.equals.Goals as goal

pub items-preserved : goal.items-preserved
items-preserved c =
    equals_more c.items-item-items.result.now c.items.item-index c.item-item.result c.items.conditions.items c.push.new.self.items c.in_ok-equal.field-0
    (equals c.args.array.now)
    c.items-test.true c.item-item.is c.in_ok-equal.ensures c.in_ok-push.ensures.items c.items.invariant

pub returns : goal.returns
returns c =
    sym (append_conditions-none (conditions_of c.items.conditions.items))
    ∙ sym (ap (λ vs. append_conditions (conditions_of c.items.conditions.items) (equals (items_of vs)))
    (drop_all c.items.item-index c.items-item-items.result.now c.items-test.false))
    ∙ c.items.invariant
