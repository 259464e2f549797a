use Rattle.std.proofs.Common.{sym, ap, ◌∙◌}
use Rattle.index.specs.Steps.{with_texts}
use Rattle.index.specs.View.{texts_of}
use Rattle.index.proofs.TextLemmas.{item_more, item_refused, keys_listed, refused_doing}
use Rattle.index.proofs.texts.push_array.Goals as goal

pub returns-in_err-push_text : goal.returns-in_err-push_text
returns-in_err-push_text c =
    let way = c.args.direction in
    let items = c.items-item-items.result.now in
    refused_doing _ _ c.from_residual.result c.in_err-push_text.field-0.0 c.from_residual.ensures.1
    (λ known.
    sym (ap (with_texts way (texts_of c.args.texts.now.items)) (keys_listed items c.args.array.now c.items.item-index c.items-item-items.ensures.items
    c.items-test.true))
    ∙ item_refused way items c.items.item-index c.item-item.result (texts_of c.items.texts.items) _ c.items-test.true c.item-item.is c.items.invariant
    c.in_err-push_text.field-0.0 (c.in_err-push_text.ensures known))

pub items-preserved : goal.items-preserved
items-preserved c =
    item_more c.args.direction c.items-item-items.result.now c.items.item-index c.item-item.result (texts_of c.items.texts.items) _ c.items-test.true
    c.item-item.is c.items.invariant (texts_of c.push_text-in-items.new.texts.items) c.in_ok-push_text.ensures
