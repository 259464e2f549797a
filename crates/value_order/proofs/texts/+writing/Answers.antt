use Rattle.std.proofs.Common.{◌++◌, [], ◌∷◌, length, drop, arith, ap, ◌∙◌}
use Rattle.std.proofs.lemmas.List.{length-append}
use Rattle.std.proofs.lemmas.Result.{err_from_is_err_and}
use Rattle.bson.specs.View.{tree, pairs_of, items_of}
use Rattle.value_order.specs.Order.{class}
use Rattle.value_order.specs.KeyText.{tree_text, pairs_text, items_text}
use Rattle.value_order.proofs.PutLaws.{piece_refused, left_over, item_part, pair_part}
use Rattle.value_order.proofs.WalkLaws.{item_smaller, pair_smaller}
use Rattle.value_order.proofs.texts.+writing.Goals as goal

pub put_items-put_value-requires : goal.put_items-put_value-requires
put_items-put_value-requires t c =
    (omega (arith, c.decreases, item_smaller c.args.items.now c.items.item-index c.item-item.result c.items-test.true c.item-item.is), c.items.invariant.room)

pub put_items-returns-in_err-put_value : goal.put_items-returns-in_err-put_value
put_items-returns-in_err-put_value t c =
    let p = err_from_is_err_and c.from_residual.result c.from_residual.ensures.1 in
    let left = left_over c.items.out.items (items_text (items_of (drop c.items.item-index c.args.items.now))) c.args.out.now.items
    (items_text (items_of c.args.items.now)) c.items.invariant.same in
    let part = item_part c.args.items.now c.items.item-index c.item-item.result c.items-test.true c.item-item.is in
    rw (p.1, p.2)
    (piece_refused c.args.limit (tree_text (tree c.item-item.result))
    (items_text (items_of c.args.items.now)) c.args.out.now.items c.items.out.items c.put_value.new.out.items c.put_value.new.out.items
    c.in_err-put_value.field-0.0 (omega (arith, left, part)) c.in_err-put_value.ensures)

pub put_pairs-returns-in_err-put_head : goal.put_pairs-returns-in_err-put_head
put_pairs-returns-in_err-put_head t c =
    let p = err_from_is_err_and c.from_residual.result c.from_residual.ensures.1 in
    let left = left_over c.pairs.out.items (pairs_text (pairs_of (drop c.pairs.pair-index c.args.pairs.now))) c.args.out.now.items
    (pairs_text (pairs_of c.args.pairs.now)) c.pairs.invariant.same in
    let part = pair_part c.args.pairs.now c.pairs.pair-index c.pair-item.result c.pairs-test.true c.pair-item.is in
    rw (p.1, p.2)
    (piece_refused c.args.limit (class (tree c.pair-item.result.value) ∷ (c.pair-item.result.name ++ 0 ∷ []))
    (pairs_text (pairs_of c.args.pairs.now)) c.args.out.now.items c.pairs.out.items c.put_head.new.out.items c.put_head.new.out.items
    c.in_err-put_head.field-0.0 (omega (arith, left, part)) c.in_err-put_head.ensures)

pub put_pairs-put_value-requires : goal.put_pairs-put_value-requires
put_pairs-put_value-requires t c = (
  omega (arith, c.decreases, pair_smaller c.args.pairs.now c.pairs.pair-index c.pair-item.result c.pairs-test.true c.pair-item.is),
  c.in_ok-put_head.ensures.1,
)

pub put_pairs-returns-in_err-put_value : goal.put_pairs-returns-in_err-put_value
put_pairs-returns-in_err-put_value t c =
    let p = err_from_is_err_and c.from_residual-in_err-put_value.result c.from_residual-in_err-put_value.ensures.1 in
    let left = left_over c.pairs.out.items (pairs_text (pairs_of (drop c.pairs.pair-index c.args.pairs.now))) c.args.out.now.items
    (pairs_text (pairs_of c.args.pairs.now)) c.pairs.invariant.same in
    let part = pair_part c.args.pairs.now c.pairs.pair-index c.pair-item.result c.pairs-test.true c.pair-item.is in
    let head = ap length c.in_ok-put_head.ensures.0
    ∙ length-append c.pairs.out.items (class (tree c.pair-item.result.value) ∷ (c.pair-item.result.name ++ 0 ∷ [])) in
    rw (p.1, p.2)
    (piece_refused c.args.limit (tree_text (tree c.pair-item.result.value))
    (pairs_text (pairs_of c.args.pairs.now)) c.args.out.now.items c.put_head.new.out.items c.put_value.new.out.items c.put_value.new.out.items
    c.in_err-put_value.field-0.0 (omega (arith, left, part, head)) c.in_err-put_value.ensures)
