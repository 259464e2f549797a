use Rattle.std.proofs.Common.{ℕ, List, ◌++◌, take, sym, ap, ◌∙◌, arith}
use Rattle.std.proofs.lemmas.List.{append-nil}
use Rattle.std.proofs.lemmas.Result.{err_from_is_err_and}
use Rattle.bson.specs.View.{pairs_of, items_of}
use Rattle.bson.specs.Kinds.{kind_byte}
use Rattle.bson.specs.Spelling.{pairs_bytes, items_bytes}
use Rattle.bson.specs.Writing.{IsFront}
use Rattle.bson.proofs.FrontLaws.{after_two, onwards}
use Rattle.bson.proofs.WriteLoopLaws.{zeros, items_bytes-none, pairs_bytes-none, item_put, pair_put, item_too_large, pair_too_large, items_all, pairs_all}
use Rattle.bson.proofs.WriteLoopLaws.{has_room, frame_done}
use Rattle.bson.proofs.writing.+writing.Goals as goal

-- ---- arrays

pub put_array-items-init : goal.put_array-items-init
put_array-items-init t c = (
  c.in_ok-extend_from_slice.ensures.items
      ∙ sym (ap (λ (x : List ℕ). (c.args.out.now.items ++ zeros) ++ x) (items_bytes-none 0) ∙ append-nil (c.args.out.now.items ++ zeros)),
  omega (arith, c.args.out.now.ok.0),
)

pub put_array-items-preserved : goal.put_array-items-preserved
put_array-items-preserved t c = (
  item_put c.deref-item-items.result.now c.items.i c.item-item.result
      (c.args.out.now.items ++ zeros) c.items.out.items c.put_name.new.out.items c.put_value.new.out.items c.format.result.now c.type_byte.result
      c.items-test.true c.item-item.is c.items.invariant.0
      (c.type_byte.ensures ∙ ap kind_byte c.kind.ensures) c.format.ensures.text c.in_ok-put_name.ensures.ok c.in_ok-put_value.ensures.puts.0,
  c.items.invariant.1,
)

pub put_array-returns-in_err-put_value-clause-puts : goal.put_array-returns-in_err-put_value-clause-puts
put_array-returns-in_err-put_value-clause-puts t c =
    let p = err_from_is_err_and c.from_residual-in_err-put_value.result c.from_residual-in_err-put_value.ensures.1 in
    rw (p.1, p.2)
    (item_too_large c.deref-item-items.result.now c.args.array.now c.items.i c.item-item.result c.put_name.new.out.items c.put_value.new.out.items
    c.args.out.now.items c.put_value.new.out.items c.in_err-put_value.field-0.0
    (ap items_of c.deref-item-items.ensures.value ∙ c.array.view_is) c.items-test.true c.item-item.is c.in_err-put_value.ensures.puts)

pub put_array-returns-in_err-put_name-clause-front : goal.put_array-returns-in_err-put_name-clause-front
put_array-returns-in_err-put_name-clause-front t c =
    let before : IsFront c.args.out.now.items c.items.out.items =
    after_two c.args.out.now.items zeros (items_bytes 0 (items_of (take c.items.i c.deref-item-items.result.now))) c.items.out.items c.items.invariant.0 in
    onwards c.args.out.now.items c.items.out.items c.put_name.new.out.items before c.in_err-put_name.ensures.front

pub put_array-returns-in_err-put_value-clause-front : goal.put_array-returns-in_err-put_value-clause-front
put_array-returns-in_err-put_value-clause-front t c =
    let before : IsFront c.args.out.now.items c.items.out.items =
    after_two c.args.out.now.items zeros (items_bytes 0 (items_of (take c.items.i c.deref-item-items.result.now))) c.items.out.items c.items.invariant.0 in
    let named : IsFront c.args.out.now.items c.put_name.new.out.items =
    onwards c.args.out.now.items c.items.out.items c.put_name.new.out.items before c.in_ok-put_name.ensures.front in
    onwards c.args.out.now.items c.put_name.new.out.items c.put_value.new.out.items named c.in_err-put_value.ensures.front

pub put_array-fill_length-requires : goal.put_array-fill_length-requires
put_array-fill_length-requires t c =
    has_room c.args.out.now.items
    (items_bytes 0 (items_of (take c.items.i c.deref-item-items.result.now))) c.items.out.items c.push.new.self.items c.len-start.result c.items.invariant.0
    c.in_ok-push.ensures.items c.items.invariant.1

pub put_array-returns-clause-puts : goal.put_array-returns-clause-puts
put_array-returns-clause-puts t c =
    frame_done c.args.out.now.items (items_bytes 0 c.args.array.now) c.items.out.items c.push.new.self.items c.fill_length.new.out.items c.len-start.result
    (items_bytes 0 (items_of (take c.items.i c.deref-item-items.result.now))) c.fill_length.result
    c.items.invariant.0
    (items_all c.deref-item-items.result.now c.args.array.now c.items.i (ap items_of c.deref-item-items.ensures.value ∙ c.array.view_is) c.items-test.false)
    c.in_ok-push.ensures.items c.items.invariant.1 c.fill_length.ensures.fills

-- ---- documents

pub put_document-pairs-init : goal.put_document-pairs-init
put_document-pairs-init t c = (
  c.in_ok-extend_from_slice.ensures.items
      ∙ sym (ap (λ (x : List ℕ). (c.args.out.now.items ++ zeros) ++ x) (pairs_bytes-none) ∙ append-nil (c.args.out.now.items ++ zeros)),
  omega (arith, c.args.out.now.ok.0),
)

pub put_document-pairs-preserved : goal.put_document-pairs-preserved
put_document-pairs-preserved t c = (
  pair_put c.deref-pair-items.result.now c.pairs.pair-index c.pair-item.result
      (c.args.out.now.items ++ zeros) c.pairs.out.items c.put_name.new.out.items c.put_value.new.out.items c.as_str.result.now c.type_byte.result
      c.pairs-test.true c.pair-item.is c.pairs.invariant.0
      (c.type_byte.ensures ∙ ap kind_byte c.kind.ensures) c.as_str.ensures.value c.in_ok-put_name.ensures.ok c.in_ok-put_value.ensures.puts.0,
  c.pairs.invariant.1,
)

pub put_document-returns-in_err-put_value-clause-puts : goal.put_document-returns-in_err-put_value-clause-puts
put_document-returns-in_err-put_value-clause-puts t c =
    let p = err_from_is_err_and c.from_residual-in_err-put_value.result c.from_residual-in_err-put_value.ensures.1 in
    rw (p.1, p.2)
    (pair_too_large c.deref-pair-items.result.now c.args.document.now c.pairs.pair-index c.pair-item.result c.put_name.new.out.items c.put_value.new.out.items
    c.args.out.now.items c.put_value.new.out.items c.in_err-put_value.field-0.0
    (ap pairs_of c.deref-pair-items.ensures.value ∙ c.document.view_is) c.pairs-test.true c.pair-item.is c.in_err-put_value.ensures.puts)

pub put_document-returns-in_err-put_name-clause-front : goal.put_document-returns-in_err-put_name-clause-front
put_document-returns-in_err-put_name-clause-front t c =
    let before : IsFront c.args.out.now.items c.pairs.out.items =
    after_two c.args.out.now.items zeros
    (pairs_bytes (pairs_of (take c.pairs.pair-index c.deref-pair-items.result.now))) c.pairs.out.items c.pairs.invariant.0 in
    onwards c.args.out.now.items c.pairs.out.items c.put_name.new.out.items before c.in_err-put_name.ensures.front

pub put_document-returns-in_err-put_value-clause-front : goal.put_document-returns-in_err-put_value-clause-front
put_document-returns-in_err-put_value-clause-front t c =
    let before : IsFront c.args.out.now.items c.pairs.out.items =
    after_two c.args.out.now.items zeros
    (pairs_bytes (pairs_of (take c.pairs.pair-index c.deref-pair-items.result.now))) c.pairs.out.items c.pairs.invariant.0 in
    let named : IsFront c.args.out.now.items c.put_name.new.out.items =
    onwards c.args.out.now.items c.pairs.out.items c.put_name.new.out.items before c.in_ok-put_name.ensures.front in
    onwards c.args.out.now.items c.put_name.new.out.items c.put_value.new.out.items named c.in_err-put_value.ensures.front

pub put_document-fill_length-requires : goal.put_document-fill_length-requires
put_document-fill_length-requires t c =
    has_room c.args.out.now.items
    (pairs_bytes (pairs_of (take c.pairs.pair-index c.deref-pair-items.result.now))) c.pairs.out.items c.push.new.self.items c.len-start.result
    c.pairs.invariant.0 c.in_ok-push.ensures.items c.pairs.invariant.1

pub put_document-returns-clause-puts : goal.put_document-returns-clause-puts
put_document-returns-clause-puts t c =
    frame_done c.args.out.now.items (pairs_bytes c.args.document.now) c.pairs.out.items c.push.new.self.items c.fill_length.new.out.items c.len-start.result
    (pairs_bytes (pairs_of (take c.pairs.pair-index c.deref-pair-items.result.now))) c.fill_length.result
    c.pairs.invariant.0
    (pairs_all c.deref-pair-items.result.now c.args.document.now c.pairs.pair-index
    (ap pairs_of c.deref-pair-items.ensures.value ∙ c.document.view_is) c.pairs-test.false) c.in_ok-push.ensures.items c.pairs.invariant.1
    c.fill_length.ensures.fills
