use Rattle.std.proofs.Common.{ℕ, List, ◌++◌, ◌∷◌, [], ap, ◌∙◌, arith}
use Rattle.json.specs.Token as json
use Rattle.bson.specs.Tree.{count_pairs, count_items}
use Rattle.ext_json.proofs.WritingLemmas.{pair_put, item_put, no_pair_put, no_item_put, document_put, array_put, count_pair, count_item, on_ok}
use Rattle.ext_json.proofs.writing.+writing.Goals as goal

-- ---- arrays

pub put_array-items-init : goal.put_array-items-init
put_array-items-init t c = (
  c.in_ok-begin_array.ensures.ok ∙ no_item_put c.args.form c.items-item-items.result.now (c.args.out.now.tokens ++ json.begin_array ∷ []),
  c.begin_array.ensures.room.0,
)

pub put_array-put_value-requires : goal.put_array-put_value-requires
put_array-put_value-requires t c = (
  omega (
    arith,
    c.decreases,
    count_item c.items-item-items.result.now c.items.item-index c.item-item.result c.items-test.true c.item-item.is,
    ap count_items c.items-item-items.ensures.items,
  ),
  tt,
)

pub put_array-items-preserved : goal.put_array-items-preserved
put_array-items-preserved t c = (
  item_put c.args.form c.items-item-items.result.now c.items.item-index c.item-item.result
      (c.args.out.now.tokens ++ json.begin_array ∷ []) c.items.out.tokens c.put_value.new.out.tokens c.items-test.true c.item-item.is c.items.invariant.0
      c.in_ok-put_value.ensures.ok,
  c.put_value.ensures.before ∙ c.items.invariant.1,
)

pub put_array-returns : goal.put_array-returns
put_array-returns t c = record {
  ok = on_ok c.end_array.result _ _
      (λ e. array_put c.args.form c.items-item-items.result.now c.args.array.now c.items.item-index c.args.out.now.tokens c.items.out.tokens
      c.end_array.new.self.tokens c.items-test.false c.items-item-items.ensures.items c.items.invariant.0 e)
      c.end_array.ensures.ok;
  before = c.end_array.ensures.room.0 ∙ c.items.invariant.1;
}

-- ---- documents

pub put_document-pairs-init : goal.put_document-pairs-init
put_document-pairs-init t c = (
  c.in_ok-begin_object.ensures.ok ∙ no_pair_put c.args.form c.pairs-pair-items.result.now (c.args.out.now.tokens ++ json.begin_object ∷ []),
  c.begin_object.ensures.room.0,
)

pub put_document-put_value-requires : goal.put_document-put_value-requires
put_document-put_value-requires t c = (
  omega (
    arith,
    c.decreases,
    count_pair c.pairs-pair-items.result.now c.pairs.pair-index c.pair-item.result c.pairs-test.true c.pair-item.is,
    ap count_pairs c.pairs-pair-items.ensures.pairs,
  ),
  tt,
)

pub put_document-pairs-preserved : goal.put_document-pairs-preserved
put_document-pairs-preserved t c = (
  pair_put c.args.form c.pairs-pair-items.result.now c.pairs.pair-index c.pair-item.result
      (c.args.out.now.tokens ++ json.begin_object
      ∷ []) c.pairs.out.tokens c.key.new.self.tokens c.put_value.new.out.tokens c.pairs-test.true c.pair-item.is c.pairs.invariant.0
      (c.in_ok-key.ensures.ok ∙ ap (λ (name : List ℕ). c.pairs.out.tokens ++ json.key name ∷ []) c.as_str.ensures.value) c.in_ok-put_value.ensures.ok,
  c.put_value.ensures.before ∙ c.key.ensures.room.0 ∙ c.pairs.invariant.1,
)

pub put_document-returns : goal.put_document-returns
put_document-returns t c = record {
  ok = on_ok c.end_object.result _ _
      (λ e. document_put c.args.form c.pairs-pair-items.result.now c.args.document.now c.pairs.pair-index c.args.out.now.tokens c.pairs.out.tokens
      c.end_object.new.self.tokens c.pairs-test.false c.pairs-pair-items.ensures.pairs c.pairs.invariant.0 e)
      c.end_object.ensures.ok;
  before = c.end_object.ensures.room.0 ∙ c.pairs.invariant.1;
}
