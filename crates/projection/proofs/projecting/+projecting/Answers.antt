use Rattle.std.proofs.Common.{map, sym, ap, subst, ◌∙◌, arith}
use Rattle.bson.specs.Tree.{count_pairs, count_items}
use Rattle.bson.specs.View.{pairs_of, items_of}
use Rattle.bson.specs.Lawful.{IsDocument, IsArray}
use Rattle.projection.specs.Projection.{of_pairs, of_items}
use Rattle.filter.proofs.ParsingLemmas.{pair_count, item_count}
use Rattle.projection.proofs.ProjectionLemmas.{IsDocument-of, IsArray-of, pairs_more, pairs_end, items_more, items_end}
use Rattle.projection.proofs.projecting.+projecting.Goals as goal

pub of_document-of_value-requires : goal.of_document-of_value-requires
of_document-of_value-requires t c = (
  omega (
    arith,
    c.decreases,
    pair_count c.pairs-pair-items.result.now c.pairs.pair-index c.pair-item.result c.pairs-test.true c.pair-item.is,
    ap count_pairs c.pairs-pair-items.ensures.pairs,
  ),
  tt,
)

pub of_document-pairs-preserved : goal.of_document-pairs-preserved
of_document-pairs-preserved t c =
    pairs_more c.args.includes (map (λ p. p.now) c.args.paths.now)
    (map (λ p. p.now) c.deref.result.now) c.pairs-pair-items.result.now c.pairs.pair-index c.pair-item.result c.as_str.result.now c.in_ok-value.value
    (pairs_of c.pairs.pairs.items) (pairs_of c.add_pair.new.pairs.items) (of_pairs c.args.includes (map (λ p. p.now) c.args.paths.now) c.args.document.now)
    c.pairs-test.true c.pair-item.is c.as_str.ensures.value
    (ap (map (λ p. p.now)) c.deref.ensures.value ∙ c.in_ok-inner.ensures) c.in_ok-value.ensures c.in_ok-add_pair.ensures c.pairs.invariant

pub of_document-from_pairs-requires : goal.of_document-from_pairs-requires
of_document-from_pairs-requires t c =
    let same = pairs_end c.args.includes (map (λ p. p.now) c.args.paths.now) c.pairs-pair-items.result.now c.pairs.pair-index (pairs_of c.pairs.pairs.items)
    (of_pairs c.args.includes (map (λ p. p.now) c.args.paths.now) c.args.document.now) c.pairs-test.false c.pairs.invariant in
    subst IsDocument (sym same) (IsDocument-of c.args.includes (map (λ p. p.now) c.args.paths.now) c.args.document.now c.pairs-pair-items.ensures.lawful)

pub of_document-returns : goal.of_document-returns
of_document-returns t c =
    c.from_pairs.ensures
    ∙ pairs_end c.args.includes (map (λ p. p.now) c.args.paths.now) c.pairs-pair-items.result.now c.pairs.pair-index (pairs_of c.pairs.pairs.items)
    (of_pairs c.args.includes (map (λ p. p.now) c.args.paths.now) c.args.document.now) c.pairs-test.false c.pairs.invariant

pub of_array-of_value-requires : goal.of_array-of_value-requires
of_array-of_value-requires t c = (
  omega (
    arith,
    c.decreases,
    item_count c.items-item-items.result.now c.items.item-index c.item-item.result c.items-test.true c.item-item.is,
    ap count_items c.items-item-items.ensures.items,
  ),
  tt,
)

pub of_array-items-preserved : goal.of_array-items-preserved
of_array-items-preserved t c =
    items_more c.args.includes (map (λ p. p.now) c.args.paths.now) c.items-item-items.result.now c.items.item-index c.item-item.result c.in_ok-value.value
    (items_of c.items.items.items) (items_of c.add_item.new.items.items) (of_items c.args.includes (map (λ p. p.now) c.args.paths.now) c.args.array.now)
    c.items-test.true c.item-item.is c.in_ok-value.ensures c.in_ok-add_item.ensures c.items.invariant

pub of_array-from_items-requires : goal.of_array-from_items-requires
of_array-from_items-requires t c =
    let same = items_end c.args.includes (map (λ p. p.now) c.args.paths.now) c.items-item-items.result.now c.items.item-index (items_of c.items.items.items)
    (of_items c.args.includes (map (λ p. p.now) c.args.paths.now) c.args.array.now) c.items-test.false c.items.invariant in
    subst IsArray (sym same) (IsArray-of c.args.includes (map (λ p. p.now) c.args.paths.now) c.args.array.now c.items-item-items.ensures.lawful)

pub of_array-returns : goal.of_array-returns
of_array-returns t c =
    c.from_items.ensures
    ∙ items_end c.args.includes (map (λ p. p.now) c.args.paths.now) c.items-item-items.result.now c.items.item-index (items_of c.items.items.items)
    (of_items c.args.includes (map (λ p. p.now) c.args.paths.now) c.args.array.now) c.items-test.false c.items.invariant
