use Rattle.std.proofs.Common.{refl, ap, arith}
use Rattle.bson.specs.Tree.{count_pairs, count_items}
use Rattle.filter.specs.Condition.{Conditions}
use Rattle.filter.specs.Parsing.{named_condition, operation, read_filter, read_members, read_filters, read_member, read_operand, read_operators, read_element}
use Rattle.filter.specs.Parsing.{read_not}
use Rattle.filter.proofs.ParsingLemmas.{pair_count, item_count, refused, pairs_more, pairs_refused, pairs_end, items_more, items_refused, items_end}
use Rattle.filter.proofs.parsing.+parsing.Goals as goal

pub read_filter-read_condition-requires : goal.read_filter-read_condition-requires
read_filter-read_condition-requires t c = (
  omega (
    arith,
    c.decreases,
    pair_count c.pairs-pair-items.result.now c.pairs.pair-index c.pair-item.result c.pairs-test.true c.pair-item.is,
    ap count_pairs c.pairs-pair-items.ensures.pairs,
  ),
  tt,
)

pub read_filter-returns-in_err-condition : goal.read_filter-returns-in_err-condition
read_filter-returns-in_err-condition t c =
    refused (λ (f : Conditions). f) _ c.from_residual-in_err-condition.result c.in_err-condition.field-0.0 c.from_residual-in_err-condition.ensures.1
    (λ known. pairs_refused (λ name t. named_condition name (read_members t) (read_operand t)) read_filter refl
    (λ name t ps. refl) c.pairs-pair-items.result.now c.pairs.pair-index c.pair-item.result c.as_str.result.now c.pairs.conditions.items
    c.in_err-condition.field-0.0 (read_filter c.args.document.now)
    c.pairs-test.true c.pair-item.is c.as_str.ensures.value (c.in_err-condition.ensures known) c.pairs.invariant)

pub read_filter-pairs-preserved : goal.read_filter-pairs-preserved
read_filter-pairs-preserved t c =
    pairs_more (λ name t. named_condition name (read_members t) (read_operand t)) read_filter refl
    (λ name t ps. refl) c.pairs-pair-items.result.now c.pairs.pair-index c.pair-item.result c.as_str.result.now c.pairs.conditions.items c.push.new.self.items
    c.in_ok-condition.condition (read_filter c.args.document.now)
    c.pairs-test.true c.pair-item.is c.as_str.ensures.value c.in_ok-condition.ensures c.in_ok-push.ensures.items c.pairs.invariant

pub read_filter-returns : goal.read_filter-returns
read_filter-returns t c =
    pairs_end (λ name t. named_condition name (read_members t) (read_operand t)) read_filter refl
    (λ name t ps. refl) c.pairs-pair-items.result.now c.pairs.pair-index c.pairs.conditions.items
    (read_filter c.args.document.now) c.pairs-test.false c.pairs.invariant

pub read_operators-read_operator-requires : goal.read_operators-read_operator-requires
read_operators-read_operator-requires t c = (
  omega (
    arith,
    c.decreases,
    pair_count c.pairs-pair-items.result.now c.pairs.pair-index c.pair-item.result c.pairs-test.true c.pair-item.is,
    ap count_pairs c.pairs-pair-items.ensures.pairs,
  ),
  tt,
)

pub read_operators-returns-in_err-condition : goal.read_operators-returns-in_err-condition
read_operators-returns-in_err-condition t c =
    refused (λ (f : Conditions). f) _ c.from_residual-in_err-condition.result c.in_err-condition.field-0.0 c.from_residual-in_err-condition.ensures.1
    (λ known. pairs_refused (λ name t. operation name (read_element t) (read_not t) t) read_operators refl
    (λ name t ps. refl) c.pairs-pair-items.result.now c.pairs.pair-index c.pair-item.result c.as_str.result.now c.pairs.conditions.items
    c.in_err-condition.field-0.0 (read_operators c.args.document.now)
    c.pairs-test.true c.pair-item.is c.as_str.ensures.value (c.in_err-condition.ensures known) c.pairs.invariant)

pub read_operators-pairs-preserved : goal.read_operators-pairs-preserved
read_operators-pairs-preserved t c =
    pairs_more (λ name t. operation name (read_element t) (read_not t) t) read_operators refl
    (λ name t ps. refl) c.pairs-pair-items.result.now c.pairs.pair-index c.pair-item.result c.as_str.result.now c.pairs.conditions.items c.push.new.self.items
    c.in_ok-condition.condition (read_operators c.args.document.now)
    c.pairs-test.true c.pair-item.is c.as_str.ensures.value c.in_ok-condition.ensures c.in_ok-push.ensures.items c.pairs.invariant

pub read_operators-returns : goal.read_operators-returns
read_operators-returns t c =
    pairs_end (λ name t. operation name (read_element t) (read_not t) t) read_operators refl
    (λ name t ps. refl) c.pairs-pair-items.result.now c.pairs.pair-index c.pairs.conditions.items
    (read_operators c.args.document.now) c.pairs-test.false c.pairs.invariant

pub read_filters-read_member-requires : goal.read_filters-read_member-requires
read_filters-read_member-requires t c = (
  omega (
    arith,
    c.decreases,
    item_count c.items-item-items.result.now c.items.item-index c.item-item.result c.items-test.true c.item-item.is,
    ap count_items c.items-item-items.ensures.items,
  ),
  tt,
)

pub read_filters-returns-in_err-condition : goal.read_filters-returns-in_err-condition
read_filters-returns-in_err-condition t c =
    refused (λ (f : Conditions). f) _ c.from_residual-in_err-condition.result c.in_err-condition.field-0.0 c.from_residual-in_err-condition.ensures.1
    (λ known. items_refused read_member read_filters refl
    (λ t ts. refl) c.items-item-items.result.now c.items.item-index c.item-item.result c.items.conditions.items c.in_err-condition.field-0.0
    (read_filters c.args.array.now)
    c.items-test.true c.item-item.is (c.in_err-condition.ensures known) c.items.invariant)

pub read_filters-items-preserved : goal.read_filters-items-preserved
read_filters-items-preserved t c =
    items_more read_member read_filters refl
    (λ t ts. refl) c.items-item-items.result.now c.items.item-index c.item-item.result c.items.conditions.items c.push.new.self.items
    c.in_ok-condition.condition (read_filters c.args.array.now)
    c.items-test.true c.item-item.is c.in_ok-condition.ensures c.in_ok-push.ensures.items c.items.invariant

pub read_filters-returns : goal.read_filters-returns
read_filters-returns t c =
    items_end read_member read_filters refl (λ t ts. refl) c.items-item-items.result.now c.items.item-index c.items.conditions.items
    (read_filters c.args.array.now) c.items-test.false c.items.invariant
