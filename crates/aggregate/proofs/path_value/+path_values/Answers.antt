use Rattle.std.proofs.Common.{rules, sym, ap, subst, ◌∙◌, arith}
use Rattle.bson.specs.Tree.{count_items}
use Rattle.bson.specs.Lawful.{IsArray}
use Rattle.bson.specs.View.{tree, items_of}
use Rattle.aggregate_model.specs.PathValue.{path_value, each_by_field}
use Rattle.aggregate.proofs.PathLemmas.{item_count, if_ok_map, count-lookup, path_value-kept, IsArray-each, path_value_step, items_more, items_end}
use Rattle.aggregate.proofs.path_value.+path_values.Goals as goal

pub of_value-returns : goal.of_value-returns
of_value-returns t c =
    if_ok_map c.by_field.result _ _
    (λ f h. h ∙ sym (path_value_step c.args.parts.now c.part-item.result (tree c.args.value.now) c.in-len1-up.len_at_least c.part-item.is))
    c.by_field.ensures

pub of_field-of_value-requires : goal.of_field-of_value-requires
of_field-of_value-requires t c =
    (omega (arith, c.decreases, count-lookup c.args.source.now c.args.part.now (tree c.in-Some.value.now) (search rules)), tt)

pub of_items-by_field-requires : goal.of_items-by_field-requires
of_items-by_field-requires t c = (
  omega (
    arith,
    c.decreases,
    item_count c.items-item-items.result.now c.items.item-index c.item-item.result c.items-test.true c.item-item.is,
    ap count_items c.items-item-items.ensures.items,
  ),
  tt,
)

pub of_items-items-preserved : goal.of_items-items-preserved
of_items-items-preserved t c =
    items_more (path_value c.args.rest.now) c.args.part.now c.items-item-items.result.now c.items.item-index c.item-item.result _
    (items_of c.items.items.items) (items_of c.add_item.new.items.items)
    (each_by_field (path_value c.args.rest.now) c.args.part.now c.args.array.now)
    c.items-test.true c.item-item.is (c.in_ok-value.ensures ∙ c.in_ok-found.ensures) c.in_ok-add_item.ensures c.items.invariant

pub of_items-from_items-requires : goal.of_items-from_items-requires
of_items-from_items-requires t c =
    let same = items_end (path_value c.args.rest.now) c.args.part.now c.items-item-items.result.now c.items.item-index (items_of c.items.items.items)
    (each_by_field (path_value c.args.rest.now) c.args.part.now c.args.array.now) c.items-test.false c.items.invariant in
    subst IsArray (sym same)
    (IsArray-each (path_value c.args.rest.now) c.args.part.now (path_value-kept c.args.rest.now) c.args.array.now c.items-item-items.ensures.lawful)

pub of_items-returns : goal.of_items-returns
of_items-returns t c =
    c.from_items.ensures
    ∙ items_end (path_value c.args.rest.now) c.args.part.now c.items-item-items.result.now c.items.item-index (items_of c.items.items.items)
    (each_by_field (path_value c.args.rest.now) c.args.part.now c.args.array.now) c.items-test.false c.items.invariant
