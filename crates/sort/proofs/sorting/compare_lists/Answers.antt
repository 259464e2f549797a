use Rattle.std.proofs.Common.{◌≡◌, map, drop, sym, ap, ◌∙◌}
use Rattle.std.specs.declared.cmp.Ordering.TheVariants.{Equal}
use Rattle.value_order.specs.Order.{key_cmp}
use Rattle.value_order.specs.View.{key_of}
use Rattle.sort.specs.Sort.{in_direction}
use Rattle.sort.specs.SortKeys.{field_of, first_or_null, keys_cmp}
use Rattle.sort.proofs.SortLemmas.{field_ties}
use Rattle.sort.proofs.sorting.compare_lists.Goals as goal

pub fields-preserved : goal.fields-preserved
fields-preserved c =
    let tied : in_direction c.index-fields-i.result.descending
    (key_cmp (first_or_null (map key_of (drop c.fields.i c.args.a.now))) (first_or_null (map key_of (drop c.fields.i c.args.b.now)))) ≡ Equal =
    (λ i. in_direction c.index-fields-i.result.descending (key_cmp (sym c.key_at.ensures i) (sym c.key_at-in-fields.ensures i)))
    ∙ ap (in_direction c.index-fields-i.result.descending) (sym c.compare_keys-order.ensures) ∙ sym c.in-Equal.ensures in
    field_ties c.args.fields.now c.args.a.now c.args.b.now c.fields.i c.index-fields-i.result
    (keys_cmp (map field_of c.args.fields.now) (map key_of c.args.a.now) (map key_of c.args.b.now))
    c.fields-test.true c.index-fields-i.is tied c.fields.invariant
