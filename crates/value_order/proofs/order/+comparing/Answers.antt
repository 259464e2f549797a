use Rattle.std.proofs.Common.{◌≡◌, sym, ◌∙◌, arith}
use Rattle.bson.specs.Tree.{Pairs, Items}
use Rattle.bson.specs.View.{tree}
use Rattle.bson.specs.declared.value.Value.TheVariants as values
use Rattle.value_order.specs.Order.{content_cmp}
use Rattle.value_order.proofs.WalkLaws.{content_cmp-leaves, item_smaller, pair_smaller, items_end, pairs_end}
use Rattle.value_order.proofs.order.+comparing.Goals as goal
use Rattle.value_order.proofs.order.+comparing.Goals.{compare_content-in_default-via-in-Document+in_default, compare_content-in_default-via-in-Array+in_default}
use Rattle.value_order.proofs.order.+comparing.Goals.{compare_content-in_default-via-in_default}

pub compare_content-returns-in_default : goal.compare_content-returns-in_default
compare_content-returns-in_default t c =
    let made : (documents : (ps qs : Pairs) → c.args.a.now ≡ values.Document ps → c.args.b.now ≡ values.Document qs → ⊥) (arrays : (ts us : Items)
    → c.args.a.now ≡ values.Array ts → c.args.b.now ≡ values.Array us → ⊥) → c.compare_leaves.result ≡ content_cmp (tree c.args.a.now) (tree c.args.b.now) =
    λ documents arrays. c.compare_leaves.ensures ∙ sym (content_cmp-leaves c.args.a.now c.args.b.now documents arrays) in
    elim c.in_default.branch [
      | compare_content-in_default-via-in-Document+in_default w ↦ made (λ ps qs p q. w.in_default.not-Document-1 qs q)
          (λ ts us p q. let e = w.in_default.is-0 in absurd cc)
      | compare_content-in_default-via-in-Array+in_default w ↦ made (λ ps qs p q. let e = w.in_default.is-0 in absurd cc)
          (λ ts us p q. w.in_default.not-Array-1 us q)
      | compare_content-in_default-via-in_default w ↦ made (λ ps qs p q. w.in_default.not-Document-0 ps p) (λ ts us p q. w.in_default.not-Array-0 ts p)
    ]

pub compare_items-compare-requires : goal.compare_items-compare-requires
compare_items-compare-requires t c = (omega (arith, c.decreases, item_smaller c.args.a.now c.items.i c.index-a-i.result c.items-test.true c.index-a-i.is), tt)

pub compare_items-returns : goal.compare_items-returns
compare_items-returns t c =
    c.cmp.ensures ∙ sym (items_end c.args.a.now c.args.b.now c.items.i c.items-test.false c.items.invariant.within c.items.auto.i-end) ∙ c.items.invariant.same

pub compare_pairs-compare_content-requires : goal.compare_pairs-compare_content-requires
compare_pairs-compare_content-requires t c =
    (omega (arith, c.decreases, pair_smaller c.args.a.now c.pairs.i c.index-a-i.result c.pairs-test.true c.index-a-i.is), tt)

pub compare_pairs-returns : goal.compare_pairs-returns
compare_pairs-returns t c =
    c.cmp.ensures ∙ sym (pairs_end c.args.a.now c.args.b.now c.pairs.i c.pairs-test.false c.pairs.invariant.within c.pairs.auto.i-end) ∙ c.pairs.invariant.same
