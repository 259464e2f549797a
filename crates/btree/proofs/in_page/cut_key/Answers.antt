use Rattle.std.proofs.Common.{◌∙◌, ap, arith, length, subst, sym}
use Rattle.std.specs.Ordering.{is_eq}
use Rattle.page.specs.Content.{IsLeaf, item_size, total}
use Rattle.tree_model.specs.Calls.{IsTakenOut}
use Rattle.tree_model.specs.Search.{IsGap}
use Rattle.tree_model.specs.View.{item_in}
use Rattle.btree.proofs.EditLemmas.{failed_taken, here_taken, other_taken, past_taken}
use Rattle.btree.proofs.InPageLemmas.{gap_here, gap_other, gap_past, left_leaf, left_long, left_total}
use Rattle.btree.proofs.in_page.cut_key.Goals as goal

pub returns-then-at-len-clause-gap : goal.returns-then-at-len-clause-gap
returns-then-at-len-clause-gap g c =
    gap_past c.args.leaf.now c.len.ensures.sound c.args.key.now c.place_of_key-at.result c.place_of_key-at.ensures (omega (arith, c.len.ensures.count))

pub returns-then-at-len-clause-takes : goal.returns-then-at-len-clause-takes
returns-then-at-len-clause-takes g c =
    λ pairs e rise shown k. past_taken c.args.leaf.now pairs c.args.key.now c.place_of_key-at.result e rise c.place_of_key-at.ensures
    (g.P.Pages.store c.args.pages.now) (omega (arith, c.len.ensures.count))

pub returns-then-not-is_eq-clause-gap : goal.returns-then-not-is_eq-clause-gap
returns-then-not-is_eq-clause-gap g c =
    gap_other c.args.leaf.now c.len.ensures.sound c.place_of_key-at.result (omega (arith, c.len.ensures.count)) c.args.key.now c.place_of_key-at.ensures
    (item_in c.leaf_cell-cell.result) (c.leaf_cell-cell.ensures _)
    (ap is_eq (sym c.compare_keys.ensures) ∙ sym c.is_eq.ensures ∙ c.if-not-is_eq.true)

pub returns-then-not-is_eq-clause-takes : goal.returns-then-not-is_eq-clause-takes
returns-then-not-is_eq-clause-takes g c =
    λ pairs e rise shown k. other_taken c.args.leaf.now pairs c.args.key.now c.place_of_key-at.result e rise c.place_of_key-at.ensures
    (g.P.Pages.store c.args.pages.now) (item_in c.leaf_cell-cell.result) (omega (arith, c.len.ensures.count)) (c.leaf_cell-cell.ensures _)
    (ap is_eq (sym c.compare_keys.ensures) ∙ sym c.is_eq.ensures ∙ c.if-not-is_eq.true)

pub returns-in_err-retire_value-clause-takes : goal.returns-in_err-retire_value-clause-takes
returns-in_err-retire_value-clause-takes g c =
    λ pairs e rise shown k. failed_taken c.args.leaf.now pairs c.args.key.now c.place_of_key-at.result e rise c.place_of_key-at.ensures
    (g.P.Pages.store c.args.pages.now) (g.P.Pages.store c.retire_value.new.pages) (item_in c.leaf_cell-cell.result)
    _ _ _ (omega (arith, c.len.ensures.count)) (c.leaf_cell-cell.ensures _) shown c.from_residual.ensures.1
    (λ x is has. c.in_err-retire_value.ensures.retires x is has k)

pub without-requires-clause-sound : goal.without-requires-clause-sound
without-requires-clause-sound g c = left_leaf c.args.leaf.now c.len.ensures.sound c.place_of_key-at.result (omega (arith, c.len.ensures.count)) c.requires

pub returns-clause-len : goal.returns-clause-len
returns-clause-len g c =
    omega (arith, ap length c.in_ok-left.ensures, left_long c.args.leaf.now c.len.ensures.sound c.place_of_key-at.result (omega (arith, c.len.ensures.count)))

pub returns-clause-size : goal.returns-clause-size
returns-clause-size g c =
    omega (
      arith,
      ap (total item_size) c.in_ok-left.ensures,
      left_total c.args.leaf.now c.len.ensures.sound c.place_of_key-at.result (omega (arith, c.len.ensures.count)),
    )

pub returns-clause-sound : goal.returns-clause-sound
returns-clause-sound g c =
    subst IsLeaf (sym c.in_ok-left.ensures)
    (left_leaf c.args.leaf.now c.len.ensures.sound c.place_of_key-at.result (omega (arith, c.len.ensures.count)) c.requires)

pub returns-clause-gap : goal.returns-clause-gap
returns-clause-gap g c =
    subst (λ zs. IsGap zs c.args.key.now c.place_of_key-at.result) (sym c.in_ok-left.ensures)
    (gap_here c.args.leaf.now c.len.ensures.sound c.place_of_key-at.result (omega (arith, c.len.ensures.count)) c.args.key.now c.place_of_key-at.ensures)

pub returns-clause-takes : goal.returns-clause-takes
returns-clause-takes g c =
    λ pairs e rise shown k.
    subst (λ zs. IsTakenOut (g.P.Pages.store c.args.pages.now) (g.P.Pages.store c.retire_value.new.pages) c.args.key.now pairs zs c.place_of_key-at.result)
    (sym c.in_ok-left.ensures)
    (here_taken c.args.leaf.now pairs c.args.key.now c.place_of_key-at.result e rise c.place_of_key-at.ensures (g.P.Pages.store c.args.pages.now)
    (g.P.Pages.store c.retire_value.new.pages) (item_in c.leaf_cell-cell.result)
    (omega (arith, c.len.ensures.count)) (c.leaf_cell-cell.ensures _) (ap is_eq (sym c.compare_keys.ensures) ∙ sym c.is_eq.ensures ∙ c.if-not-is_eq.false) shown
    (λ x is has. c.in_ok-retire_value.ensures.retires x is has k))
