use Rattle.std.proofs.Common.{◌≡◌, ◌-◌, ℕ, List, [], map, drop, true, false, sym, ap, ◌∙◌, subst, arith}
use Rattle.std.specs.Prelude.{Ok}
use Rattle.std.specs.List.{AllByRecursion}
use Rattle.page.specs.Content.{branch, pivot_keys, rise, rise_above}
use Rattle.page.specs.Format.{branch_cell_size, pivot_in, pivots_at}
use Rattle.page.specs.Kept.{IsWhole, KeepsBranch}
use Rattle.page.proofs.KeptLemmas.{branch_all_whole, branch_kept}
use Rattle.page.proofs.ReadLemmas.{branch_rises, branch_judged}
use Rattle.page.proofs.branches.Branch.read.Goals as goal

pub keys_rise-requires-clause-whole : goal.keys_rise-requires-clause-whole
keys_rise-requires-clause-whole c =
    subst (AllByRecursion (IsWhole branch_cell_size c.args.bytes.now)) (sym c.deref.ensures.value)
    (branch_all_whole c.args.bytes.now c.requires (λ i. (c.type_inv.bytes i).fits) (c.args.count - 1) c.in_ok-places.places.items c.in_ok-places.ensures)

pub returns-then-not-keys_rise : goal.returns-then-not-keys_rise
returns-then-not-keys_rise c isnt =
    let places = c.in_ok-places.places.items in
    branch_judged c.args.count c.args.bytes.now places false (omega arith) c.in_ok-places.ensures
    (sym (branch_rises c.args.bytes.now places)
    ∙ ap (λ (l : List ℕ). rise_above [] (map (λ at. (pivot_in (drop at c.args.bytes.now)).key) l)) (sym c.deref.ensures.value) ∙ sym c.keys_rise.ensures
    ∙ c.if-not-keys_rise.true)

pub invariant_of-result : goal.invariant_of-result
invariant_of-result c =
    let places = c.in_ok-places.places.items in
    let rises : rise (pivot_keys (pivots_at c.args.bytes.now places)) ≡ true =
    sym (branch_rises c.args.bytes.now places)
    ∙ ap (λ (l : List ℕ). rise_above [] (map (λ at. (pivot_in (drop at c.args.bytes.now)).key) l)) (sym c.deref.ensures.value) ∙ sym c.keys_rise.ensures
    ∙ c.if-not-keys_rise.false in
    subst (λ (l : List ℕ). KeepsBranch l places) (sym c.in_ok-bytes.ensures.items)
    (branch_kept c.args.bytes.now c.requires (λ i. (c.type_inv.bytes i).fits) (c.args.count - 1) places c.in_ok-places.ensures (omega arith) rises)

pub returns : goal.returns
returns c =
    let places = c.in_ok-places.places.items in
    let rises : rise (pivot_keys (pivots_at c.args.bytes.now places)) ≡ true =
    sym (branch_rises c.args.bytes.now places)
    ∙ ap (λ (l : List ℕ). rise_above [] (map (λ at. (pivot_in (drop at c.args.bytes.now)).key) l)) (sym c.deref.ensures.value) ∙ sym c.keys_rise.ensures
    ∙ c.if-not-keys_rise.false in
    branch_judged c.args.count c.args.bytes.now places true (omega arith) c.in_ok-places.ensures rises
    ∙ ap (λ (l : List ℕ). Ok (branch (pivots_at l places))) (sym c.in_ok-bytes.ensures.items)
