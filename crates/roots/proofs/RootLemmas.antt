-- The next root, written to its sector, counts.
use Rattle.std.proofs.Common.{◌≡◌, ◌≢◌, inl, inr, ℕ, zero, suc, ◌+◌, ◌%◌, ◌<◌, ◌-◌, true, false, List, refl, sym, ◌∙◌, ap, subst, arith}
use Rattle.std.specs.Prelude.{◌⊎◌, ◌==◌, Ok}
use Rattle.std.proofs.lemmas.Bool.Decides.{nat_tests}
use Rattle.page.specs.History.{Sector, reads}
use Rattle.page.specs.Crash.{IsDurable, put}
use Rattle.page.proofs.TwoFacts.{secured, put_same, put_other}
use Rattle.tree_model.specs.Keys.{Entry}
use Rattle.freelist.specs.FreeList.{Part}
use Rattle.roots.specs.Root.{root_in, both, newer_root, root_bytes, IsPossible}
use Rattle.roots.specs.Replace.{IsOldOrPut}
use Rattle.roots.specs.Image.{model_at, HasList, HoldsMap, OpensAs, StandsFor, IsKept, reached_by}
use Rattle.roots.specs.declared.root.Root.{Root}
use Rattle.roots.proofs.OpeningRules.{both_gives, read_back}
use Rattle.roots.proofs.ImageLemmas.{model_same, secures}

newer_even : (even odd : Root) → even.generation % 2 ≡ 0 → odd.generation % 2 ≡ 1 → even.generation ≡ odd.generation + 1 → newer_root even odd ≡ Ok even
newer_even even odd pe po up =
    let t1 : (even.generation % 2 == 0) ≡ true = grind (arith, nat_tests, pe) in
    let t2 : (odd.generation == even.generation + 1) ≡ false = grind (arith, nat_tests, up) in
    let some : odd.generation ≢ 0 = (λ none. omega (arith, none, po)) in
    let t3 : (odd.generation == 0) ≡ false = grind (arith, nat_tests, some) in
    let t4 : (even.generation == 0) ≡ false = grind (arith, nat_tests, up) in
    let t5 : (odd.generation == even.generation - 1) ≡ true = grind (arith, nat_tests, up) in
    rw (t1, t2, t3, t4, t5) refl

newer_odd : (even odd : Root) → even.generation % 2 ≡ 0 → odd.generation ≡ even.generation + 1 → newer_root even odd ≡ Ok odd
newer_odd even odd pe up =
    let t1 : (even.generation % 2 == 0) ≡ true = grind (arith, nat_tests, pe) in
    let t2 : (odd.generation == even.generation + 1) ≡ true = grind (arith, nat_tests, up) in
    rw (t1, t2) refl

-- a sector beside another that was written
put_at : (image : ℕ → List ℕ) (sector : ℕ) (bytes : List ℕ) (k n : ℕ) → sector ≡ n → k ≢ n → put image sector bytes k ≡ image k
put_at image sector bytes k n is ne = put_other image sector bytes k (λ same. ne (same ∙ is))

-- pages lie behind the roots
pub model_beside : (image : ℕ → List ℕ) (sector : ℕ) (bytes : List ℕ) (root : Root) → sector < 2 → (n : ℕ)
    → model_at (put image sector bytes) root n ≡ model_at image root n
model_beside image sector bytes root small zero = refl
model_beside image sector bytes root small (suc n) =
    model_same image (put image sector bytes) root (suc n) (λ k here. put_other image sector bytes k (λ same. omega (arith, same, small, here.0)))

module _ (image : ℕ → List ℕ) (old new : Root) (opens : OpensAs image old) (possible : IsPossible new) (next : new.generation ≡ old.generation + 1) where
  abbrev with_root : ℕ → List ℕ
  with_root = put image (new.generation % 2) (root_bytes new)

  from_even : root_in (image 0) ≡ Ok old → old.generation % 2 ≡ 0 → OpensAs with_root new
  from_even found parity =
      let sector : new.generation % 2 ≡ 1 = omega (arith, next, parity) in
      let here : root_in (with_root 1) ≡ Ok new = ap root_in (put_same image (new.generation % 2) (root_bytes new) 1 (sym sector)) ∙ read_back new possible in
      let there : root_in (with_root 0) ≡ Ok old =
      ap root_in (put_at image (new.generation % 2) (root_bytes new) 0 1 sector (λ same. omega (arith, same))) ∙ found in
      (λ i. both (there i) (here i)) ∙ newer_odd old new parity next

  from_odd : root_in (image 1) ≡ Ok old → old.generation % 2 ≡ 1 → OpensAs with_root new
  from_odd found parity =
      let sector : new.generation % 2 ≡ 0 = omega (arith, next, parity) in
      let here : root_in (with_root 0) ≡ Ok new = ap root_in (put_same image (new.generation % 2) (root_bytes new) 0 (sym sector)) ∙ read_back new possible in
      let there : root_in (with_root 1) ≡ Ok old =
      ap root_in (put_at image (new.generation % 2) (root_bytes new) 1 0 sector (λ same. omega (arith, same))) ∙ found in
      (λ i. both (here i) (there i)) ∙ newer_even new old sector parity next

  pub put_opens : OpensAs with_root new
  put_opens = elim
      (both_gives (root_in (image 0)) (root_in (image 1)) old opens)
      [ inl (found, parity) ↦ from_even found parity | inr (found, parity) ↦ from_odd found parity ]

  pub put_holds : (pages : List ℕ) (entries : List Entry) → HoldsMap (model_at image new) new pages entries
      → HoldsMap (model_at with_root new) new pages entries
  put_holds pages entries holds =
      let small : new.generation % 2 < 2 = omega arith in
      subst (λ models. HoldsMap models new pages entries) (sym (λ i n. model_beside image (new.generation % 2) (root_bytes new) new small n i)) holds

  pub put_stands : (pages : List ℕ) (entries : List Entry) → HoldsMap (model_at image new) new pages entries → StandsFor with_root entries
  put_stands pages entries holds = record { root = new; pages = pages; opens = put_opens; holds = put_holds pages entries holds }

module _ (sectors : ℕ → Sector) (old new : Root) (live pages : List ℕ) (parts : List Part) (before after : List Entry) (opens : OpensAs (reads sectors) old)
    (list : HasList (model_at (reads sectors) old) old live parts) (had : HoldsMap (model_at (reads sectors) old) old live before)
    (durable : (k : ℕ) → IsKept (reached_by live parts) k → IsDurable (sectors k)) (possible : IsPossible new) (next : new.generation ≡ old.generation + 1)
    (has : HoldsMap (model_at (reads sectors) new) new pages after) where
  image_stands : StandsFor (reads sectors) before
  image_stands = record { root = old; pages = live; opens = opens; holds = had }

  -- an image while the root is written
  pub stands_during : (image : ℕ → List ℕ) → IsOldOrPut sectors (new.generation % 2) (root_bytes new) image → StandsFor image before ⊎ StandsFor image after
  stands_during image (inl is) =
      inl (secured sectors (IsKept (reached_by live parts)) (λ image. StandsFor image before)
      (secures sectors old live parts before opens list had durable) image is)
  stands_during image (inr (inl same)) = inl (subst (λ (f : ℕ → List ℕ). StandsFor f before) (sym same) image_stands)
  stands_during image (inr (inr other)) =
      inr (subst (λ (f : ℕ → List ℕ). StandsFor f after) (sym other) (put_stands (reads sectors) old new opens possible next pages after has))
