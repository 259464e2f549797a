-- Names stay apart.
use Rattle.std.proofs.Common.{◌≡◌, ℕ, ◌<◌, List, length, get_or, set, sym, ap, subst, ◌∙◌, arith, inl, inr}
use Rattle.std.specs.Cmp.Lexicographic.{slice_cmp}
use Rattle.std.specs.Ordering.{nat_cmp}
use Rattle.std.specs.declared.cmp.Ordering.TheVariants as orders
use Rattle.std.proofs.lemmas.Bool.{cases_eq}
use Rattle.std.proofs.lemmas.Grind.{get_or-set_at}
use Rattle.std.proofs.lemmas.List.{get_or_default, get_or-set_other, length-set}
use Rattle.entry_model.specs.State.{Collection}
use Rattle.entry_model.specs.LawfulState.{AreNamedApart}
use Rattle.database_model.specs.Places.{collection_at, no_collection}

pub apart_set : (cs : List Collection) (i : ℕ) (c : Collection) → i < length cs → c.name ≡ (collection_at cs i).name → AreNamedApart cs
    → AreNamedApart (set cs i c)
apart_set cs i c within same up a b d lt below =
    let long : b < length cs = omega (arith, length-set cs i c) in
    subst (λ (n : List ℕ). slice_cmp nat_cmp n (get_or (set cs i c) b d).name ≡ orders.Less) (sym (named a d (omega arith)))
    (subst (λ (n : List ℕ). slice_cmp nat_cmp (get_or cs a d).name n ≡ orders.Less) (sym (named b d long)) (up a b d lt long))
  where
    named : (k : ℕ) (d : Collection) → k < length cs → (get_or (set cs i c) k d).name ≡ (get_or cs k d).name
    named k d k_in =
        elim (cases_eq k i) [
          | inl e ↦ ap (λ (x : Collection). x.name) (get_or-set_at cs i k c d e within) ∙ same
              ∙ ap (λ (x : Collection). x.name) (get_or_default cs i no_collection d within ∙ ap (λ (j : ℕ). get_or cs j d) (sym e))
          | inr other ↦ ap (λ (x : Collection). x.name) (get_or-set_other cs i k c d other)
        ]
