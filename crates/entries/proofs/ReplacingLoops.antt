-- What each index loses and gains, index by index.
use Rattle.std.proofs.Common.{◌≡◌, ℕ, ◌+◌, ◌<◌, ◌≤◌, List, [], ◌∷◌, ◌++◌, length, get_or, drop, map, sym, ap, subst, ◌∙◌, append_assoc, append-nil}
use Rattle.std.specs.Prelude.{All}
use Rattle.std.specs.Global.{Vec}
use Rattle.std.proofs.lemmas.List.{drop_all, map-append}
use Rattle.index.specs.Changes.{IsAscending, without}
use Rattle.entries.specs.Indexed.{without_all}
use Rattle.index.specs.View.{texts_of}
use Rattle.entries.proofs.CatalogueValues.{from_there}
use Rattle.entries.proofs.IndexedLaws.{key_lists}

pub ascend_at : (kss : List (Vec (Vec ℕ))) (k : ℕ) (ks : Vec (Vec ℕ)) (vs : List (Vec ℕ)) → All (λ ls. IsAscending (texts_of ls.items)) kss → k < length kss
    → ks ≡ get_or kss k ks → vs ≡ ks.items
    → IsAscending (texts_of vs)
ascend_at kss k ks vs h below at_k is =
    subst (λ (ws : List (Vec ℕ)). IsAscending (texts_of ws)) (ap (λ (ls : Vec (Vec ℕ)). ls.items) (sym at_k) ∙ sym is) (h k ks below)

module _ {X : Type 0} (L : X → List (List ℕ)) (these others : List (Vec (Vec ℕ))) (whole : List (List (List ℕ))) where
  pub change_more : (k : ℕ) (a b : Vec (Vec ℕ)) (all new : List X) (x : X) → k < length these → k < length others → a ≡ get_or these k a → b ≡ get_or others k b
      → new ≡ all ++ x ∷ [] → L x ≡ without (texts_of a.items) (texts_of b.items)
      → map L all ++ without_all (key_lists (drop k these)) (key_lists (drop k others)) ≡ whole
      → map L new ++ without_all (key_lists (drop (k + 1) these)) (key_lists (drop (k + 1) others)) ≡ whole
  change_more k a b all new x below under at_a at_b grown told so_far =
      let rest = without_all (key_lists (drop (k + 1) these)) (key_lists (drop (k + 1) others)) in
      ap (λ (xs : List X). map L xs ++ rest) grown ∙ ap (λ (ys : List (List (List ℕ))). ys ++ rest) (map-append L all (x ∷ []))
      ∙ append_assoc (map L all) (L x ∷ []) rest
      ∙ ap (λ (y : List (List ℕ)). map L all ++ y ∷ rest) told
      ∙ sym (λ t. map L all ++ without_all (key_lists (from_there these k a below at_a t)) (key_lists (from_there others k b under at_b t))) ∙ so_far

  pub changes_end : (k : ℕ) (all : List X) → length these ≤ k → map L all ++ without_all (key_lists (drop k these)) (key_lists (drop k others)) ≡ whole
      → map L all ≡ whole
  changes_end k all past so_far =
      sym (append-nil (map L all))
      ∙ sym (ap (λ (ls : List (Vec (Vec ℕ))). map L all ++ without_all (key_lists ls) (key_lists (drop k others))) (drop_all k these past)) ∙ so_far
