-- One more name, pair or item, and names that differ.
use Rattle.std.proofs.Common.{◌≡◌, ◌≢◌, ◌⊎◌, ℕ, zero, suc, max, ◌<◌, Bool, true, false, ◌||◌, eqb, List, [], ◌∷◌, ◌++◌, get_or, take, refl, sym, ap, ◌∙◌}
use Rattle.std.proofs.Common.{arith, inl, inr}
use Rattle.std.specs.Str.{bytes_eq}
use Rattle.std.proofs.lemmas.List.{map-append}
use Rattle.std.proofs.lemmas.List.Folds.{list_any-append}
use Rattle.std.proofs.lemmas.Slice.Eq.{bytes_eq-Decides}
use Rattle.bson.specs.declared.value.Value.{Value}
use Rattle.bson.specs.declared.value.Pair.{Pair}
use Rattle.bson.specs.View.{tree, pairs_of, items_of, names_of}
use Rattle.bson.specs.Lookup.{stands_in}
use Rattle.bson.specs.Lawful.{NoZero, levels, pairs_levels, items_levels}

pub or_false : (a b : Bool) → (a || b) ≡ false → (a ≡ false) × (b ≡ false)
or_false false false e = (refl, refl)
or_false true b e = absurd cc
or_false false true e = absurd cc

pub NoZero-take : (m : ℕ) (bytes : List ℕ) → ((k : ℕ) → k < m → eqb (get_or bytes k 0) 0 ≡ false) → NoZero (take m bytes)
NoZero-take zero bytes h = tt
NoZero-take (suc m) [] h = tt
NoZero-take (suc m) (b ∷ bs) h = (λ e. absurd (let f = h 0 (omega arith) in grind arith), NoZero-take m bs (λ k lt. h (suc k) (omega arith)))

pub bytes_eq-ne : (xs ys : List ℕ) → xs ≢ ys → bytes_eq xs ys ≡ false
bytes_eq-ne xs ys h = elim (cases_bool (bytes_eq xs ys)) [ inl same ↦ absurd (h ((bytes_eq-Decides xs ys).0 same)) | inr other ↦ other ]
  where
    cases_bool : (b : Bool) → (b ≡ true) ⊎ (b ≡ false)
    cases_bool true = inl refl
    cases_bool false = inr refl

pub ne-bytes_eq : (xs ys : List ℕ) → bytes_eq xs ys ≡ false → xs ≢ ys
ne-bytes_eq xs ys e same = let f = (bytes_eq-Decides xs ys).1 same in absurd cc

or_last : (a b : Bool) → (a || b) ≡ (b || (a || false))
or_last true true = refl
or_last true false = refl
or_last false true = refl
or_last false false = refl

pub names_pushed : (ps : List Pair) (p : Pair) (new names : List (List ℕ)) (name : List ℕ)
    → ((other : List ℕ) → stands_in new other ≡ (bytes_eq other name || stands_in names other))
    → ((other : List ℕ) → stands_in names other ≡ stands_in (names_of ps) other) → p.name ≡ name → (other : List ℕ)
    → stands_in new other ≡ stands_in (names_of (ps ++ p ∷ [])) other
names_pushed ps p new names name inserted same is other =
    inserted other ∙ ap (λ (b : Bool). bytes_eq other name || b) (same other) ∙ ap (λ (n : List ℕ). bytes_eq other n || stands_in (names_of ps) other) (sym is)
    ∙ or_last (bytes_eq other p.name) (stands_in (names_of ps) other) ∙ sym (list_any-append (bytes_eq other) (names_of ps) (p.name ∷ []))
    ∙ ap (λ (ns : List (List ℕ)). stands_in ns other) (sym (map-append (λ (q : Pair). q.name) ps (p ∷ [])))

pub pairs_levels-push : (ps : List Pair) (p : Pair) → pairs_levels (pairs_of (ps ++ p ∷ [])) ≡ max (pairs_levels (pairs_of ps)) (levels (tree p.value))
pairs_levels-push [] p = omega arith
pairs_levels-push (q ∷ qs) p = omega (arith, pairs_levels-push qs p)

pub items_levels-push : (vs : List Value) (v : Value) → items_levels (items_of (vs ++ v ∷ [])) ≡ max (items_levels (items_of vs)) (levels (tree v))
items_levels-push [] v = omega arith
items_levels-push (w ∷ ws) v = omega (arith, items_levels-push ws v)
