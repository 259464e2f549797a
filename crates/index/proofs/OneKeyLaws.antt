-- A document without an array on the paths of an index has one key in it.
use Rattle.std.proofs.Common.{◌≡◌, ℕ, suc, Bool, true, false, ◌||◌, List, [], ◌∷◌, length, map, Option, Some, None, refl, ap, ◌∙◌, append-nil}
use Rattle.std.specs.List.{flat_map}
use Rattle.bson.specs.Tree.{Tree, scalar, document, array}
use Rattle.bson.specs.Lookup.{lookup}
use Rattle.value_order.specs.Order.{Key}
use Rattle.path.specs.Parts.{parts_of}
use Rattle.path.specs.Place.{some_passes}
use Rattle.path.specs.Reach.{Reached, reach, onwards}
use Rattle.index.specs.IndexKeys.{keys_of, or_missing, field_keys, index_keys, meets_array, is_multikey}
use Rattle.index.specs.Laws.{OneKey}

-- one thing is reached, and it has one key
abbrev IsOne : List Reached → Type 0
IsOne rs = (r : Reached) × (k : Key) × (rs ≡ r ∷ []) × (keys_of r ≡ k ∷ [])

reached_one : (parts : List (List ℕ)) (t : Tree) → meets_array parts t ≡ false → IsOne (reach parts t)
reached_one parts (array ts) e = absurd (none parts e)
  where
    none : (parts : List (List ℕ)) → meets_array parts (array ts) ≡ false → ⊥
    none [] e = absurd cc
    none (name ∷ rest) e = absurd cc
reached_one [] (scalar s) e = (_, _, refl, refl)
reached_one [] (document ps) e = (_, _, refl, refl)
reached_one (name ∷ rest) (scalar s) e = (_, _, refl, refl)
reached_one (name ∷ rest) (document ps) e = by (λ t. reached_one rest t) (lookup ps name) e
  where
    by : ((t : Tree) → meets_array rest t ≡ false → IsOne (reach rest t)) → (found : Option Tree) → some_passes (meets_array rest) found ≡ false
        → IsOne (onwards (reach rest) found (None ∷ []))
    by more None e = (_, _, refl, refl)
    by more (Some t) e = more t e

abbrev HasOneKey : List Key → Type 0
HasOneKey ks = (k : Key) × (ks ≡ k ∷ [])

field_one : (rs : List Reached) → IsOne rs → HasOneKey (flat_map keys_of (or_missing rs))
field_one rs (r, k, is, one) = (k, ap (λ (qs : List Reached). flat_map keys_of (or_missing qs)) is ∙ append-nil (keys_of r) ∙ one)

either : (a b : Bool) → (a || b) ≡ false → (a ≡ false) × (b ≡ false)
either true b e = absurd cc
either false b e = (refl, e)

one_with : (ks : List Key) (more : List (List Key)) → HasOneKey ks → length (flat_map (λ k. map (λ rest. k ∷ rest) more) ks) ≡ length more
one_with ks more (k, is) =
    ap (λ (ls : List Key). length (flat_map (λ l. map (λ rest. l ∷ rest) more) ls)) is
    ∙ ap length (append-nil (map (λ rest. k ∷ rest) more)) ∙ mapped more
  where
    mapped : (xs : List (List Key)) → length (map (λ rest. k ∷ rest) xs) ≡ length xs
    mapped [] = refl
    mapped (x ∷ xs) = ap suc (mapped xs)

pub one_key : OneKey
one_key [] ps e = refl
one_key (f ∷ fs) ps e =
    let both = either (meets_array (parts_of f.path) (document ps)) (is_multikey fs ps) e in
    one_with (field_keys f.path ps) (index_keys fs ps) (field_one (reach (parts_of f.path) (document ps)) (reached_one (parts_of f.path) (document ps) both.0))
    ∙ one_key fs ps both.1
