-- What the pairs and items of replies keep.
use Rattle.std.proofs.Common.{◌≡◌, ℕ, suc, ◌≤◌, Bool, true, false, List, [], ◌∷◌, Some, None, refl, arith}
use Rattle.std.specs.Prelude.{◌==◌, ◌||◌, if◌then◌else◌, All}
use Rattle.std.specs.List.{list_any}
use Rattle.std.specs.Str.{bytes_eq}
use Rattle.std.proofs.lemmas.Bool.Decides.{nat_tests}
use Rattle.bson.specs.Tree.{Pairs, no_pairs, pair}
use Rattle.bson.specs.Lookup.{lookup}
use Rattle.bson.specs.Lawful.{items_levels, NoZero, Lacks}
use Rattle.database_model.specs.Lawful.{IsWithin}
use Rattle.database_model.specs.Cursors.{items_of_documents}
use Rattle.update_model.proofs.IdLemmas.{bytes_differ}

pub no_zero : (name : List ℕ) → list_any (λ b. b == 0) name ≡ false → NoZero name
no_zero [] e = tt
no_zero (b ∷ bs) e = at (b == 0) refl e (λ f. no_zero bs f)
  where
    at : (zero : Bool) → (b == 0) ≡ zero → (zero || list_any (λ b. b == 0) bs) ≡ false → (list_any (λ b. b == 0) bs ≡ false → NoZero bs) → NoZero (b ∷ bs)
    at true is e rest = absurd cc
    at false is e rest = (grind (arith, nat_tests), rest e)

pub lacks : (ps : Pairs) (name : List ℕ) → lookup ps name ≡ None → Lacks ps name
lacks no_pairs name e = tt
lacks (pair other t ps) name e = at (bytes_eq name other) refl e (λ f. lacks ps name f)
  where
    at : (b : Bool) → bytes_eq name other ≡ b → (if b then Some t else lookup ps name) ≡ None → (lookup ps name ≡ None → Lacks ps name)
        → Lacks (pair other t ps) name
    at true is e rest = absurd cc
    at false is e rest = (bytes_differ name other is, rest e)

pub items_levels-within : (ds : List Pairs) → All IsWithin ds → items_levels (items_of_documents ds) ≤ 90
items_levels-within [] h = omega arith
items_levels-within (d ∷ ds) h = omega (arith, (h 0 d (omega arith)).depth, items_levels-within ds (λ k e below. h (suc k) e (omega arith)))
