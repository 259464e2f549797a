-- What a document that grows field by field keeps.
use Rattle.std.proofs.Common.{◌≡◌, ◌≢◌, ℕ, Bool, true, false, List, [], ◌∷◌, Some, None, Option, length, drop, slice_index_or, ◌+◌, ◌<◌, ◌≤◌, refl, sym, ap}
use Rattle.std.proofs.Common.{subst, ◌∙◌, add-one, drop-cons, arith}
use Rattle.std.specs.Prelude.{◌==◌, ◌||◌, ◌&&◌, not, is_none, if◌then◌else◌}
use Rattle.std.specs.Borrow.{Bor}
use Rattle.std.specs.List.{list_any}
use Rattle.std.specs.Str.{bytes_eq}
use Rattle.std.proofs.lemmas.Bool.Decides.{nat_tests}
use Rattle.std.proofs.lemmas.Slice.Eq.{bytes_eq-Decides}
use Rattle.std.proofs.lemmas.List.{drop_all}
use Rattle.bson.specs.Tree.{Tree, Pairs, no_pairs, pair, append}
use Rattle.bson.specs.EditPlaces.{append-one, append-none}
use Rattle.driver_replies.specs.Fields.{fact_tree, fields_of, are_new}
use Rattle.driver_replies.specs.declared.fields.Fact.{Fact}
use Rattle.bson.specs.Lookup.{lookup}
use Rattle.bson.specs.Lawful.{NoZero, Lacks}

pub bytes_differ : (xs ys : List ℕ) → bytes_eq xs ys ≡ false → xs ≢ ys
bytes_differ xs ys e same = let f = (bytes_eq-Decides xs ys).1 same in absurd cc

pub no_zero : (name : List ℕ) → list_any (λ b. b == 0) name ≡ false → NoZero name
no_zero [] e = tt
no_zero (b ∷ bs) e = at (b == 0) refl e (λ f. no_zero bs f)
  where
    at : (zero : Bool) → (b == 0) ≡ zero → (zero || list_any (λ b. b == 0) bs) ≡ false → (list_any (λ b. b == 0) bs ≡ false → NoZero bs) → NoZero (b ∷ bs)
    at true is e rest = absurd cc
    at false is e rest = (grind (arith, nat_tests), rest e)

pub lacks : (ps : Pairs) (name : List ℕ) → lookup ps name ≡ None → Lacks ps name
lacks no_pairs name e = tt
lacks (pair other t ps) name e = at (bytes_eq name other) refl e (λ f. lacks ps name f)
  where
    at : (b : Bool) → bytes_eq name other ≡ b → (if b then Some t else lookup ps name) ≡ None → (lookup ps name ≡ None → Lacks ps name)
        → Lacks (pair other t ps) name
    at true is e rest = absurd cc
    at false is e rest = (bytes_differ name other is, rest e)

-- ---- fields that are added one after the other

abbrev Field : Type 0
Field = Bor (List ℕ) × Fact

-- the document with one field more
abbrev pub with_field : Pairs → Field → Pairs
with_field ps x = append ps (pair x.0.now (fact_tree x.1) no_pairs)

-- what the first field of some is
pub record IsNew (ps : Pairs) (x : Field) (xs : List Field) : Type 0 where
  pub name : list_any (λ b. b == 0) x.0.now ≡ false
  pub new : lookup ps x.0.now ≡ None
  pub rest : are_new (with_field ps x) xs ≡ true

pub is_new : (ps : Pairs) (x : Field) (xs : List Field) → are_new ps (x ∷ xs) ≡ true → IsNew ps x xs
is_new ps x xs e = at (list_any (λ b. b == 0) x.0.now) refl (lookup ps x.0.now) refl e
  where
    at : (zero : Bool) → list_any (λ b. b == 0) x.0.now ≡ zero → (found : Option _) → lookup ps x.0.now ≡ found
        → (not zero && is_none found && are_new (with_field ps x) xs) ≡ true → IsNew ps x xs
    at true is found is_found e = absurd cc
    at false is (Some t) is_found e = absurd cc
    at false is None is_found e = record { name = is; new = is_found; rest = e }

-- the field at a place, and those behind it
pub next : (xs : List Field) (i : ℕ) (x : Field) → i < length xs → drop i xs ≡ slice_index_or xs i x ∷ drop (i + 1) xs
next xs i x h = rw (add-one, drop-cons xs i x) refl

pub new_at : (ps : Pairs) (xs : List Field) (i : ℕ) (x : Field) → i < length xs → are_new ps (drop i xs) ≡ true
    → IsNew ps (slice_index_or xs i x) (drop (i + 1) xs)
new_at ps xs i x h e = is_new ps (slice_index_or xs i x) (drop (i + 1) xs) (subst (λ (rest : List Field). are_new ps rest ≡ true) (next xs i x h) e)

pub whole_at : (ps : Pairs) (xs : List Field) (i : ℕ) (x : Field) → i < length xs
    → append (with_field ps (slice_index_or xs i x)) (fields_of (drop (i + 1) xs)) ≡ append ps (fields_of (drop i xs))
whole_at ps xs i x h =
    let f = slice_index_or xs i x in
    append-one ps f.0.now (fact_tree f.1) (fields_of (drop (i + 1) xs)) ∙ ap (λ (rest : List Field). append ps (fields_of rest)) (sym (next xs i x h))

-- what the loop over fields keeps
pub record AreLeft (ps : Pairs) (left all : List Field) : Type 0 where
  pub new : are_new ps left ≡ true
  pub whole : append ps (fields_of left) ≡ fields_of all

pub one_more : (ps qs : Pairs) (xs : List Field) (i : ℕ) (x : Field) (t : Tree) → i < length xs
    → qs ≡ append ps (pair (slice_index_or xs i x).0.now t no_pairs) → t ≡ fact_tree (slice_index_or xs i x).1 → AreLeft ps (drop i xs) xs
    → AreLeft qs (drop (i + 1) xs) xs
one_more ps qs xs i x t h is value left =
    let grown : qs ≡ with_field ps (slice_index_or xs i x) = is ∙ ap (λ (v : Tree). append ps (pair (slice_index_or xs i x).0.now v no_pairs)) value in
    subst (λ (rs : Pairs). AreLeft rs (drop (i + 1) xs) xs) (sym grown) (record {
      new = (new_at ps xs i x h left.new).rest;
      whole = whole_at ps xs i x h ∙ left.whole;
    })

pub no_more : (ps : Pairs) (xs : List Field) (i : ℕ) → length xs ≤ i → AreLeft ps (drop i xs) xs → ps ≡ fields_of xs
no_more ps xs i h left =
    sym (append-none ps) ∙ ap (λ (rest : List Field). append ps (fields_of rest)) (sym (drop_all i xs h)) ∙ left.whole
