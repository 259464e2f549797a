-- What is told of entries, one after the other, and how deep it nests.
use Rattle.std.proofs.Common.{◌≡◌, ℕ, ◌+◌, ◌<◌, ◌≤◌, Bool, true, false, List, ◌∷◌, length, drop, slice_index_or, Option, Some, None, refl, ap, sym, ◌∙◌, arith}
use Rattle.std.proofs.Common.{add-one, drop-cons}
use Rattle.std.specs.Prelude.{if◌then◌else◌}
use Rattle.std.proofs.lemmas.List.{drop_all}
use Rattle.bson.specs.Tree.{document, Items, no_items, item, append_items}
use Rattle.bson.specs.EditPlaces.{append_items-one, append_items-none}
use Rattle.bson.specs.Lawful.{items_levels}
use Rattle.bson.specs.View.{tree, items_of}
use Rattle.bson.specs.declared.value.Value.{Value}
use Rattle.driver_replies.specs.Listing.{name_in, is_wanted, told_of, with_told, told_all}

-- what is told of one entry more
with_one : (made rest : Items) (wanted name : Option (List ℕ))
    → append_items (append_items made (with_told wanted name no_items)) rest ≡ append_items made (with_told wanted name rest)
with_one made rest wanted None = ap (λ (ts : Items). append_items ts rest) (append_items-none made)
with_one made rest wanted (Some name) = at (is_wanted wanted name)
  where
    at : (b : Bool)
        → append_items (append_items made (if b then item (document (told_of name)) no_items else no_items)) rest
        ≡ append_items made (if b then item (document (told_of name)) rest else rest)
    at true = append_items-one made (document (told_of name)) rest
    at false = ap (λ (ts : Items). append_items ts rest) (append_items-none made)

pub next : (vs : List Value) (i : ℕ) (v : Value) → i < length vs → items_of (drop i vs) ≡ item (tree (slice_index_or vs i v)) (items_of (drop (i + 1) vs))
next vs i v h =
    let parts : drop i vs ≡ slice_index_or vs i v ∷ drop (i + 1) vs = rw (add-one, drop-cons vs i v) refl in
    ap items_of parts

pub told_step : (wanted : Option (List ℕ)) (made grown : Items) (vs : List Value) (i : ℕ) (v : Value) (all : Items) → i < length vs
    → grown ≡ append_items made (with_told wanted (name_in (Some (tree (slice_index_or vs i v)))) no_items)
    → append_items made (told_all wanted (items_of (drop i vs))) ≡ all → append_items grown (told_all wanted (items_of (drop (i + 1) vs))) ≡ all
told_step wanted made grown vs i v all h is left =
    let rest = told_all wanted (items_of (drop (i + 1) vs)) in
    ap (λ (ts : Items). append_items ts rest) is
    ∙ with_one made rest wanted (name_in (Some (tree (slice_index_or vs i v))))
    ∙ sym (ap (λ (ts : Items). append_items made (told_all wanted ts)) (next vs i v h))
    ∙ left

pub told_done : (wanted : Option (List ℕ)) (made : Items) (vs : List Value) (i : ℕ) (all : Items) → length vs ≤ i
    → append_items made (told_all wanted (items_of (drop i vs))) ≡ all → made ≡ all
told_done wanted made vs i all h left =
    sym (append_items-none made)
    ∙ sym (ap (λ (ws : List Value). append_items made (told_all wanted (items_of ws))) (drop_all i vs h))
    ∙ left

-- entries hold documents that hold no others
pub told_levels : (wanted : Option (List ℕ)) (ts : Items) → items_levels (told_all wanted ts) ≤ 2
told_levels wanted no_items = omega (arith)
told_levels wanted (item t ts) = at (name_in (Some t)) (told_levels wanted ts)
  where
    told : (b : Bool) (name : List ℕ) → items_levels (told_all wanted ts) ≤ 2
        → items_levels (if b then item (document (told_of name)) (told_all wanted ts) else told_all wanted ts) ≤ 2
    told true name h = omega (arith, h)
    told false name h = h

    at : (name : Option (List ℕ)) → items_levels (told_all wanted ts) ≤ 2 → items_levels (with_told wanted name (told_all wanted ts)) ≤ 2
    at None h = h
    at (Some name) h = told (is_wanted wanted name) name h

-- of an entry without a name nothing is told, and of one that isn't wanted
pub untold : (wanted name : Option (List ℕ)) (made : Items) → None ≡ name → made ≡ append_items made (with_told wanted name no_items)
untold wanted name made e =
    sym (append_items-none made)
    ∙ ap (λ (n : Option (List ℕ)). append_items made (with_told wanted n no_items)) e

pub unwanted : (wanted name : Option (List ℕ)) (s : List ℕ) (made : Items) → Some s ≡ name → false ≡ is_wanted wanted s
    → made ≡ append_items made (with_told wanted name no_items)
unwanted wanted name s made e hasnt =
    sym (append_items-none made)
    ∙ ap (λ (b : Bool). append_items made (if b then item (document (told_of s)) no_items else no_items)) hasnt
    ∙ ap (λ (n : Option (List ℕ)). append_items made (with_told wanted n no_items)) e

pub told_shallow : (made : Items) (wanted : Option (List ℕ)) (ts : Items) → made ≡ told_all wanted ts → items_levels made ≤ 2
told_shallow made wanted ts is =
    let as_deep : items_levels made ≡ items_levels (told_all wanted ts) = ap items_levels is in
    omega (arith, as_deep, told_levels wanted ts)
