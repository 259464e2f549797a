-- What a path reaches in a document that BSON can spell can be spelled in no more bytes.
use Rattle.std.proofs.Common.{ℕ, zero, suc, ◌+◌, ◌≤◌, Bool, true, false, List, [], ◌∷◌, ◌++◌, length, map, Option, Some, None, arith, length-append}
use Rattle.std.specs.Prelude.{if◌then◌else◌}
use Rattle.std.specs.List.{AllByRecursion, flat_map}
use Rattle.std.specs.Option.{option_and_then}
use Rattle.std.specs.Str.{bytes_eq}
use Rattle.std.specs.Fmt.{decimal}
use Rattle.bson.specs.Tree.{Tree, scalar, null, document, array, Pairs, no_pairs, pair, Items, no_items, item}
use Rattle.bson.specs.Lookup.{lookup}
use Rattle.bson.specs.Edits.{item_at}
use Rattle.bson.specs.Lawful.{IsTree, IsPairs, IsItems}
use Rattle.bson.specs.SizingLaws.{pairs_size-pair}
use Rattle.bson.specs.Spelling.{tree_bytes, pairs_bytes, items_bytes}
use Rattle.value_order.specs.Laws.{IsKey}
use Rattle.value_order.specs.Order.{Key, value}
use Rattle.path.specs.Parts.{parts_of, is_digits, index_of}
use Rattle.path.specs.Reach.{Reached, reach, onwards, in_elements, in_place, items_list}
use Rattle.index.specs.Definition.{Field}
use Rattle.index.specs.IndexKeys.{array_keys, keys_of, or_missing, field_keys, index_keys}
use Rattle.index.specs.Laws.{IsIndexKey, KeysSpellable}

-- a value that BSON can spell in so many bytes
pub record Fits (most : ℕ) (t : Tree) : Type 0 where
  pub lawful : IsTree t
  pub size : length (tree_bytes t) ≤ most

abbrev pub IfFound : ℕ → Option Tree → Type 0
IfFound most None = Unit {0}
IfFound most (Some t) = Fits most t

append_all : {X : Type 0} (P : X → Type 0) (xs ys : List X) → AllByRecursion P xs → AllByRecursion P ys → AllByRecursion P (xs ++ ys)
append_all P [] ys g h = h
append_all P (x ∷ xs) ys g h = (g.0, append_all P xs ys g.1 h)

-- ---- inside a document and an array

pairs_inside : (most : ℕ) (ps : Pairs) → Fits most (document ps) → length (pairs_bytes ps) ≤ most
unfolding tree_bytes
pairs_inside most ps h = omega (arith, h.size, length-append (pairs_bytes ps) (0 ∷ []))

items_inside : (most : ℕ) (ts : Items) → Fits most (array ts) → length (items_bytes 0 ts) ≤ most
unfolding tree_bytes
items_inside most ts h = omega (arith, h.size, length-append (items_bytes 0 ts) (0 ∷ []))

pub field_fits : (most : ℕ) (ps : Pairs) (name : List ℕ) → IsPairs ps → length (pairs_bytes ps) ≤ most → IfFound most (lookup ps name)
field_fits most no_pairs name h small = tt
field_fits most (pair other t ps) name h small = by (bytes_eq name other) (field_fits most ps name h.3 (omega (arith, small, pairs_size-pair other t ps)))
  where
    by : (b : Bool) → IfFound most (lookup ps name) → IfFound most (if b then Some t else lookup ps name)
    by true later = record { lawful = h.1; size = omega (arith, small, pairs_size-pair other t ps) }
    by false later = later

abbrev AllFit : ℕ → Items → Type 0
AllFit most no_items = Unit {0}
AllFit most (item t ts) = Fits most t × AllFit most ts

items_fit : (most i : ℕ) (ts : Items) → IsItems ts → length (items_bytes i ts) ≤ most → AllFit most ts
unfolding items_bytes
items_fit most i no_items h small = tt
items_fit most i (item t ts) h small = (
  record {
    lawful = h.0;
    size = omega (arith, small, length-append (decimal i ++ 0 ∷ tree_bytes t) (items_bytes (i + 1) ts), length-append (decimal i) (0 ∷ tree_bytes t));
  },
  items_fit most (i + 1) ts h.1 (omega (arith, small, length-append (decimal i ++ 0 ∷ tree_bytes t) (items_bytes (i + 1) ts))),
)

item_fits : (most : ℕ) (ts : Items) (i : ℕ) → AllFit most ts → IfFound most (item_at ts i)
item_fits most no_items i h = tt
item_fits most (item t ts) zero h = h.0
item_fits most (item t ts) (suc i) h = item_fits most ts i h.1

-- ---- what is reached

abbrev Goes : ℕ → (Tree → List Reached) → Type 0
Goes most go = (t : Tree) → Fits most t → AllByRecursion (IfFound most) (go t)

on_fits : (most : ℕ) (go : Tree → List Reached) (found : Option Tree) (none : List Reached) → Goes most go → IfFound most found
    → AllByRecursion (IfFound most) none → AllByRecursion (IfFound most) (onwards go found none)
on_fits most go None none continues h n = n
on_fits most go (Some t) none continues h n = continues t h

elements_fit : (most : ℕ) (go : Tree → List Reached) (name : List ℕ) (ts : Items) → Goes most go → AllFit most ts
    → AllByRecursion (IfFound most) (in_elements go name ts)
elements_fit most go name no_items continues h = tt
elements_fit most go name (item (scalar s) ts) continues h = elements_fit most go name ts continues h.1
elements_fit most go name (item (array us) ts) continues h = elements_fit most go name ts continues h.1
elements_fit most go name (item (document ps) ts) continues h =
    append_all (IfFound most) (onwards go (lookup ps name) (if is_digits name then [] else None ∷ [])) (in_elements go name ts)
    (on_fits most go (lookup ps name) (if is_digits name then [] else None ∷ []) continues (field_fits most ps name h.0.lawful (pairs_inside most ps h.0))
    (either (is_digits name)))
    (elements_fit most go name ts continues h.1)
  where
    either : (b : Bool) → AllByRecursion (IfFound most) (if b then [] else None ∷ [])
    either true = tt
    either false = (tt, tt)

place_fits : (most : ℕ) (go : Tree → List Reached) (name : List ℕ) (ts : Items) → Goes most go → AllFit most ts
    → AllByRecursion (IfFound most) (in_place go name ts)
place_fits most go name ts continues h = by (index_of name)
  where
    by : (at : Option ℕ) → AllByRecursion (IfFound most) (onwards go (option_and_then (item_at ts) at) [])
    by None = tt
    by (Some i) = on_fits most go (item_at ts i) [] continues (item_fits most ts i h) tt

reach_fits : (most : ℕ) (parts : List (List ℕ)) → Goes most (reach parts)
reach_fits most [] t h = (h, tt)
reach_fits most (name ∷ rest) (scalar s) h = (tt, tt)
reach_fits most (name ∷ rest) (document ps) h =
    on_fits most (reach rest) (lookup ps name) (None ∷ []) (reach_fits most rest) (field_fits most ps name h.lawful (pairs_inside most ps h)) (tt, tt)
reach_fits most (name ∷ rest) (array ts) h =
    let all = items_fit most 0 ts h.lawful (items_inside most ts h) in
    append_all (IfFound most) (in_elements (reach rest) name ts) (in_place (reach rest) name ts)
    (elements_fit most (reach rest) name ts (reach_fits most rest) all) (place_fits most (reach rest) name ts (reach_fits most rest) all)

-- ---- keys

abbrev Small : Reached → Type 0
Small r = IfFound 1048576 r

key_of_tree : (t : Tree) → Fits 1048576 t → IsKey (value t)
key_of_tree t h = (h.lawful, h.size)

null_key : IsKey (value (scalar null))
unfolding tree_bytes
null_key = (tt, omega arith)

values_are_keys : (ts : Items) → AllFit 1048576 ts → AllByRecursion IsKey (map value (items_list ts))
values_are_keys no_items h = tt
values_are_keys (item t ts) h = (key_of_tree t h.0, values_are_keys ts h.1)

array_are_keys : (ts : Items) → AllFit 1048576 ts → AllByRecursion IsKey (array_keys ts)
array_are_keys no_items h = (tt, tt)
array_are_keys (item t ts) h = values_are_keys (item t ts) h

are_keys : (r : Reached) → Small r → AllByRecursion IsKey (keys_of r)
are_keys None h = (null_key, tt)
are_keys (Some (scalar s)) h = (key_of_tree (scalar s) h, tt)
are_keys (Some (document ps)) h = (key_of_tree (document ps) h, tt)
are_keys (Some (array ts)) h = array_are_keys ts (items_fit 1048576 0 ts h.lawful (items_inside 1048576 ts h))

all_are_keys : (rs : List Reached) → AllByRecursion Small rs → AllByRecursion IsKey (flat_map keys_of rs)
all_are_keys [] h = tt
all_are_keys (r ∷ rs) h = append_all IsKey (keys_of r) (flat_map keys_of rs) (are_keys r h.0) (all_are_keys rs h.1)

or_missing_small : (rs : List Reached) → AllByRecursion Small rs → AllByRecursion Small (or_missing rs)
or_missing_small [] h = (tt, tt)
or_missing_small (r ∷ rs) h = h

with_key : (f : Field) (fs : List Field) (k : Key) (is : List (List Key)) → IsKey k → AllByRecursion (IsIndexKey fs) is
    → AllByRecursion (IsIndexKey (f ∷ fs)) (map (λ ks. k ∷ ks) is)
with_key f fs k [] g h = tt
with_key f fs k (ks ∷ is) g h = ((g, h.0), with_key f fs k is g h.1)

with_keys : (f : Field) (fs : List Field) (ks : List Key) (is : List (List Key)) → AllByRecursion IsKey ks → AllByRecursion (IsIndexKey fs) is
    → AllByRecursion (IsIndexKey (f ∷ fs)) (flat_map (λ k. map (λ rest. k ∷ rest) is) ks)
with_keys f fs [] is g h = tt
with_keys f fs (k ∷ ks) is g h =
    append_all (IsIndexKey (f ∷ fs)) (map (λ rest. k ∷ rest) is) (flat_map (λ l. map (λ rest. l ∷ rest) is) ks) (with_key f fs k is g.0 h)
    (with_keys f fs ks is g.1 h)

pub keys_spellable : KeysSpellable
keys_spellable [] ps h = (tt, tt)
keys_spellable (f ∷ fs) ps h =
    let reached = reach_fits 1048576 (parts_of f.path) (document ps) (record { lawful = h.0; size = h.1 }) in
    with_keys f fs (field_keys f.path ps) (index_keys fs ps)
    (all_are_keys (or_missing (reach (parts_of f.path) (document ps))) (or_missing_small (reach (parts_of f.path) (document ps)) reached))
    (keys_spellable fs ps h)
