-- Values that are put among others one after the other.
use Rattle.std.proofs.Common.{◌≡◌, ℕ, ◌+◌, ◌<◌, ◌≤◌, List, [], ◌∷◌, ◌++◌, length, map, drop, slice_index_or, Option, Some, None, refl, ap, sym, subst}
use Rattle.std.proofs.Common.{◌∙◌, arith}
use Rattle.std.proofs.Common.{add-one, drop-cons}
use Rattle.std.proofs.lemmas.List.{drop_all}
use Rattle.bson.specs.EditPlaces.{append_items-one, append_items-none}
use Rattle.bson.specs.Lawful.{levels, items_levels}
use Rattle.bson.specs.Tree.{Tree, Items, no_items, item, append_items}
use Rattle.bson.specs.View.{tree, items_of}
use Rattle.bson.specs.declared.value.Value.{Value}
use Rattle.path.specs.Reach.{Reached, items_list}
use Rattle.path.specs.View.{reached}
use Rattle.path.specs.declared.reaching.Reached.{Reached as Found}
use Rattle.distinct_values.specs.DistinctValues.{elements, all_elements, with_value, with_values, items_from, reached_levels}
use Rattle.distinct_values.proofs.FlatLemmas.{AreFlat}

pub with-append : (values ts us : List Tree) → with_values values (ts ++ us) ≡ with_values (with_values values ts) us
with-append values [] us = refl
with-append values (t ∷ ts) us = with-append (with_value values t) ts us

-- ---- the elements of an array

next_item : (vs : List Value) (i : ℕ) (v : Value) → i < length vs → items_of (drop i vs) ≡ item (tree (slice_index_or vs i v)) (items_of (drop (i + 1) vs))
next_item vs i v h =
    let parts : drop i vs ≡ slice_index_or vs i v ∷ drop (i + 1) vs = rw (add-one, drop-cons vs i v) refl in
    ap items_of parts

pub item_step : (values grown all : List Tree) (vs : List Value) (i : ℕ) (v : Value) → i < length vs → grown ≡ with_value values (tree (slice_index_or vs i v))
    → with_values values (items_list (items_of (drop i vs))) ≡ all → with_values grown (items_list (items_of (drop (i + 1) vs))) ≡ all
item_step values grown all vs i v h is left =
    ap (λ (ts : List Tree). with_values ts (items_list (items_of (drop (i + 1) vs)))) is
    ∙ sym (ap (λ (ts : Items). with_values values (items_list ts)) (next_item vs i v h))
    ∙ left

pub items_done : (values all : List Tree) (vs : List Value) (i : ℕ) → length vs ≤ i → with_values values (items_list (items_of (drop i vs))) ≡ all
    → values ≡ all
items_done values all vs i h left = sym (ap (λ (ws : List Value). with_values values (items_list (items_of ws))) (drop_all i vs h)) ∙ left

pub item_flat : (vs : List Value) (i : ℕ) (v : Value) → i < length vs → items_levels (items_of (drop i vs)) ≤ 98 → levels (tree (slice_index_or vs i v)) ≤ 98
item_flat vs i v h flat = let e : items_levels (items_of (drop i vs)) ≡ items_levels (item (tree (slice_index_or vs i v)) (items_of (drop (i + 1) vs))) =
    ap items_levels (next_item vs i v h) in omega (arith, e, flat)

pub rest_flat : (vs : List Value) (i : ℕ) (v : Value) → i < length vs → items_levels (items_of (drop i vs)) ≤ 98
    → items_levels (items_of (drop (i + 1) vs)) ≤ 98
rest_flat vs i v h flat = let e : items_levels (items_of (drop i vs)) ≡ items_levels (item (tree (slice_index_or vs i v)) (items_of (drop (i + 1) vs))) =
    ap items_levels (next_item vs i v h) in omega (arith, e, flat)

-- ---- what a path reaches

next_found : (rs : List Found) (i : ℕ) (r : Found) → i < length rs → map reached (drop i rs) ≡ reached (slice_index_or rs i r) ∷ map reached (drop (i + 1) rs)
next_found rs i r h =
    let parts : drop i rs ≡ slice_index_or rs i r ∷ drop (i + 1) rs = rw (add-one, drop-cons rs i r) refl in
    ap (map reached) parts

pub found_step : (values grown all : List Tree) (rs : List Found) (i : ℕ) (r : Found) → i < length rs
    → grown ≡ with_values values (elements (reached (slice_index_or rs i r)))
    → with_values values (all_elements (map reached (drop i rs))) ≡ all → with_values grown (all_elements (map reached (drop (i + 1) rs))) ≡ all
found_step values grown all rs i r h is left =
    ap (λ (ts : List Tree). with_values ts (all_elements (map reached (drop (i + 1) rs)))) is
    ∙ sym (with-append values (elements (reached (slice_index_or rs i r))) (all_elements (map reached (drop (i + 1) rs))))
    ∙ sym (ap (λ (ss : List Reached). with_values values (all_elements ss)) (next_found rs i r h))
    ∙ left

pub found_done : (values all : List Tree) (rs : List Found) (i : ℕ) → length rs ≤ i → with_values values (all_elements (map reached (drop i rs))) ≡ all
    → values ≡ all
found_done values all rs i h left = sym (ap (λ (ss : List Found). with_values values (all_elements (map reached ss))) (drop_all i rs h)) ∙ left

pub found_flat : (rs : List Found) (i : ℕ) (r : Found) → i < length rs → AreFlat 98 (map reached (drop i rs))
    → (reached_levels (reached (slice_index_or rs i r)) ≤ 98) × AreFlat 98 (map reached (drop (i + 1) rs))
found_flat rs i r h flat = subst (AreFlat 98) (next_found rs i r h) flat

-- ---- as an array

pub push_step : (made grown all : Items) (left next : List Tree) (t u : Tree) → left ≡ t ∷ next → u ≡ t → grown ≡ append_items made (item u no_items)
    → append_items made (items_from left) ≡ all → append_items grown (items_from next) ≡ all
push_step made grown all left next t u parts same is so_far =
    ap (λ (ts : Items). append_items ts (items_from next)) is
    ∙ append_items-one made u (items_from next)
    ∙ ap (λ (s : Tree). append_items made (item s (items_from next))) same
    ∙ sym (ap (λ (ts : List Tree). append_items made (items_from ts)) parts)
    ∙ so_far

pub push_done : (made all : Items) (left : List Tree) → left ≡ [] → append_items made (items_from left) ≡ all → made ≡ all
push_done made all left none so_far = sym (append_items-none made) ∙ sym (ap (λ (ts : List Tree). append_items made (items_from ts)) none) ∙ so_far
