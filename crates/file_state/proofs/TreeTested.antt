-- A page passes the test of a root just where it heads a tree.
use Rattle.std.proofs.Common.{◌≡◌, ℕ, zero, suc, ◌^◌, Bool, ◌&&◌, List, [], ◌∷◌, length, map, take, drop, Option, Some, None}
use Rattle.std.proofs.Common.{Decides, refl, ap}
use Rattle.std.specs.Prelude.{nat_lt}
use Rattle.std.specs.List.{list_all}
use Rattle.std.specs.Ordering.{is_lt}
use Rattle.std.specs.Str.{bytes_eq}
use Rattle.std.proofs.ByRecursion as by_recursion
use Rattle.std.proofs.lemmas.Bool.Decides.{Decides-eqb, Decides-like, Decides-ltb, Decides-not}
use Rattle.std.proofs.lemmas.Slice.Eq.{bytes_eq-Decides}
use Rattle.page.specs.Content.{Place, inline, spilled, Item, Pivot, Content, leaf, branch, chain, free_list}
use Rattle.page.specs.Content.{IsPivot, IsBranch, IsItem, IsLeaf, IsPlace, pivot_keys, pivot_size, pivots_size, first_key, item_keys, item_size, rise, total}
use Rattle.tree_model.specs.Keys.{Each, IsBetween, IsUnder, IsWithin, Pair, Rises, is_within, key_cmp}
use Rattle.tree_model.specs.Store.{IsAt, Store}
use Rattle.tree_model.specs.Tree.{Body, HasChain, HasLinks, IsFan, IsSound, IsTree, IsWhole, Shows, Subtree, pivot_of, content_of, high_of, item_of, next_of}
use Rattle.tree_model.specs.Tree.{pair_keys, subtree_keys, with_low}
use Rattle.file_state.specs.TreeTests.{all_same, has_chain, has_links, is_pivot, is_at, is_between, is_branch, is_fan, is_item, is_leaf, is_place}
use Rattle.file_state.specs.TreeTests.{is_rise, is_root, is_sound, is_whole, same_pivot, same_content, same_item, same_place, shows}
use Rattle.file_state.proofs.TestLemmas.{◌also◌, implied_tested, le_tested, less_tested, true_tested}

-- ---- lists

each_tested : {X : Type 0} (p : X → Bool) (P : X → Type 0) → ((x : X) → Decides (p x) (P x)) → (xs : List X) → Decides (list_all p xs) (Each P xs)
each_tested p P each [] = (λ e. tt, λ h. refl)
each_tested p P each (x ∷ xs) = each x also each_tested p P each xs

same_tested : {X : Type 0} (test : X → X → Bool) → ((x y : X) → Decides (test x y) (x ≡ y)) → (xs ys : List X) → Decides (all_same test xs ys) (xs ≡ ys)
same_tested test each [] [] = (λ e. refl, λ e. refl)
same_tested test each [] (y ∷ ys) = (λ e. absurd cc, λ e. absurd cc)
same_tested test each (x ∷ xs) [] = (λ e. absurd cc, λ e. absurd cc)
same_tested test each (x ∷ xs) (y ∷ ys) =
    Decides-like (all_same test (x ∷ xs) (y ∷ ys)) (λ h i. h.0 i ∷ h.1 i)
    (λ e. let first : x ≡ y = cc in let rest : xs ≡ ys = cc in (first, rest))
    (each x y also same_tested test each xs ys)

-- ---- equal contents

place_same : (a b : Place) → Decides (same_place a b) (a ≡ b)
place_same (inline a) (inline b) = Decides-like (bytes_eq a b) (λ e i. inline (e i)) (λ e. cc) (bytes_eq-Decides a b)
place_same (inline a) (spilled len page) = (λ e. absurd cc, λ e. absurd cc)
place_same (spilled len page) (inline b) = (λ e. absurd cc, λ e. absurd cc)
place_same (spilled len page) (spilled size first) =
    Decides-like (same_place (spilled len page) (spilled size first)) (λ h i. spilled (h.0 i) (h.1 i))
    (λ e. let same : len ≡ size = cc in let at : page ≡ first = cc in (same, at))
    (Decides-eqb len size also Decides-eqb page first)

item_same : (a b : Item) → Decides (same_item a b) (a ≡ b)
item_same a b =
    Decides-like (same_item a b) (λ h i. record { key = h.0 i; place = h.1 i }) (λ e. (ap (λ (x : Item). x.key) e, ap (λ (x : Item). x.place) e))
    (bytes_eq-Decides a.key b.key also place_same a.place b.place)

pivot_same : (a b : Pivot) → Decides (same_pivot a b) (a ≡ b)
pivot_same a b =
    Decides-like (same_pivot a b) (λ h i. record { key = h.0 i; child = h.1 i }) (λ e. (ap (λ (x : Pivot). x.key) e, ap (λ (x : Pivot). x.child) e))
    (bytes_eq-Decides a.key b.key also Decides-eqb a.child b.child)

content_same : (a b : Content) → Decides (same_content a b) (a ≡ b)
content_same (leaf xs) (leaf ys) = Decides-like (same_content (leaf xs) (leaf ys)) (λ e i. leaf (e i)) (λ e. cc) (same_tested same_item item_same xs ys)
content_same (branch xs) (branch ys) =
    Decides-like (same_content (branch xs) (branch ys)) (λ e i. branch (e i)) (λ e. cc) (same_tested same_pivot pivot_same xs ys)
content_same (chain next xs) (chain after ys) =
    Decides-like (same_content (chain next xs) (chain after ys)) (λ h i. chain (h.0 i) (h.1 i))
    (λ e. let same : next ≡ after = cc in let bytes : xs ≡ ys = cc in (same, bytes))
    (Decides-eqb next after also bytes_eq-Decides xs ys)
content_same (free_list next xs) (free_list after ys) =
    Decides-like (same_content (free_list next xs) (free_list after ys)) (λ h i. free_list (h.0 i) (h.1 i))
    (λ e. let same : next ≡ after = cc in let pages : xs ≡ ys = cc in (same, pages))
    (Decides-eqb next after also bytes_eq-Decides xs ys)
content_same (leaf xs) (branch ys) = (λ e. absurd cc, λ e. absurd cc)
content_same (leaf xs) (chain after ys) = (λ e. absurd cc, λ e. absurd cc)
content_same (leaf xs) (free_list after ys) = (λ e. absurd cc, λ e. absurd cc)
content_same (branch xs) (leaf ys) = (λ e. absurd cc, λ e. absurd cc)
content_same (branch xs) (chain after ys) = (λ e. absurd cc, λ e. absurd cc)
content_same (branch xs) (free_list after ys) = (λ e. absurd cc, λ e. absurd cc)
content_same (chain next xs) (leaf ys) = (λ e. absurd cc, λ e. absurd cc)
content_same (chain next xs) (branch ys) = (λ e. absurd cc, λ e. absurd cc)
content_same (chain next xs) (free_list after ys) = (λ e. absurd cc, λ e. absurd cc)
content_same (free_list next xs) (leaf ys) = (λ e. absurd cc, λ e. absurd cc)
content_same (free_list next xs) (branch ys) = (λ e. absurd cc, λ e. absurd cc)
content_same (free_list next xs) (chain after ys) = (λ e. absurd cc, λ e. absurd cc)

-- ---- what the pages hold

module _ (s : Store) where
  at_tested : (n : ℕ) (content : Content) → Decides (is_at s n content) (IsAt s n content)
  at_tested n content =
      Decides-like (is_at s n content) (λ h. record { number = h.0.0; live = h.0.1; holds = h.1 }) (λ h. ((h.number, h.live), h.holds))
      (Decides-ltb 0 n also true_tested (s.live n) also content_same (s.page n) content)

  links_tested : (pages bytes : List ℕ) → Decides (has_links s pages bytes) (HasLinks s pages bytes)
  links_tested [] bytes = bytes_eq-Decides bytes []
  links_tested (page ∷ pages) bytes =
      Decides-like (has_links s (page ∷ pages) bytes) (λ h. (h.0.0, h.0.1, h.1)) (λ h. ((h.0, h.1), h.2))
      (Decides-ltb 0 (length bytes) also at_tested page (chain (next_of pages) (take 4076 bytes)) also links_tested pages (drop 4076 bytes))

  chain_tested : (x : Pair) → Decides (has_chain s x) (HasChain s x)
  chain_tested x =
      let some = Decides-ltb 0 (length x.links) in
      Decides-like (has_chain s x) (λ h long. h (some.1 long)) (λ h e. h (some.0 e))
      (implied_tested (nat_lt 0 (length x.links)) (has_links s x.links x.value) (links_tested x.links x.value))

  shown_tested : (d : ℕ) (body : Body d) → Decides (shows s d body) (Shows s d body)
  shown_tested zero pairs = each_tested (has_chain s) (HasChain s) chain_tested pairs
  shown_tested (suc d) subtrees =
      each_tested (λ w. is_at s w.page (content_of d w.body) && shows s d w.body) (λ w. IsAt s w.page (content_of d w.body) × Shows s d w.body)
      (λ w. at_tested w.page (content_of d w.body) also shown_tested d w.body) subtrees

-- ---- what a page of the tree may hold

place_tested : (place : Place) → Decides (is_place place) (IsPlace place)
place_tested (inline value) = le_tested (length value) 330
place_tested (spilled len page) =
    Decides-like (is_place (spilled len page)) (λ h. (h.0.0, h.0.1, h.1)) (λ h. ((h.0, h.1), h.2))
    (Decides-ltb 330 len also Decides-ltb len (2 ^ 32) also Decides-ltb page (2 ^ 32))

item_tested : (item : Item) → Decides (is_item item) (IsItem item)
item_tested item =
    Decides-like (is_item item) (λ h. record { size = h.0; place = h.1 }) (λ h. (h.size, h.place))
    (le_tested (item_size item) 1360 also place_tested item.place)

pivot_tested : (pivot : Pivot) → Decides (is_pivot pivot) (IsPivot pivot)
pivot_tested pivot =
    Decides-like (is_pivot pivot) (λ h. record { size = h.0; child = h.1 }) (λ h. (h.size, h.child))
    (le_tested (pivot_size pivot) 1360 also Decides-ltb pivot.child (2 ^ 32))

leaf_tested : (items : List Item) → Decides (is_leaf items) (IsLeaf items)
leaf_tested items =
    Decides-like (is_leaf items) (λ h. record { some = h.0.0.0; each = h.0.0.1; ascending = h.0.1; room = h.1 })
    (λ h. (((h.some, h.each), h.ascending), h.room))
    (Decides-ltb 0 (length items) also by_recursion.Decides-by_and is_item IsItem (list_all is_item) item_tested refl (λ _ _. refl) items
    also true_tested (rise (item_keys items)) also le_tested (total item_size items) 4080)

branch_tested : (pivots : List Pivot) → Decides (is_branch pivots) (IsBranch pivots)
branch_tested pivots =
    Decides-like (is_branch pivots) (λ h. record { some = h.0.0.0.0; bare = h.0.0.0.1; each = h.0.0.1; ascending = h.0.1; room = h.1 })
    (λ h. ((((h.some, h.bare), h.each), h.ascending), h.room))
    (le_tested 2 (length pivots) also bytes_eq-Decides (first_key pivots) []
    also by_recursion.Decides-by_and is_pivot IsPivot (list_all is_pivot) pivot_tested refl (λ _ _. refl) pivots
    also true_tested (rise (pivot_keys pivots)) also le_tested (pivots_size pivots) 4080)

whole_tested : (d : ℕ) (body : Body d) → Decides (is_whole d body) (IsWhole d body)
whole_tested zero pairs = leaf_tested (map item_of pairs)
whole_tested (suc d) subtrees = branch_tested (map pivot_of subtrees)

-- ---- order

within_tested : (high : Option (List ℕ)) (key : List ℕ) → Decides (is_within high key) (IsWithin high key)
within_tested None key = (λ e. tt, λ h. refl)
within_tested (Some high) key = less_tested (key_cmp key high)

between_tested : (low : List ℕ) (high : Option (List ℕ)) (key : List ℕ) → Decides (is_between low high key) (IsBetween low high key)
between_tested low high key = Decides-not (is_lt (key_cmp key low)) (less_tested (key_cmp key low)) also within_tested high key

pub rise_tested : (keys : List (List ℕ)) → Decides (is_rise keys) (Rises keys)
rise_tested [] = (λ e. tt, λ h. refl)
rise_tested (key ∷ keys) = each_tested (λ k. is_lt (key_cmp key k)) (IsUnder key) (λ k. less_tested (key_cmp key k)) keys also rise_tested keys

fan_tested : {B : Type 0} (lies : List ℕ → Option (List ℕ) → B → Bool) (Lies : List ℕ → Option (List ℕ) → B → Type 0)
    → ((low : List ℕ) (high : Option (List ℕ)) (body : B) → Decides (lies low high body) (Lies low high body))
    → (high : Option (List ℕ)) (ws : List (Subtree B)) → Decides (is_fan lies high ws) (IsFan Lies high ws)
fan_tested lies Lies each high [] = (λ e. tt, λ h. refl)
fan_tested lies Lies each high (w ∷ ws) = each w.key (high_of high ws) w.body also fan_tested lies Lies each high ws

sound_tested : (d : ℕ) (low : List ℕ) (high : Option (List ℕ)) (body : Body d) → Decides (is_sound d low high body) (IsSound d low high body)
sound_tested zero low high pairs =
    rise_tested (pair_keys pairs) also each_tested (is_between low high) (IsBetween low high) (between_tested low high) (pair_keys pairs)
sound_tested (suc d) low high subtrees =
    Decides-like (is_sound (suc d) low high subtrees) (λ h. (h.0.0, h.0.1, h.1)) (λ h. ((h.0, h.1), h.2))
    (fan_tested (λ from to body. is_whole d body && is_sound d from to body) (λ from to body. IsWhole d body × IsSound d from to body)
    (λ from to body. whole_tested d body also sound_tested d from to body) high (with_low low subtrees)
    also rise_tested (subtree_keys (with_low low subtrees))
    also each_tested (is_within high) (IsWithin high) (within_tested high) (subtree_keys (with_low low subtrees)))

-- ---- a whole tree

pub root_tested : (s : Store) (root d : ℕ) (body : Body d) → Decides (is_root s root d body) (IsTree s root d body)
root_tested s root d body =
    Decides-like (is_root s root d body) (λ h. record { at = h.0.0.0.0; shown = h.0.0.0.1; whole = h.0.0.1; sound = h.0.1; depth = h.1 })
    (λ h. ((((h.at, h.shown), h.whole), h.sound), h.depth))
    (at_tested s root (content_of d body) also shown_tested s d body also whole_tested d body also sound_tested d [] None body also Decides-ltb d 32)
