-- What a tree of pages is, and what it stands for.
--
-- A tree is a value apart from any store: `Body d` is what stands d levels above the leaves. That
-- all leaves stand at one depth is its type. What it means and its order are functions of that
-- value alone, so the only fact that speaks of a store is `Shows`.
use Rattle.std.specs.Prelude.{◌≡◌, ℕ, zero, suc, ◌<◌, ⊤, List, [], ◌∷◌, length, map, take, drop}
use Rattle.std.specs.Prelude.{Option, Some, None}
use Rattle.std.specs.List.{flat_map}
use Rattle.tree_model.specs.Keys.{Pair, Entry, entry_of, Each, Rises, IsWithin, IsBetween}
use Rattle.page.specs.Content.{Place, inline, spilled, Item, Pivot, Content, leaf, branch, chain}
use Rattle.page.specs.Content.{IsLeaf, IsBranch}
use Rattle.tree_model.specs.Store.{Store, IsAt}

-- a child with its low key and its page
pub record Subtree (B : Type 0) : Type 0 where
  pub key : List ℕ
  pub page : ℕ
  pub body : B

abbrev pub Body : ℕ → Type 0
Body zero = List Pair
Body (suc d) = List (Subtree (Body d))

-- ---- the pairs, in order

abbrev pub pairs_of : (d : ℕ) → Body d → List Pair
pairs_of zero pairs = pairs
pairs_of (suc d) subtrees = flat_map (λ w. pairs_of d w.body) subtrees

abbrev pub entries_of : (d : ℕ) → Body d → List Entry
entries_of d body = map entry_of (pairs_of d body)

-- the pages below, those of the values' chains among them
abbrev pub pages_of : (d : ℕ) → Body d → List ℕ
pages_of zero pairs = flat_map (λ x. x.links) pairs
pages_of (suc d) subtrees = flat_map (λ w. w.page ∷ pages_of d w.body) subtrees

-- ---- the page that holds a body

abbrev pub place_of : List ℕ → List ℕ → Place
place_of [] value = inline value
place_of (page ∷ pages) value = spilled (length value) page

abbrev pub item_of : Pair → Item
item_of x = record { key = x.key; place = place_of x.links x.value }

abbrev pub pivot_of : {B : Type 0} → Subtree B → Pivot
pivot_of w = record { key = w.key; child = w.page }

abbrev pub content_of : (d : ℕ) → Body d → Content
content_of zero pairs = leaf (map item_of pairs)
content_of (suc d) subtrees = branch (map pivot_of subtrees)

-- ---- order

abbrev pub high_of : {B : Type 0} → Option (List ℕ) → List (Subtree B) → Option (List ℕ)
high_of high [] = high
high_of high (w ∷ ws) = Some w.key

-- each child lies from its own key up to the next child's
abbrev pub IsFan : {B : Type 0} → (List ℕ → Option (List ℕ) → B → Type 0) → Option (List ℕ)
    → List (Subtree B) → Type 0
IsFan Lies high [] = ⊤
IsFan Lies high (w ∷ ws) = Lies w.key (high_of high ws) w.body × IsFan Lies high ws

-- the first child lies from the low bound on
abbrev pub with_low : {B : Type 0} → List ℕ → List (Subtree B) → List (Subtree B)
with_low low [] = []
with_low low (w ∷ ws) = record { key = low; page = w.page; body = w.body } ∷ ws

-- the content of a page of the tree
abbrev pub IsWhole : (d : ℕ) → Body d → Type 0
IsWhole zero pairs = IsLeaf (map item_of pairs)
IsWhole (suc d) subtrees = IsBranch (map pivot_of subtrees)

abbrev pub pair_keys : List Pair → List (List ℕ)
pair_keys pairs = map (λ x. x.key) pairs

abbrev pub subtree_keys : {B : Type 0} → List (Subtree B) → List (List ℕ)
subtree_keys subtrees = map (λ w. w.key) subtrees

-- keys rise strictly and lie between the bounds, and the pages below are whole
abbrev pub IsSound : (d : ℕ) → List ℕ → Option (List ℕ) → Body d → Type 0
IsSound zero low high pairs = Rises (pair_keys pairs) × Each (IsBetween low high) (pair_keys pairs)
IsSound (suc d) low high subtrees =
    let ws = with_low low subtrees in
    IsFan (λ from to body. IsWhole d body × IsSound d from to body) high ws × Rises
    (subtree_keys ws)
    × Each (IsWithin high) (subtree_keys ws)

-- ---- a store holds the pages below a body

abbrev pub next_of : List ℕ → ℕ
next_of [] = 0
next_of (page ∷ pages) = page

abbrev pub HasLinks : Store → List ℕ → List ℕ → Type 0
HasLinks s [] bytes = bytes ≡ []
HasLinks s (page ∷ pages) bytes =
    (0 < length bytes) × IsAt s page (chain (next_of pages) (take 4076 bytes))
    × HasLinks s pages (drop 4076 bytes)

abbrev pub HasChain : Store → Pair → Type 0
HasChain s x = 0 < length x.links → HasLinks s x.links x.value

abbrev pub Shows : Store → (d : ℕ) → Body d → Type 0
Shows s zero pairs = Each (HasChain s) pairs
Shows s (suc d) subtrees = Each (λ w. IsAt s w.page (content_of d w.body) × Shows s d w.body)
    subtrees

-- ---- a whole tree

pub record IsTree (s : Store) (root d : ℕ) (body : Body d) : Type 0 where
  pub at : IsAt s root (content_of d body)
  pub shown : Shows s d body
  pub whole : IsWhole d body
  pub sound : IsSound d [] None body
  pub depth : d < 32
