-- Whether a page is the root of a tree, as a test. Any page gives a body of any height
-- (`body_in`), and of a body the tests below are true just where what they are named after holds:
-- `is_whole` where `IsWhole`, `is_root` where `IsTree` (btree, specs/Tree).
use Rattle.std.specs.Prelude.{ℕ, zero, suc, ◌^◌, Bool, true, false, not, ◌&&◌, ◌==◌, nat_lt, nat_le}
use Rattle.std.specs.Prelude.{if◌then◌else◌, List, [], ◌∷◌, length, map, take, drop, Option, None}
use Rattle.std.specs.List.{list_all}
use Rattle.std.specs.Ordering.{is_lt}
use Rattle.std.specs.Str.{bytes_eq}
use Rattle.page.specs.Content.{Place, inline, spilled, Item, Pivot, Content, leaf, branch, chain}
use Rattle.page.specs.Content.{pivot_keys, pivot_size, pivots_size, first_key, free_list, item_keys}
use Rattle.page.specs.Content.{item_size, rise, total}
use Rattle.tree_model.specs.Keys.{Pair, is_within, key_cmp}
use Rattle.tree_model.specs.Store.{Store}
use Rattle.tree_model.specs.Tree.{Body, Subtree, pivot_of, content_of, high_of, item_of, next_of}
use Rattle.tree_model.specs.Tree.{pair_keys}
use Rattle.tree_model.specs.Tree.{subtree_keys, with_low}
use Rattle.file_state.specs.Entries.{value_in}
use Rattle.file_state.specs.StateTests.{all_pairs, implies}

-- ---- what would be below a page

-- the pages of a chain behind this one
abbrev pub links_behind : Content → (ℕ → List ℕ) → List ℕ
links_behind (chain next bytes) later = if next == 0 then [] else later next
links_behind other later = []

-- the pages of a chain from a page on, so many at most
abbrev pub links_from : (ℕ → Content) → ℕ → ℕ → List ℕ
links_from pages zero page = []
links_from pages (suc most) page = page ∷ links_behind (pages page) (links_from pages most)

-- Each page of a value's chain has a byte of it or more.
abbrev pub links_in : (ℕ → Content) → Place → List ℕ
links_in pages (inline value) = []
links_in pages (spilled len page) = links_from pages len page

abbrev pub pair_in : (ℕ → Content) → Item → Pair
pair_in pages item = record {
  key = item.key;
  value = value_in pages item.place;
  links = links_in pages item.place;
}

-- the body of so many levels above the leaves that a page with this content heads
abbrev pub body_in : (ℕ → Content) → (d : ℕ) → Content → Body d
body_in pages zero (leaf items) = map (pair_in pages) items
body_in pages zero other = []
body_in pages (suc d) (branch pivots) =
    map (λ pivot. record {
      key = pivot.key;
      page = pivot.child;
      body = body_in pages d (pages pivot.child);
    }) pivots
body_in pages (suc d) other = []

-- ---- equal contents

-- both lists have as many elements, and those at one place pass
abbrev pub all_same : {X : Type 0} → (X → X → Bool) → List X → List X → Bool
all_same test [] [] = true
all_same test (x ∷ xs) (y ∷ ys) = test x y && all_same test xs ys
all_same test xs ys = false

abbrev pub same_place : Place → Place → Bool
same_place (inline value) (inline other) = bytes_eq value other
same_place (spilled len page) (spilled size first) = len == size && page == first
same_place place other = false

abbrev pub same_item : Item → Item → Bool
same_item item other = bytes_eq item.key other.key && same_place item.place other.place

abbrev pub same_pivot : Pivot → Pivot → Bool
same_pivot pivot other = bytes_eq pivot.key other.key && pivot.child == other.child

abbrev pub same_content : Content → Content → Bool
same_content (leaf items) (leaf others) = all_same same_item items others
same_content (branch pivots) (branch others) = all_same same_pivot pivots others
same_content (chain next bytes) (chain after others) = next == after && bytes_eq bytes others
same_content (free_list next pages) (free_list after others) =
    next == after && bytes_eq pages others
same_content content other = false

-- ---- what the pages hold

-- a live page with this content
abbrev pub is_at : Store → ℕ → Content → Bool
is_at s n content = nat_lt 0 n && s.live n && same_content (s.page n) content

-- these pages are a chain with these bytes
abbrev pub has_links : Store → List ℕ → List ℕ → Bool
has_links s [] bytes = bytes_eq bytes []
has_links s (page ∷ pages) bytes =
    nat_lt 0 (length bytes) && is_at s page (chain (next_of pages) (take 4076 bytes))
    && has_links s pages (drop 4076 bytes)

abbrev pub has_chain : Store → Pair → Bool
has_chain s x = implies (nat_lt 0 (length x.links)) (has_links s x.links x.value)

-- the pages below a body hold it
abbrev pub shows : Store → (d : ℕ) → Body d → Bool
shows s zero pairs = list_all (has_chain s) pairs
shows s (suc d) subtrees =
    list_all (λ w. is_at s w.page (content_of d w.body) && shows s d w.body) subtrees

-- ---- what a page of the tree may hold

abbrev pub is_place : Place → Bool
is_place (inline value) = nat_le (length value) 330
is_place (spilled len page) = nat_lt 330 len && nat_lt len (2 ^ 32) && nat_lt page (2 ^ 32)

abbrev pub is_item : Item → Bool
is_item item = nat_le (item_size item) 1360 && is_place item.place

abbrev pub is_pivot : Pivot → Bool
is_pivot pivot = nat_le (pivot_size pivot) 1360 && nat_lt pivot.child (2 ^ 32)

-- one cell or more, in order, that find room
abbrev pub is_leaf : List Item → Bool
is_leaf items =
    nat_lt 0 (length items) && list_all is_item items && rise (item_keys items)
    && nat_le (total item_size items) 4080

-- two children or more, in order, that find room
abbrev pub is_branch : List Pivot → Bool
is_branch pivots =
    nat_le 2 (length pivots) && bytes_eq (first_key pivots) [] && list_all is_pivot pivots
    && rise (pivot_keys pivots) && nat_le (pivots_size pivots) 4080

abbrev pub is_whole : (d : ℕ) → Body d → Bool
is_whole zero pairs = is_leaf (map item_of pairs)
is_whole (suc d) subtrees = is_branch (map pivot_of subtrees)

-- ---- order

abbrev pub is_between : List ℕ → Option (List ℕ) → List ℕ → Bool
is_between low high key = not (is_lt (key_cmp key low)) && is_within high key

-- keys rise strictly
abbrev pub is_rise : List (List ℕ) → Bool
is_rise keys = all_pairs (λ a b. is_lt (key_cmp a b)) keys

-- each child passes between its own key and the next child's
abbrev pub is_fan : {B : Type 0} → (List ℕ → Option (List ℕ) → B → Bool) → Option (List ℕ)
    → List (Subtree B) → Bool
is_fan lies high [] = true
is_fan lies high (w ∷ ws) = lies w.key (high_of high ws) w.body && is_fan lies high ws

-- keys rise and lie between the bounds, and the pages below are whole
abbrev pub is_sound : (d : ℕ) → List ℕ → Option (List ℕ) → Body d → Bool
is_sound zero low high pairs =
    is_rise (pair_keys pairs) && list_all (is_between low high) (pair_keys pairs)
is_sound (suc d) low high subtrees =
    is_fan (λ from to body. is_whole d body && is_sound d from to body) high (with_low low subtrees)
    && is_rise (subtree_keys (with_low low subtrees))
    && list_all (is_within high) (subtree_keys (with_low low subtrees))

-- ---- a whole tree

-- the page heads a tree with this body
abbrev pub is_root : Store → ℕ → (d : ℕ) → Body d → Bool
is_root s root d body =
    is_at s root (content_of d body) && shows s d body && is_whole d body
    && is_sound d [] None body && nat_lt d 32
