-- How many of the values of a document or an array nest how deep.
use Rattle.std.specs.Prelude.{◌≡◌, ℕ, suc, ◌+◌, ◌<◌, ◌≤◌, ◌==◌, if◌then◌else◌, List, length}
use Rattle.std.specs.Prelude.{slice_index}
use Rattle.bson.specs.Tree.{Pairs, no_pairs, pair, Items, no_items, item}
use Rattle.bson.specs.Lawful.{levels}

-- one, if a value that nests so deep is counted at this depth
abbrev pub one_at : ℕ → ℕ → ℕ
one_at depth l = if depth == l then 1 else 0

-- how many values nest just so deep
abbrev pub pairs_at : Pairs → ℕ → ℕ
pairs_at no_pairs l = 0
pairs_at (pair name t ps) l = one_at (levels t) l + pairs_at ps l

abbrev pub items_at : Items → ℕ → ℕ
items_at no_items l = 0
items_at (item t ts) l = one_at (levels t) l + items_at ts l

-- at each place stands how many nest so deep
pub record Counts (counts : List ℕ) (at : ℕ → ℕ) : Type 0 where
  pub sized : length counts ≡ 101
  pub counted : (l : ℕ) → l < 101 → slice_index counts l ≡ at l

-- no value nests deeper, and one as deep, where any nests
pub record IsDeepest (at : ℕ → ℕ) (depth : ℕ) : Type 0 where
  pub above : (l : ℕ) → depth < l → at l ≡ 0
  pub there : 0 < depth → 1 ≤ at depth
