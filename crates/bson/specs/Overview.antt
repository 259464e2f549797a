-- What is kept beside a document's pairs and an array's items, and that it is right.
use Rattle.std.specs.Prelude.{◌≡◌, ℕ, ◌<◌, ◌^◌, List}
use Rattle.std.specs.BTreeMap.{get_by_text}
use Rattle.bson.specs.Tree.{Pairs, Items}
use Rattle.bson.specs.Edits.{place, pairs_len, items_len}
use Rattle.bson.specs.Depths.{pairs_at, items_at, Counts}
use Rattle.bson.specs.declared.depths.Depths.{Depths}
use Rattle.bson.specs.declared.overview.Overview.{Overview}
use Rattle.bson.specs.declared.beside.Beside.{Beside}
use Rattle.bson.specs.declared.beside.Beside.TheVariants as beside
use Rattle.bson.specs.declared.nesting.Nesting.{Nesting}
use Rattle.bson.specs.declared.nesting.Nesting.TheVariants as nesting

-- an overview tells of these pairs where each name stands, of every other name that it stands
-- nowhere, and how many of the values nest how deep
pub record Tells (o : Overview) (ps : Pairs) : Type 0 where
  pub placed : (name : List ℕ) → get_by_text o.places name ≡ place ps name
  pub counts : Counts o.depths.counts (pairs_at ps)
  pub few_enough : pairs_len ps < 2 ^ 64

-- how deep the values nest
abbrev pub levels_of : Beside → ℕ
levels_of (beside.Plain levels edits) = levels
levels_of (beside.Many levels overview) = levels

-- there is no overview, or it tells of these pairs
abbrev pub Fits : Beside → Pairs → Type 0
Fits (beside.Plain levels edits) ps = Unit {0}
Fits (beside.Many levels overview) ps = Tells overview.value ps

-- how many items nest how deep
pub record CountsItems (d : Depths) (ts : Items) : Type 0 where
  pub counts : Counts d.counts (items_at ts)
  pub few_enough : items_len ts < 2 ^ 64

-- how deep the items nest
abbrev pub nested : Nesting → ℕ
nested (nesting.Plain levels edits) = levels
nested (nesting.Counted levels depths) = levels

-- it is not counted, or of these items
abbrev pub FitsItems : Nesting → Items → Type 0
FitsItems (nesting.Plain levels edits) ts = Unit {0}
FitsItems (nesting.Counted levels depths) ts = CountsItems depths.value ts
