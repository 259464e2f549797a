-- The groups that the code holds, and how it finds one by the text of its `_id`.
use Rattle.std.specs.Prelude.{◌≡◌, ℕ, ◌<◌, Bool, true, false, Option, Some, None, List, map, length}
use Rattle.std.specs.Prelude.{get_or, is_some}
use Rattle.std.specs.Global.{Vec}
use Rattle.std.specs.Str.{bytes_eq}
use Rattle.bson.specs.Tree.{Tree}
use Rattle.bson.specs.View.{tree}
use Rattle.indexmap.specs.IndexMap.{get}
use Rattle.value_order.specs.KeyText.{tree_text}
use Rattle.aggregate_model.specs.Group.{same}
use Rattle.aggregate.specs.States.{state_of}
use Rattle.aggregate.specs.Table.{Entry, has, Apart}
use Rattle.aggregate.specs.declared.groups.Group.{Group}
use Rattle.aggregate.specs.declared.groups.Groups.{Groups}

abbrev pub entry_of : Group → Entry
entry_of g = (tree g.id, map state_of g.states.items)

abbrev pub entries_of : Groups → List Entry
entries_of gs = map entry_of gs.groups.items

abbrev pub same_text : Vec ℕ → Vec ℕ → Bool
same_text a b = bytes_eq a.items b.items

-- No two groups have the same `_id`. A text is that of a place among them; the text of each one's
-- `_id` is known.
pub record IsIndexed (gs : Groups) : Type 0 where
  pub apart : Apart same (entries_of gs)
  pub within : (text : Vec ℕ) (at : ℕ) → get same_text gs.places text ≡ Some at
      → at < length gs.groups.items
  pub known : (text : Vec ℕ) (at : ℕ) (g : Group) → at < length gs.groups.items
      → text.items ≡ tree_text (tree (get_or gs.groups.items at g).id)
      → is_some (get same_text gs.places text) ≡ true

-- the place of the group of an `_id`, or there is none
abbrev pub IsPlace : List Group → Tree → Option ℕ → Type 0
IsPlace groups id None = has same (map entry_of groups) id ≡ false
IsPlace groups id (Some at) =
    (at < length groups) × ((g : Group) → same (tree (get_or groups at g).id) id ≡ true)
