-- Fields of one document that are taken away together: their names are marked, and the pairs of
-- these names left out.
use Rattle.std.specs.Prelude.{ℕ, ◌&&◌, Bool, true, false, if◌then◌else◌, List, [], ◌∷◌}
use Rattle.std.specs.Option.{is_some}
use Rattle.std.specs.Str.{bytes_eq}
use Rattle.bson.specs.Edits.{put}
use Rattle.bson.specs.Tree.{scalar, null, Pairs, no_pairs, pair, Items}
use Rattle.bson.specs.Lookup.{lookup}
use Rattle.path.specs.Edits.{cut_item, cut_off, cut_at}
use Rattle.path.specs.Parts.{index_of}
use Rattle.update_model.specs.Update.{Path, Action, unset, Edit}

abbrev pub is_one_name : Path → Bool
is_one_name [] = false
is_one_name (name ∷ []) = true
is_one_name (name ∷ other ∷ rest) = false

-- the path is that of a field, or an element, of what stands at the other's end
abbrev pub is_below : Path → Path → Bool
is_below [] path = is_one_name path
is_below (name ∷ parent) [] = false
is_below (name ∷ parent) (first ∷ rest) = bytes_eq name first && is_below parent rest

abbrev pub takes_away : Action → Bool
takes_away unset = true
takes_away other = false

abbrev pub is_unset : Edit → Bool
is_unset e = takes_away e.action

abbrev pub is_unset_below : Path → Edit → Bool
is_unset_below parent e = if takes_away e.action then is_below parent e.path else false

abbrev pub last_name : Path → List ℕ
last_name [] = []
last_name (name ∷ []) = name
last_name (name ∷ next ∷ rest) = last_name (next ∷ rest)

-- without what stands at the paths of these edits
abbrev pub cut_all : List Edit → Pairs → Pairs
cut_all [] ps = ps
cut_all (e ∷ es) ps = cut_all es (cut_at e.path ps)

-- with a null under the last name of each edit's path
abbrev pub marked : List Edit → Pairs → Pairs
marked [] marks = marks
marked (e ∷ es) marks = marked es (put marks (last_name e.path) (scalar null))

-- the pairs whose names aren't marked
abbrev pub unmarked : Pairs → Pairs → Pairs
unmarked marks no_pairs = no_pairs
unmarked marks (pair name t ps) =
    if is_some (lookup marks name) then unmarked marks ps else pair name t (unmarked marks ps)

-- with null in place of the elements that the last names number
abbrev pub without_items : List Edit → Items → Items
without_items [] ts = ts
without_items (e ∷ es) ts =
    without_items es (cut_item (cut_off []) (index_of (last_name e.path)) ts)
