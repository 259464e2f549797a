-- Fields of one document that are renamed together: the names that are gone are marked, and what
-- moved stands in a document of its own, behind what is kept.
use Rattle.std.specs.Prelude.{◌≡◌, ℕ, Bool, false, if◌then◌else◌, Option, Some, None, List, [], ◌∷◌}
use Rattle.bson.specs.Edits.{put, cut}
use Rattle.bson.specs.Tree.{Tree, Pairs, append}
use Rattle.bson.specs.Lookup.{lookup}
use Rattle.update.specs.Unsets.{is_below, last_name, unmarked}
use Rattle.update_model.specs.Update.{Path, Action, rename, Edit}

abbrev pub moves_below : Path → Action → Bool
moves_below parent (rename new) = is_below parent new
moves_below parent other = false

-- the edit moves a field of what stands at the end of these parts to another field of it
abbrev pub is_rename_below : Path → Edit → Bool
is_rename_below parent e =
    if moves_below parent e.action then is_below parent e.path else false

-- the pairs once what stands under a name, if anything does, stands last under another
abbrev pub moved_found : List ℕ → List ℕ → Pairs → Option Tree → Pairs
moved_found old new ps None = ps
moved_found old new ps (Some t) = put (cut (cut ps old) new) new t

abbrev pub moved_field : List ℕ → List ℕ → Pairs → Pairs
moved_field old new ps = moved_found old new ps (lookup ps old)

abbrev pub moved_by : List ℕ → Action → Pairs → Pairs
moved_by old (rename new) ps = moved_field old (last_name new) ps
moved_by old other ps = ps

-- the pairs once each edit has moved the field of its last name
abbrev pub renamed : List Edit → Pairs → Pairs
renamed [] ps = ps
renamed (e ∷ es) ps = renamed es (moved_by (last_name e.path) e.action ps)

-- ---- while it is done

abbrev pub rename_of : Path → Path → Edit
rename_of old new = record { path = old; action = rename new }

-- the pairs that are kept and aren't gone, and those that moved
abbrev pub whole : Pairs → Pairs → Pairs → Pairs
whole gone kept moved = append (unmarked gone kept) moved

-- what moved is gone from its place
abbrev pub AreGone : Pairs → Pairs → Type 0
AreGone moved gone = (name : List ℕ) → lookup gone name ≡ None → lookup moved name ≡ None
