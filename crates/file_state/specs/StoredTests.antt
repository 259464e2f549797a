-- Whether documents are such as commands store, as a test, and the collections of an image where
-- all of them are.
use Rattle.std.specs.Prelude.{ℕ, Bool, false, ◌&&◌, if◌then◌else◌, List, [], is_some, is_none}
use Rattle.std.specs.List.{list_all}
use Rattle.std.specs.Str.{bytes_eq}
use Rattle.bson.specs.Tree.{Pairs, no_pairs, pair}
use Rattle.update_model.specs.Stored.{id_name, id_of, pairs_fault}
use Rattle.entry_model.specs.State.{Collection}
use Rattle.file_state.specs.Collections.{held_in}

-- the first pair has this name
abbrev pub begins_with : List ℕ → Pairs → Bool
begins_with name no_pairs = false
begins_with name (pair first t ps) = bytes_eq name first

-- Each name is one that may be stored, and `_id` is no array and stands first: what `IsStored`
-- (database_model, specs/Lawful) asks beside `IsStorable`.
abbrev pub is_stored : Pairs → Bool
is_stored ps = is_none (pairs_fault ps) && is_some (id_of ps) && begins_with id_name ps

-- all documents of these collections are so
abbrev pub are_stored : List Collection → Bool
are_stored cs = list_all (λ c. list_all is_stored c.documents) cs

-- what is held where all documents are so, and else nothing
unfoldable pub stored_in : (ℕ → List ℕ) → List Collection
stored_in image = if are_stored (held_in image) then held_in image else []
