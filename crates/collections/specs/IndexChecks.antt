-- Whether the entries of a document's keys stand in the indexes of its collection, told by the
-- entries of a tree.
use Rattle.std.specs.Prelude.{ℕ, Bool, true, false, not, ◌&&◌, ◌||◌, List, [], ◌∷◌, Option, Some}
use Rattle.std.specs.Prelude.{None}
use Rattle.tree_model.specs.Keys.{Entry, value_at}
use Rattle.index.specs.Definition.{Definition}
use Rattle.index.specs.KeyTexts.{entry_key}
use Rattle.entries.specs.OtherKeys.{has_other_key}

-- an empty value stands there
abbrev pub is_empty_at : Option (List ℕ) → Bool
is_empty_at None = false
is_empty_at (Some []) = true
is_empty_at (Some (b ∷ bytes)) = false

-- an index has the entry of an encoded key and the `_id` of this text
abbrev pub has_entry : ℕ → ℕ → List ℕ → List ℕ → List Entry → Bool
has_entry number index key id entries =
    is_empty_at (value_at (entry_key number index key id) entries)

-- An index has no entry for an encoded key and the `_id` of this text, or a unique one has one for
-- the key and another `_id`.
abbrev pub lacks_key : ℕ → Definition → List ℕ → List ℕ → List Entry → Bool
lacks_key number i id key entries = not (has_entry number i.number key id entries)
    || (i.is_unique && has_other_key number i.number key id entries)

-- so it is of one of these keys
abbrev pub lacks_one : ℕ → Definition → List ℕ → List (List ℕ) → List Entry → Bool
lacks_one number i id [] entries = false
lacks_one number i id (key ∷ keys) entries =
    lacks_key number i id key entries || lacks_one number i id keys entries

-- so it is in one of these indexes, with a list of keys for each
abbrev pub lacks_any : ℕ → List ℕ → List Definition → List (List (List ℕ)) → List Entry → Bool
lacks_any number id [] all entries = false
lacks_any number id (i ∷ is) [] entries = false
lacks_any number id (i ∷ is) (keys ∷ all) entries =
    lacks_one number i id keys entries || lacks_any number id is all entries
