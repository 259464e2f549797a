-- Which documents and keys are there, as noted edits leave them.
use Rattle.std.specs.Prelude.{◌≡◌, ℕ, Bool, false, ◌&&◌, ◌||◌, List, [], ◌∷◌, is_some}
use Rattle.tree_model.specs.Keys.{Edit, Entry, change, value_at}
use Rattle.index.specs.Definition.{Definition}
use Rattle.entries.specs.OtherKeys.{has_other_key}
use Rattle.entry_model.specs.State.{Collection}
use Rattle.entry_model.specs.StateEntries.{key_under}
use Rattle.collections.specs.Lookups.{IsInTree}

-- Right for the map that the edits make of the one which spells the collections: an entry of the
-- index stands in it for this encoded key, and for another `_id` than the one of this text.
abbrev pub TellsOtherKey : List Edit → ℕ → ℕ → List ℕ → List ℕ → List Collection → Bool → Type 0
TellsOtherKey edits number index key id =
    IsInTree (λ entries found. found ≡ has_other_key number index key id (change edits entries))

-- Right for that map: it has a document for the `_id` of this text in the collection of a number.
abbrev pub TellsDocument : List Edit → ℕ → List ℕ → List Collection → Bool → Type 0
TellsDocument edits number id =
    IsInTree (λ entries found. found
    ≡ is_some (value_at (key_under number 0 id) (change edits entries)))

-- ---- several keys

-- one of these keys has an entry of another `_id` in an index
abbrev pub any_other_key : ℕ → ℕ → List ℕ → List (List ℕ) → List Entry → Bool
any_other_key number index id [] entries = false
any_other_key number index id (key ∷ keys) entries =
    has_other_key number index key id entries || any_other_key number index id keys entries

-- so has one of a document's keys in a unique one of these indexes
abbrev pub is_taken : ℕ → List ℕ → List Definition → List (List (List ℕ)) → List Entry → Bool
is_taken number id [] all entries = false
is_taken number id (i ∷ is) [] entries = false
is_taken number id (i ∷ is) (keys ∷ all) entries =
    (i.is_unique && any_other_key number i.number id keys entries)
    || is_taken number id is all entries

-- right for that map
abbrev pub TellsOf : (List Entry → Bool) → List Edit → List Collection → Bool → Type 0
TellsOf test edits = IsInTree (λ entries found. found ≡ test (change edits entries))
