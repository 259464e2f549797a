-- Whether a document of another `_id` has a key in an index, told by the entries of the map.
use Rattle.std.specs.Prelude.{◌≡◌, ℕ, ◌≢◌, Bool, true, not, ◌&&◌, nat_eq, List, ◌++◌, length, drop}
use Rattle.std.specs.Prelude.{Option, Some, is_some, All, Contains}
use Rattle.std.specs.List.{flat_map, list_any, starts_with}
use Rattle.std.specs.Ordering.{is_eq}
use Rattle.std.specs.Str.{bytes_eq}
use Rattle.bson.specs.Tree.{Tree, Pairs}
use Rattle.tree_model.specs.Keys.{edit_keys}
use Rattle.tree_model.specs.Keys.{Entry, Edit, change, is_within}
use Rattle.value_order.specs.KeyText.{tree_text}
use Rattle.value_order.specs.Order.{compare}
use Rattle.index.specs.Changes.{is_among}
use Rattle.index.specs.Definition.{Definition, IsDefinition}
use Rattle.index.specs.KeyTexts.{encoded_keys}
use Rattle.entry_model.specs.LawfulState.{IsStorable}
use Rattle.entry_model.specs.State.{Collection, key_of, find_collection}
use Rattle.entry_model.specs.StateEntries.{index_entries, key_under, puts}
use Rattle.entry_model.specs.StateReads.{SpellsLawful}

-- The key goes on from this front, and not by this text.
abbrev pub is_another : List ℕ → List ℕ → List ℕ → Bool
is_another front id key =
    starts_with nat_eq key front && not (bytes_eq (drop (length front) key) id)

-- An entry of an index stands for this encoded key, and for another `_id` than the one of this
-- text.
abbrev pub has_other_key : ℕ → ℕ → List ℕ → List ℕ → List Entry → Bool
has_other_key number index key id entries =
    list_any (λ x. is_another (key_under number index key) id x.key) entries

-- one of the edits puts such an entry
abbrev pub puts_another : List ℕ → List ℕ → List Edit → Bool
puts_another front id edits = list_any (λ e. is_some e.value && is_another front id e.key) edits

-- one of them puts an entry of the index for one of these encoded keys, and for another `_id` than
-- the one of this text
abbrev pub puts_any : ℕ → ℕ → List ℕ → List (List ℕ) → List Edit → Bool
puts_any number index id keys edits =
    list_any (λ key. puts_another (key_under number index key) id edits) keys

-- the entry is such a one, and the edits leave it
abbrev pub leaves_another : List ℕ → List ℕ → List Edit → Entry → Bool
leaves_another front id edits x =
    is_another front id x.key && not (is_among (edit_keys edits) x.key)

-- All keys that go on from this front are below the end, if there is one.
abbrev pub IsEndOf : List ℕ → Option (List ℕ) → Type 0
IsEndOf front end = (rest : List ℕ) → is_within end (front ++ rest) ≡ true

-- ---- the documents

-- one of these documents has this key in the index, and another `_id`
abbrev pub another_has : Definition → List ℕ → Tree → List Pairs → Bool
another_has i key id ds =
    list_any (λ d. is_among (encoded_keys i.fields d) key && not (is_eq (compare id (key_of d)))) ds

-- In a map that spells a lawful state such an entry stands exactly where a document of the
-- collection has the key and another `_id`.
abbrev pub TellsOtherKey : Type 0
TellsOtherKey =
    (entries : List Entry) (cs : List Collection) (c : Collection) (i : Definition) (d : Pairs)
    (key : List ℕ)
    → SpellsLawful entries cs → find_collection cs c.name ≡ Some c → Contains c.indexes i
    → IsStorable d → is_among (encoded_keys i.fields d) key ≡ true
    → has_other_key c.number i.number key (tree_text (key_of d)) entries
    ≡ another_has i key (key_of d) c.documents

-- So it is of the documents whose entries were put, where the collection has no index of this
-- number yet.
abbrev pub TellsOtherPut : Type 0
TellsOtherPut =
    (entries : List Entry) (cs : List Collection) (c : Collection) (i : Definition)
    (ds : List Pairs) (d : Pairs) (key : List ℕ)
    → SpellsLawful entries cs → find_collection cs c.name ≡ Some c → IsDefinition i
    → All (λ j. j.number ≢ i.number) c.indexes
    → All IsStorable ds → IsStorable d → is_among (encoded_keys i.fields d) key ≡ true
    → has_other_key c.number i.number key (tree_text (key_of d))
    (change (puts (flat_map (λ e. index_entries c.number e i) ds)) entries)
    ≡ another_has i key (key_of d) ds
