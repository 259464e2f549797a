-- What is found in a map that spells a lawful state, by a key and between two keys.
use Rattle.std.specs.Prelude.{◌≡◌, ◌↔◌, ℕ, ◌+◌, if◌then◌else◌, List, [], ◌∷◌, ◌++◌, map, Option}
use Rattle.std.specs.Prelude.{Some, None, option_map, Contains}
use Rattle.std.specs.Ordering.{is_eq}
use Rattle.bson.specs.Tree.{Tree, Pairs}
use Rattle.bson.specs.Spelling.{frame_of, pairs_bytes}
use Rattle.value_order.specs.Laws.{IsKey}
use Rattle.value_order.specs.Order.{Key, value, compare}
use Rattle.value_order.specs.KeyText.{tree_text}
use Rattle.tree_model.specs.Keys.{Entry, value_at, window}
use Rattle.index.specs.Definition.{Definition}
use Rattle.index.specs.KeyTexts.{key_bytes, encoded_keys}
use Rattle.index.specs.Laws.{IsIndexKey}
use Rattle.entry_model.specs.State.{Collection, words, key_of, find_collection}
use Rattle.entry_model.specs.StateEntries.{key_under, catalogue_value, catalogue_entry}
use Rattle.entry_model.specs.StateEntries.{document_entry}
use Rattle.entry_model.specs.StateEntries.{Spells}
use Rattle.entry_model.specs.StateLaws.{entries_in}
use Rattle.entry_model.specs.LawfulState.{IsLawfulState}

-- the map spells a lawful state
pub record SpellsLawful (entries : List Entry) (cs : List Collection) : Type 0 where
  pub lawful : IsLawfulState cs
  pub spells : Spells entries cs

-- ---- by a key

-- what the catalogue says of a collection
abbrev pub catalogue_bytes : Collection → List ℕ
catalogue_bytes c = frame_of (pairs_bytes (catalogue_value c.number c.indexes))

-- At the key of a name stands what the catalogue says of the collection of that name, if there is
-- one.
abbrev pub FindsCollection : Type 0
FindsCollection =
    (entries : List Entry) (cs : List Collection) (name : List ℕ) → SpellsLawful entries cs
    → value_at (key_under 0 0 (tree_text (words name))) entries
    ≡ option_map catalogue_bytes (find_collection cs name)

-- the document of an `_id`
abbrev pub find_document : List Pairs → Tree → Option Pairs
find_document [] id = None
find_document (d ∷ ds) id = if is_eq (compare id (key_of d)) then Some d else find_document ds id

-- At the key of an `_id` stands the document of that `_id`, if there is one.
abbrev pub FindsDocument : Type 0
FindsDocument =
    (entries : List Entry) (cs : List Collection) (c : Collection) (id : Tree)
    → SpellsLawful entries cs
    → find_collection cs c.name ≡ Some c → IsKey (value id)
    → value_at (key_under c.number 0 (tree_text id)) entries
    ≡ option_map (λ d. frame_of (pairs_bytes d)) (find_document c.documents id)

-- ---- between two keys

-- the entries of one index of one collection
abbrev pub entries_under : ℕ → ℕ → List Entry → List Entry
entries_under collection index entries =
    window (key_under collection index []) (Some (key_under collection (index + 1) [])) entries

-- Those of the catalogue are the collections', in their order.
abbrev pub ListsCollections : Type 0
ListsCollections =
    (entries : List Entry) (cs : List Collection) → SpellsLawful entries cs
    → entries_under 0 0 entries ≡ map catalogue_entry cs

-- Those of a collection's index 0 are its documents', in their order.
abbrev pub ListsDocuments : Type 0
ListsDocuments =
    (entries : List Entry) (cs : List Collection) (c : Collection) → SpellsLawful entries cs
    → find_collection cs c.name ≡ Some c
    → entries_under c.number 0 entries ≡ map (document_entry c.number) c.documents

-- Those of an index are the entries of all documents in it.
abbrev pub ListsIndex : Type 0
ListsIndex =
    (entries : List Entry) (cs : List Collection) (c : Collection) (i : Definition)
    → SpellsLawful entries cs
    → find_collection cs c.name ≡ Some c → Contains c.indexes i
    → (entry : Entry)
    → Contains (entries_under c.number i.number entries) entry ↔ Contains (entries_in c i) entry

-- An entry of an index whose key goes on with an encoded key is that of a document which has this
-- key, and ends in the text of its `_id`.
abbrev pub TellsDocument : Type 0
TellsDocument =
    (entries : List Entry) (cs : List Collection) (c : Collection) (i : Definition) (ks : List Key)
    (rest : List ℕ) → SpellsLawful entries cs
    → find_collection cs c.name ≡ Some c → Contains c.indexes i → IsIndexKey i.fields ks
    → let key = key_bytes i.fields ks in
    (entry : Entry) → Contains entries entry → entry.key ≡ key_under c.number i.number (key ++ rest)
    → (d : Pairs) × Contains c.documents d × Contains (encoded_keys i.fields d) key
    × (rest ≡ tree_text (key_of d))
