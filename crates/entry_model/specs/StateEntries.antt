-- The entries that a state is kept as in the sorted map, and what edits make of them. A key is a
-- collection's number and an index's, each in four bytes with the highest first, and a text. Under
-- collection 0 and index 0 stands the catalogue; under a collection's number stand its documents at
-- index 0, and at the number of each of its indexes an entry for each key of each document.
use Rattle.std.specs.Prelude.{◌↔◌, ℕ, List, [], ◌∷◌, ◌++◌, map, codes, Some, None, Contains}
use Rattle.std.specs.List.{flat_map}
use Rattle.std.specs.Int.{w32, to_be_bytes}
use Rattle.bson.specs.Tree.{Tree, document, array, Pairs, no_pairs, pair, Items, no_items, item}
use Rattle.bson.specs.Spelling.{frame_of, pairs_bytes}
use Rattle.value_order.specs.KeyText.{tree_text}
use Rattle.tree_model.specs.Keys.{Entry, Edit, Rises, change}
use Rattle.index.specs.Definition.{Definition}
use Rattle.index.specs.Catalogue.{spelled}
use Rattle.index.specs.KeyTexts.{encoded_keys, entry_key}
use Rattle.entry_model.specs.State.{Collection, int, words, key_of}

abbrev pub key_under : ℕ → ℕ → List ℕ → List ℕ
key_under collection index text = to_be_bytes w32 collection ++ to_be_bytes w32 index ++ text

-- ---- the catalogue

abbrev pub definition_items : List Definition → Items
definition_items [] = no_items
definition_items (d ∷ ds) = item (document (spelled d)) (definition_items ds)

-- what the catalogue says of a collection: its number and its indexes
abbrev pub catalogue_value : ℕ → List Definition → Pairs
catalogue_value number indexes =
    pair (codes "n") (int number) (pair (codes "x") (array (definition_items indexes)) no_pairs)

abbrev pub catalogue_entry : Collection → Entry
catalogue_entry c = record {
  key = key_under 0 0 (tree_text (words c.name));
  value = frame_of (pairs_bytes (catalogue_value c.number c.indexes));
}

-- ---- documents

abbrev pub document_entry : ℕ → Pairs → Entry
document_entry number ps =
    record { key = key_under number 0 (tree_text (key_of ps)); value = frame_of (pairs_bytes ps) }

-- the entry of one encoded key of a document of this `_id`
abbrev pub index_entry : ℕ → ℕ → Tree → List ℕ → Entry
index_entry number index id key =
    record { key = entry_key number index key (tree_text id); value = [] }

-- those of a document in an index
abbrev pub index_entries : ℕ → Pairs → Definition → List Entry
index_entries number ps i =
    map (index_entry number i.number (key_of ps)) (encoded_keys i.fields ps)

-- those of a document in a collection of this number and these indexes
abbrev pub document_entries : ℕ → List Definition → Pairs → List Entry
document_entries number indexes ps =
    document_entry number ps ∷ flat_map (index_entries number ps) indexes

-- ---- all of them

abbrev pub collection_entries : Collection → List Entry
collection_entries c =
    catalogue_entry c ∷ flat_map (document_entries c.number c.indexes) c.documents

abbrev pub state_entries : List Collection → List Entry
state_entries cs = flat_map collection_entries cs

-- it is the catalogue's entry of a collection, a document's, or that of a document's key in an
-- index
abbrev pub IsEntryOf : List Collection → Entry → Type 0
IsEntryOf cs entry = Contains (state_entries cs) entry

abbrev pub entry_keys : List Entry → List (List ℕ)
entry_keys entries = map (λ x. x.key) entries

-- The map spells the state: its keys rise, and it has the state's entries and no others.
pub record Spells (entries : List Entry) (cs : List Collection) : Type 0 where
  pub rises : Rises (entry_keys entries)
  pub same : (entry : Entry) → Contains entries entry ↔ IsEntryOf cs entry

-- ---- edits

abbrev pub put_of : Entry → Edit
put_of x = record { key = x.key; value = Some x.value }

abbrev pub removal_of : Entry → Edit
removal_of x = record { key = x.key; value = None }

abbrev pub puts : List Entry → List Edit
puts entries = map put_of entries

abbrev pub removals : List Entry → List Edit
removals entries = map removal_of entries

-- Whatever map spells the one state, the edits make of it a map that spells the other.
abbrev pub Leads : List Edit → List Collection → List Collection → Type 0
Leads edits old new =
    (entries : List Entry) → Spells entries old → Spells (change edits entries) new
