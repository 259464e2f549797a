-- What puts and removals of the entries of collections with indexes are, and what they make of a
-- state.
use Rattle.std.specs.Prelude.{◌≡◌, ℕ, List, [], ◌∷◌, ◌++◌, map}
use Rattle.std.specs.List.{flat_map}
use Rattle.std.specs.declared.cmp.Ordering.TheVariants.{Equal}
use Rattle.bson.specs.Tree.{Pairs}
use Rattle.value_order.specs.Order.{compare}
use Rattle.tree_model.specs.Keys.{Entry, Edit, Rises, change}
use Rattle.index.specs.Changes.{without}
use Rattle.index.specs.Definition.{Definition}
use Rattle.entries.specs.EditList.{with_edit}
use Rattle.entries.specs.declared.indexed_edits.EntryEdit.{EntryEdit}
use Rattle.entries.specs.declared.indexed_edits.EntryEdit.TheVariants as kinds
use Rattle.index.specs.KeyTexts.{entry_key}
use Rattle.entry_model.specs.State.{Collection, key_of, put_collection}
use Rattle.entry_model.specs.StateEntries.{catalogue_entry, document_entry, put_of, puts}
use Rattle.entry_model.specs.StateEntries.{removal_of, removals}
use Rattle.entry_model.specs.StateEntries.{entry_keys, Leads}
use Rattle.entry_model.specs.StateLaws.{MayBecome, own_entries, AreAlike}

-- ---- edits one after the other

-- the edits, one after the other, each at its place by its key
abbrev pub with_edits : List Edit → List Edit → List Edit
with_edits [] old = old
with_edits (e ∷ es) old = with_edits es (with_edit e old)

-- Of these edits the first ones are noted, and these are left.
pub record NotesUpTo (old all left new : List Edit) : Type 0 where
  pub noted : List Edit
  pub split : all ≡ noted ++ left
  pub same : new ≡ with_edits noted old

-- The first of these edits are noted, and no others.
abbrev pub NotesSome : List Edit → List Edit → List Edit → Type 0
NotesSome old all new = (left : List Edit) × NotesUpTo old all left new

-- What the new edits make of a map, these make of what the old ones make of it.
abbrev pub GoesOnBy : List Edit → List Edit → List Edit → Type 0
GoesOnBy old es new =
    (entries : List Entry) → Rises (entry_keys entries)
    → change new entries ≡ change es (change old entries)

-- ---- entries of indexes

-- what is noted of an entry
abbrev pub edit_by : EntryEdit → Entry → Edit
edit_by kinds.Put = put_of
edit_by kinds.Removal = removal_of

abbrev pub edits_by : EntryEdit → List Entry → List Edit
edits_by what entries = map (edit_by what) entries

-- the entry of one encoded key of the document whose `_id` has this text
abbrev pub entry_at : ℕ → ℕ → List ℕ → List ℕ → Entry
entry_at number index id key = record { key = entry_key number index key id; value = [] }

-- those of some encoded keys of it
abbrev pub entries_at : ℕ → ℕ → List ℕ → List (List ℕ) → List Entry
entries_at number index id keys = map (entry_at number index id) keys

-- those of its keys in each of these indexes
abbrev pub entries_in_all : ℕ → List ℕ → List Definition → List (List (List ℕ)) → List Entry
entries_in_all number id [] all = []
entries_in_all number id (i ∷ is) [] = []
entries_in_all number id (i ∷ is) (keys ∷ all) =
    entries_at number i.number id keys ++ entries_in_all number id is all

-- of each index the keys that are none of the others
abbrev pub without_all : List (List (List ℕ)) → List (List (List ℕ)) → List (List (List ℕ))
without_all [] others = []
without_all (keys ∷ all) [] = []
without_all (keys ∷ all) (other ∷ others) = without keys other ∷ without_all all others

-- ---- documents

-- Wherever the old edits lead to a state with a collection of this number, these indexes and the
-- documents around this one, in whose place that with this one may stand, the new ones lead to the
-- state with it.
abbrev pub InsertsInto : List Edit → List Edit → ℕ → List Definition → Pairs → Type 0
InsertsInto old new number indexes d =
    (a b : List Collection) (c : Collection) (front back : List Pairs) → Leads old a b
    → c.number ≡ number → c.indexes ≡ indexes → c.documents ≡ front ++ back
    → let now = record c { documents = front ++ d ∷ back } in MayBecome c now b
    → Leads new a (put_collection now b)

-- So they lead to the state without it.
abbrev pub DeletesFrom : List Edit → List Edit → ℕ → List Definition → Pairs → Type 0
DeletesFrom old new number indexes d =
    (a b : List Collection) (c : Collection) (front back : List Pairs) → Leads old a b
    → c.number ≡ number → c.indexes ≡ indexes → c.documents ≡ front ++ d ∷ back
    → let now = record c { documents = front ++ back } in MayBecome c now b
    → Leads new a (put_collection now b)

-- So they lead to the state with this one in place of another of its `_id`.
abbrev pub ReplacesIn : List Edit → List Edit → ℕ → List Definition → Pairs → Pairs → Type 0
ReplacesIn old new number indexes was d =
    (a b : List Collection) (c : Collection) (front back : List Pairs) → Leads old a b
    → c.number ≡ number → c.indexes ≡ indexes → c.documents ≡ front ++ was ∷ back
    → compare (key_of was) (key_of d) ≡ Equal
    → let now = record c { documents = front ++ d ∷ back } in MayBecome c now b
    → Leads new a (put_collection now b)

-- the edits by which one document replaces another of its `_id`: of each index removals of the
-- entries for keys that only the old one has, the put of the new one's entry, and puts of the
-- entries for keys that only the new one has
abbrev pub replacing_in : ℕ → List Definition → Pairs → Pairs → List Edit
replacing_in number indexes old new =
    removals (flat_map (own_entries number old new) indexes)
    ++ puts (document_entry number new ∷ flat_map (own_entries number new old) indexes)

-- ---- indexes

-- the put of what the catalogue says of a collection of this name: its number and its indexes
abbrev pub catalogue_put : List ℕ → ℕ → List Definition → Edit
catalogue_put name number indexes =
    put_of (catalogue_entry
    (record { name = name; number = number; documents = []; indexes = indexes }))

-- So they lead to the state in which the indexes of a collection of this name and number are noted
-- anew.
abbrev pub NotesIndexesOf : List Edit → List Edit → List ℕ → ℕ → List Definition → Type 0
NotesIndexesOf old new name number indexes =
    (a b : List Collection) (c : Collection) → Leads old a b
    → c.name ≡ name → c.number ≡ number → AreAlike c.indexes indexes
    → let now = record c { indexes = indexes } in MayBecome c now b
    → Leads new a (put_collection now b)
