-- What holds of the entries of a state, and which edits lead from one state to the next.
use Rattle.std.specs.Prelude.{◌≡◌, ◌≢◌, ℕ, ◌<◌, ◌≤◌, false, List, [], ◌∷◌, ◌++◌, length, map, Some}
use Rattle.std.specs.Prelude.{None}
use Rattle.std.specs.List.{flat_map}
use Rattle.std.specs.declared.cmp.Ordering.TheVariants.{Equal}
use Rattle.bson.specs.Tree.{Pairs}
use Rattle.value_order.specs.Order.{compare}
use Rattle.tree_model.specs.Keys.{Entry, Edit, Rises, change}
use Rattle.index.specs.Definition.{Definition}
use Rattle.index.specs.Changes.{without}
use Rattle.index.specs.KeyTexts.{encoded_keys}
use Rattle.entry_model.specs.State.{Collection, key_of, empty_collection, find_collection, uses}
use Rattle.entry_model.specs.State.{put_collection, without_collection}
use Rattle.entry_model.specs.StateEntries.{catalogue_entry, document_entry, index_entry}
use Rattle.entry_model.specs.StateEntries.{index_entries}
use Rattle.entry_model.specs.StateEntries.{document_entries, collection_entries, state_entries}
use Rattle.entry_model.specs.StateEntries.{IsEntryOf, entry_keys, Spells, put_of, puts, removals}
use Rattle.entry_model.specs.StateEntries.{Leads}
use Rattle.tree_model.specs.Keys.{edit_keys}
use Rattle.entry_model.specs.EditOrder.{in_key_order}
use Rattle.entry_model.specs.LawfulState.{IsKept, IsLawfulState}

-- ---- what spells a state

-- A lawful state is spelled by what puts of all its entries make, and by no other map.
abbrev pub SpelledOnce : Type 0
SpelledOnce =
    (cs : List Collection) → IsLawfulState cs → Spells (change (puts (state_entries cs)) []) cs
    × ((xs ys : List Entry) → Spells xs cs → Spells ys cs → xs ≡ ys)

-- A map spells one lawful state at most.
abbrev pub SpellsOne : Type 0
SpellsOne =
    (entries : List Entry) (a b : List Collection) → IsLawfulState a → IsLawfulState b
    → Spells entries a → Spells entries b → a ≡ b

-- Each entry of a lawful state has a key of at most 1,024 bytes and a value of at most 65,535.
abbrev pub EntriesFit : Type 0
EntriesFit =
    (cs : List Collection) (entry : Entry) → IsLawfulState cs → IsEntryOf cs entry
    → (length entry.key ≤ 1024) × (length entry.value ≤ 65535)

-- ---- edits

-- What leads to a state and what leads on from there lead on together.
abbrev pub LeadsOn : Type 0
LeadsOn =
    (es fs : List Edit) (a b c : List Collection) → Leads es a b → Leads fs b c
    → Leads (es ++ fs) a c

-- Edits in the order of their keys, of several at one key the last, make of a map what they make in
-- any order.
abbrev pub OrderIsFree : Type 0
OrderIsFree =
    (es : List Edit) → Rises (edit_keys (in_key_order es))
    × ((entries : List Entry) → Rises (entry_keys entries)
    → change (in_key_order es) entries ≡ change es entries)
    × ((a b : List Collection) → Leads es a b → Leads (in_key_order es) a b)

-- Two edits of different keys, one after the other, may change places.
abbrev pub EditsSwap : Type 0
EditsSwap =
    (es fs : List Edit) (e f : Edit) → e.key ≢ f.key
    → (entries : List Entry) → Rises (entry_keys entries)
    → change (es ++ e ∷ f ∷ fs) entries ≡ change (es ++ f ∷ e ∷ fs) entries

-- ---- collections

-- An empty collection more: its entry in the catalogue is put.
abbrev pub MakesCollection : Type 0
MakesCollection =
    (cs : List Collection) (name : List ℕ) (number : ℕ) → let new = empty_collection name number in
    IsLawfulState cs → find_collection cs name ≡ None → IsLawfulState (put_collection new cs)
    → Leads (put_of (catalogue_entry new) ∷ []) cs (put_collection new cs)

-- A lawful state with a collection more is lawful, where its name and its number are new and there
-- is room.
abbrev pub MakesLawful : Type 0
MakesLawful =
    (cs : List Collection) (new : Collection) → IsLawfulState cs
    → find_collection cs new.name ≡ None → uses cs new.number ≡ false
    → IsKept new → length cs < 1000 → IsLawfulState (put_collection new cs)

-- So it is without a collection.
abbrev pub DropsLawful : Type 0
DropsLawful =
    (cs : List Collection) (name : List ℕ) → IsLawfulState cs
    → IsLawfulState (without_collection name cs)

-- A collection less: all its entries are removed, that in the catalogue, those of its documents and
-- those of its indexes.
abbrev pub DropsCollection : Type 0
DropsCollection =
    (cs : List Collection) (c : Collection) → IsLawfulState cs → find_collection cs c.name ≡ Some c
    → Leads (removals (collection_entries c)) cs (without_collection c.name cs)

-- In a lawful state a collection stands, and the other, which may take its place, has its name and
-- its number and is within the limits.
pub record MayBecome (c now : Collection) (cs : List Collection) : Type 0 where
  pub lawful : IsLawfulState cs
  pub found : find_collection cs c.name ≡ Some c
  pub named : now.name ≡ c.name
  pub numbered : now.number ≡ c.number
  pub kept : IsKept now

-- These edits lead from a state to that with the one collection in place of the other.
abbrev pub Remakes : List Edit → Collection → Collection → Type 0
Remakes edits c now =
    (cs : List Collection) → MayBecome c now cs → Leads edits cs (put_collection now cs)

-- With the other in its place the state is lawful.
abbrev pub StaysLawful : Type 0
StaysLawful =
    (cs : List Collection) (c now : Collection) → MayBecome c now cs
    → IsLawfulState (put_collection now cs)

-- ---- documents

-- A document more: its entry is put, and one for each of its keys in each index.
abbrev pub InsertsDocument : Type 0
InsertsDocument =
    (c : Collection) (front back : List Pairs) (d : Pairs) → c.documents ≡ front ++ back
    → Remakes (puts (document_entries c.number c.indexes d)) c
    (record c { documents = front ++ d ∷ back })

-- A document less: its entry is removed, and that of each of its keys in each index.
abbrev pub DeletesDocument : Type 0
DeletesDocument =
    (c : Collection) (front back : List Pairs) (d : Pairs) → c.documents ≡ front ++ d ∷ back
    → Remakes (removals (document_entries c.number c.indexes d)) c
    (record c { documents = front ++ back })

-- the entries in an index for the keys of a document that are none of the other's
abbrev pub own_entries : ℕ → Pairs → Pairs → Definition → List Entry
own_entries number d other i =
    map (index_entry number i.number (key_of d))
    (without (encoded_keys i.fields d) (encoded_keys i.fields other))

abbrev pub replacing : Collection → Pairs → Pairs → List Edit
replacing c old new =
    removals (flat_map (own_entries c.number old new) c.indexes)
    ++ puts (document_entry c.number new ∷ flat_map (own_entries c.number new old) c.indexes)

-- A document in place of another of its `_id`: its entry is put, and of each index's entries those
-- are removed whose keys are only the old document's, and those put whose keys are only the new
-- one's.
abbrev pub ReplacesDocument : Type 0
ReplacesDocument =
    (c : Collection) (front back : List Pairs) (old new : Pairs) → c.documents ≡ front ++ old ∷ back
    → compare (key_of old) (key_of new) ≡ Equal
    → Remakes (replacing c old new) c (record c { documents = front ++ new ∷ back })

-- ---- indexes

-- the entries of all documents in an index
abbrev pub entries_in : Collection → Definition → List Entry
entries_in c i = flat_map (λ d. index_entries c.number d i) c.documents

-- An index more: the collection's entry in the catalogue is put anew, and an entry for each key of
-- each document.
abbrev pub MakesIndex : Type 0
MakesIndex =
    (c : Collection) (i : Definition) → let now = record c { indexes = c.indexes ++ i ∷ [] } in
    Remakes (puts (catalogue_entry now ∷ entries_in c i)) c now

-- An index less: its entries are removed, and the collection's entry in the catalogue is put anew.
abbrev pub DropsIndex : Type 0
DropsIndex =
    (c : Collection) (front back : List Definition) (i : Definition) → c.indexes ≡ front ++ i ∷ back
    → let now = record c { indexes = front ++ back } in
    Remakes (removals (entries_in c i) ++ put_of (catalogue_entry now) ∷ []) c now

-- they have the same numbers and fields, and may differ in what else is said of them, as whether
-- they are multikey
abbrev pub AreAlike : List Definition → List Definition → Type 0
AreAlike [] [] = Unit {0}
AreAlike [] (j ∷ js) = ⊥
AreAlike (i ∷ is) [] = ⊥
AreAlike (i ∷ is) (j ∷ js) = (i.number ≡ j.number) × (i.fields ≡ j.fields) × AreAlike is js

-- Indexes that are noted anew, as multikey ones: the collection's entry in the catalogue is put
-- anew.
abbrev pub NotesIndexes : Type 0
NotesIndexes =
    (c : Collection) (js : List Definition) → AreAlike c.indexes js
    → let now = record c { indexes = js } in
    Remakes (put_of (catalogue_entry now) ∷ []) c now
