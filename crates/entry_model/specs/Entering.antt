-- What becomes of a collection where a document is written to it (MongoDB manual, "Unique Indexes"
-- and "Multikey Indexes").
use Rattle.std.specs.Prelude.{◌≡◌, ◌≢◌, ◌≤◌, ◌&&◌, ◌||◌, ℕ, Bool, not, Option, Some, is_some, List}
use Rattle.std.specs.Prelude.{[], ◌∷◌, length, map, Result, Ok, All}
use Rattle.std.specs.List.{AllPairs, list_any}
use Rattle.std.specs.Ordering.{is_eq}
use Rattle.bson.specs.Tree.{Pairs}
use Rattle.value_order.specs.Order.{compare}
use Rattle.tree_model.specs.Keys.{Edit}
use Rattle.outcome.specs.Outcome.{◌>>=◌, unless}
use Rattle.path.specs.declared.refusal.Refusal.{Refusal}
use Rattle.path.specs.declared.refusal.Refusal.TheVariants as refusals
use Rattle.index.specs.Changes.{is_among}
use Rattle.index.specs.Definition.{Field, Definition}
use Rattle.entry_model.specs.Documents.{put_document}
use Rattle.index.specs.IndexKeys.{is_multikey, noted}
use Rattle.index.specs.KeyTexts.{encoded_keys, keys_in_all}
use Rattle.entry_model.specs.LawfulState.{IsRising, IsIndexOf, IsLawfulState}
use Rattle.entry_model.specs.State.{Collection, find_collection, key_of, put_collection}
use Rattle.entry_model.specs.StateEntries.{Leads}
use Rattle.entry_model.specs.StateReads.{find_document}

-- a document that a command writes: a new one, or one in place of that of its `_id`
pub record DocumentWrite : Type 0 where
  pub is_new : Bool
  pub document : Pairs

-- ---- what is refused

-- a key of the one document is one of the other's
abbrev pub share_key : List Field → Pairs → Pairs → Bool
share_key fields d e = list_any (is_among (encoded_keys fields e)) (encoded_keys fields d)

-- they have different `_id`s
abbrev pub is_other : Pairs → Pairs → Bool
is_other d e = not (is_eq (compare (key_of d) (key_of e)))

-- in this unique index one of the others has a key of the document
abbrev pub clashes : List Pairs → Pairs → Definition → Bool
clashes ds d i = i.is_unique && list_any (λ e. is_other d e && share_key i.fields d e) ds

-- its `_id` is there, or one of its keys in a unique index
abbrev pub is_duplicate : Collection → DocumentWrite → Bool
is_duplicate c w =
    (w.is_new && is_some (find_document c.documents (key_of w.document)))
    || list_any (clashes c.documents w.document) c.indexes

-- ---- what is written

-- it is multikey with this document and wasn't before
abbrev pub becomes_multikey : Pairs → Definition → Bool
becomes_multikey d i = not i.is_multi && is_multikey i.fields d

-- the collection with the document, and its indexes multikey where it has an array on one of their
-- paths
abbrev pub with_document : Pairs → Collection → Collection
with_document d c =
    record c { documents = put_document d c.documents; indexes = map (noted d) c.indexes }

-- The collection with the document, or the first refusal: a key too long in one of the indexes,
-- parallel arrays in one, a duplicate.
abbrev pub entered : Collection → DocumentWrite → Result Collection Refusal
entered c w = do
  keys ← keys_in_all c.indexes w.document
  unless (is_duplicate c w) refusals.DuplicateKey (Ok (with_document w.document c))

-- the collection with these, one after the other, or the first refusal
abbrev pub enter_each : Collection → List DocumentWrite → Result Collection Refusal
enter_each c [] = Ok c
enter_each c (w ∷ ws) = do
  next ← entered c w
  enter_each next ws

-- ---- what stays

-- Documents in ascending order of `_id`, and indexes of them, with different numbers.
pub record AreIndexed (ds : List Pairs) (is : List Definition) : Type 0 where
  pub rising : IsRising ds
  pub indexes : All (IsIndexOf ds) is
  pub distinct : AllPairs (λ i j. i.number ≢ j.number) is
  pub few : length is ≤ 16

-- They stay so with a document that enters.
abbrev pub StayIndexed : Type 0
StayIndexed =
    (c next : Collection) (w : DocumentWrite) → AreIndexed c.documents c.indexes
    → entered c w ≡ Ok next
    → AreIndexed next.documents next.indexes

-- ---- what is noted of it

-- Wherever the old edits lead to a lawful state with a collection of this name, this number and
-- these indexes, which has this document of the same `_id`, or none, and which the new one enters,
-- the new edits lead to the state with what becomes of it.
abbrev pub Enters : List Edit → List Edit → List ℕ → ℕ → List Definition → Option Pairs → Pairs
    → Type 0
Enters old new name number indexes was d =
    (a b : List Collection) (c next : Collection) → Leads old a b → IsLawfulState b
    → find_collection b name ≡ Some c
    → c.number ≡ number → c.indexes ≡ indexes → find_document c.documents (key_of d) ≡ was
    → entered c (record { is_new = not (is_some was); document = d }) ≡ Ok next
    → Leads new a (put_collection next b) × IsLawfulState (put_collection next b)

-- Wherever the old edits lead to a lawful state with such a collection, the new ones lead to the
-- one in which its indexes are noted for a document.
abbrev pub NotesArrays : List Edit → List Edit → List ℕ → ℕ → List Definition → Pairs → Type 0
NotesArrays old new name number indexes d =
    (a b : List Collection) (c : Collection) → Leads old a b → IsLawfulState b
    → find_collection b name ≡ Some c
    → c.number ≡ number → c.indexes ≡ indexes
    → Leads new a (put_collection (record c { indexes = map (noted d) c.indexes }) b)
