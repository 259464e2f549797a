-- Documents that are noted as edits of the file, to be stored in a collection.
use Rattle.std.specs.Prelude.{◌≡◌, ◌⊎◌, Bool, true, false, not, is_some, ℕ, List, Option, Some}
use Rattle.std.specs.Prelude.{None, Result, Ok, Err, MatchResult}
use Rattle.std.specs.List.{list_any}
use Rattle.bson.specs.Tree.{Pairs}
use Rattle.page.specs.History.{History, KeepsWord}
use Rattle.tree_model.specs.Keys.{Edit}
use Rattle.path.specs.declared.refusal.Refusal.{Refusal}
use Rattle.path.specs.declared.refusal.Refusal.TheVariants as refusals
use Rattle.collections.specs.Calls.{HasReadCause}
use Rattle.value_order.specs.KeyText.{tree_text}
use Rattle.entry_model.specs.Entering.{DocumentWrite, clashes, entered, is_duplicate}
use Rattle.entries.specs.KeyedDocuments.{AreKeyed}
use Rattle.entry_model.specs.LawfulState as states
use Rattle.entry_model.specs.LawfulState.{IsStorable}
use Rattle.entry_model.specs.State.{Collection, put_collection}
use Rattle.entry_model.specs.StateEntries.{Leads}
use Rattle.entry_model.specs.StateReads.{find_document}
use Rattle.entries.specs.declared.catalogue_reading.Catalogued.{Catalogued}
use Rattle.entries.specs.declared.entering.Keyed.{Keyed}
use Rattle.database_model.specs.Documents.{key_of}
use Rattle.engine.specs.Durable.{disk_history, file_of}
use Rattle.database_model.specs.Insert.{is_full}
use Rattle.engine.specs.Looking.{OnlyReads}
use Rattle.engine.specs.View.{world}
use Rattle.engine.specs.declared.engine.Engine.{Engine}

-- a collection of this name would be one too many
abbrev pub IsFull : List Collection → List ℕ → Refusal → Type 0
IsFull cs name e = (e ≡ refusals.TooMany) × (is_full cs name ≡ true)

-- The edits lead to the collections with this one, whose number and indexes are known, and for
-- which there is room.
pub record AreNoted (cs : List Collection) (name : List ℕ) (home : Catalogued) (edits : List Edit)
    (c : Collection) : Type 0 where
  pub named : c.name ≡ name
  pub numbered : c.number ≡ home.number
  pub indexed : c.indexes ≡ home.indexes.items
  pub room : is_full cs name ≡ false
  pub leads : states.IsLawfulState cs
      → Leads edits cs (put_collection c cs) × states.IsLawfulState (put_collection c cs)

-- what is planned of the collection is noted
pub record HasNoted (cs : List Collection) (name : List ℕ) (home : Catalogued) (edits : List Edit)
    (planned : Result Collection Refusal) : Type 0 where
  pub next : Collection
  pub is : planned ≡ Ok next
  pub noted : AreNoted cs name home edits next

-- While the disk keeps its word: where a collection is noted of which this is so, then so is what
-- is planned of it, or the refusal was planned, or it has its cause.
pub record Notes {D : Type 0} (history : D → History) (name : List ℕ) (Is : Collection → Type 0)
    (planned : Collection → Result Collection Refusal) (home home_after : Catalogued)
    (before after : List Edit)
    (result : Result (Unit {0}) Refusal) (old new : Engine D) : Type 0 where
  pub reads : OnlyReads history old new
  pub answers : KeepsWord (disk_history history new) → (c : Collection)
      → AreNoted (world old).collections name home before c → Is c
      → MatchResult result (λ _. HasNoted (world old).collections name home_after after (planned c))
      (λ e. (planned c ≡ Err e) ⊎ HasReadCause history (file_of old) (file_of new) e)

abbrev pub IsAny : Collection → Type 0
IsAny c = Unit {0}

-- ---- one document

-- the document that another is in place of is that of its `_id`
abbrev pub IsReplacedIn : Option Pairs → Pairs → List Pairs → Type 0
IsReplacedIn None d ds = Unit {0}
IsReplacedIn (Some was) d ds = find_document ds (key_of d) ≡ Some was

abbrev pub IsReplaced : Option Pairs → Pairs → Collection → Type 0
IsReplaced was d c = IsReplacedIn was d c.documents

-- so it is, and the document may be stored
abbrev pub MayEnter : Option Pairs → Pairs → Collection → Type 0
MayEnter was d c = IsStorable d × IsReplaced was d c

-- what becomes of the collection with a document, which is in place of this one, or of none
abbrev pub write_of : Option Pairs → Pairs → DocumentWrite
write_of was d = record { is_new = not (is_some was); document = d }

abbrev pub entering : Option Pairs → Pairs → Collection → Result Collection Refusal
entering was d c = entered c (write_of was d)

-- ---- duplicates

-- a collection that is noted, with a document that may be stored in it
pub record Beside : Type 0 where
  pub name : List ℕ
  pub collection : Collection

-- The text is that of the document's `_id`, and it has these keys.
pub record IsBeside (home : Catalogued) (edits : List Edit) (text : List ℕ) (keyed : Keyed)
    (cs : List Collection)
    (x : Beside) : Type 0 where
  pub noted : AreNoted cs x.name home edits x.collection
  pub storable : IsStorable keyed.document.now
  pub spelled : text ≡ tree_text (key_of keyed.document.now)
  pub keys : AreKeyed home.indexes.items keyed

-- It is told whether it is a duplicate there, and that the collections are lawful.
pub record TellsDuplicate (is_new : Bool) (keyed : Keyed) (cs : List Collection) (x : Beside)
    (found : Bool) : Type 0 where
  pub told : found
      ≡ is_duplicate x.collection (record { is_new = is_new; document = keyed.document.now })
  pub lawful : states.IsLawfulState cs

-- so whether one of its keys in a unique index is another document's
pub record TellsTaken (keyed : Keyed) (cs : List Collection) (x : Beside)
    (found : Bool) : Type 0 where
  pub told : found
      ≡ list_any (clashes x.collection.documents keyed.document.now) x.collection.indexes
  pub lawful : states.IsLawfulState cs
