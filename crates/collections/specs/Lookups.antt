-- What calls give that read collections and documents.
use Rattle.std.specs.Prelude.{◌≡◌, ◌≤◌, ℕ, length, ⊤, All, List, [], ◌∷◌, Option, Some, Result}
use Rattle.std.specs.Prelude.{IfErr, MatchResult, string_bytes}
use Rattle.std.specs.Option.{option_map}
use Rattle.std.specs.Global.{Vec}
use Rattle.page.specs.History.{History, KeepsWord}
use Rattle.bson.specs.Spelling.{frame_of, pairs_bytes}
use Rattle.bson.specs.Tree.{Pairs, Tree}
use Rattle.value_order.specs.KeyText.{tree_text}
use Rattle.value_order.specs.Laws.{IsKey}
use Rattle.value_order.specs.Order.{value}
use Rattle.tree_model.specs.Calls.{Yields}
use Rattle.tree_model.specs.Keys.{Entry, value_at}
use Rattle.tree_model.specs.Reach.{HasMap}
use Rattle.tree_model.specs.Reading.{IsNotFull}
use Rattle.btree.specs.Scan.{HoldsBatch, entry_in, within}
use Rattle.tree_model.specs.Store.{Grows, IsSame}
use Rattle.tree_model.specs.declared.pages.TreeFault.{TreeFault}
use Rattle.btree.specs.declared.scanning.Batch.{Batch}
use Rattle.btree.specs.declared.scanning.Entry.{Entry as OwnEntry}
use Rattle.btree.specs.declared.scanning.Range.{Range}
use Rattle.path.specs.declared.refusal.Refusal.{Refusal}
use Rattle.path.specs.declared.refusal.Refusal.TheVariants as refusals
use Rattle.index.specs.Definition.{Definition}
use Rattle.entry_model.specs.LawfulState.{IsKept, IsLawfulState, IsStorable}
use Rattle.entry_model.specs.State.{Collection, find_collection}
use Rattle.entry_model.specs.StateEntries.{Spells, catalogue_entry}
use Rattle.entry_model.specs.StateReads.{find_document}
use Rattle.entries.specs.declared.catalogue_reading.Catalogued.{Catalogued}
use Rattle.pager.specs.State.{State as PagerState}
use Rattle.pager.specs.View.{pager_history, store_of}
use Rattle.collections.specs.declared.lookups.Name.{Name}
use Rattle.collections.specs.Calls.{ExtendsTurn, HasReadCause, IsUnchanged}
use Rattle.collections.specs.Standing.{HasState}
use Rattle.collections.specs.State.{State}
use Rattle.collections.specs.View.{disk_history}

-- ---- what the tree has

-- Something was looked up in the tree below a root page, and this is right for its entries,
-- whichever these are.
pub record LooksUp {D X : Type 0} (history : D → History) (root : ℕ)
    (IsRight : List Entry → X → Type 0) (result : Result X TreeFault)
    (old new : PagerState D) : Type 0 where
  pub grows : Grows (store_of history old) (store_of history new)
  pub same : KeepsWord (pager_history history new)
      → IsSame (store_of history old) (store_of history new)
  pub takes : (store_of history new).failed_allocations ≡ (store_of history old).failed_allocations
  pub full : IfErr result IsNotFull
  pub yields : (pages : List ℕ) (entries : List Entry)
      → HasMap (store_of history old) root pages entries
      → Yields (store_of history old) (store_of history new) (IsRight entries) result

-- Right for the entries that spell the collections.
pub record IsInTree {X : Type 0} (IsRight : List Entry → X → Type 0) (now : List Collection)
    (answer : X) : Type 0 where
  pub entries : List Entry
  pub spells : Spells entries now
  pub state : IsLawfulState now
  pub right : IsRight entries answer

-- the value at the key
abbrev pub IsValueAt : List ℕ → List Entry → Option (Vec ℕ) → Type 0
IsValueAt key entries found = option_map (λ v. v.items) found ≡ value_at key entries

-- the entries of the range, as far as the batch has room
abbrev pub IsBatchOf : Range → List Entry → Batch → Type 0
IsBatchOf range entries batch = HoldsBatch range.limit (within range entries) batch

-- an answer, unless memory ran out
abbrev pub OrMemory : {X : Type 0} → (X → Type 0) → Result X Refusal → Type 0
OrMemory IsRight result = MatchResult result IsRight (λ e. e ≡ refusals.OutOfMemory)

-- ---- collections

-- the collection of this number, which is found by its name
pub record IsNumbered (now : List Collection) (c : Collection) (number : ℕ) : Type 0 where
  pub found : find_collection now c.name ≡ Some c
  pub same : c.number ≡ number

abbrev pub name_of : Name → List ℕ × ℕ
name_of n = (string_bytes n.namespace, n.number)

abbrev pub name_in : Collection → List ℕ × ℕ
name_in c = (c.name, c.number)

-- the number and the indexes of a collection
abbrev pub catalogued_of : Catalogued → ℕ × List Definition
catalogued_of e = (e.number, e.indexes.items)

abbrev pub catalogued_in : Collection → ℕ × List Definition
catalogued_in c = (c.number, c.indexes)

-- that is within the limits of a collection
abbrev pub IsWithinLimits : Catalogued → Type 0
IsWithinLimits e = (e.number ≤ 1000) × (length e.indexes.items ≤ 16)

-- ---- entries, one by one

-- each of the one list is so to the one at its place in the other
abbrev pub AreEach : {X Y : Type 0} → (X → Y → Type 0) → List X → List Y → Type 0
AreEach R [] [] = ⊤
AreEach R (x ∷ xs) (y ∷ ys) = R x y × AreEach R xs ys
AreEach R _ _ = ⊥

-- the value spells a document that may be stored
abbrev pub IsOfDocument : OwnEntry → Pairs → Type 0
IsOfDocument entry d = IsStorable d × (entry.value.items ≡ frame_of (pairs_bytes d))

-- what the catalogue keeps of a collection
abbrev pub IsOfCollection : OwnEntry → Collection → Type 0
IsOfCollection entry c = IsKept c × (entry_in entry ≡ catalogue_entry c)

abbrev pub IsNameOf : Name → Collection → Type 0
IsNameOf name c = name_of name ≡ name_in c

-- ---- reading of what not all collections have

-- A call that reads: nothing of the turn changes, and while the disk keeps its word and this is so
-- of what was asked for, the answer is right, or the refusal has its cause.
pub record ReadsOf {D A X : Type 0} (history : D → History) (Is : List Collection → A → Type 0)
    (IsRight : List Collection → A → X → Type 0) (result : Result X Refusal)
    (old new : State D) : Type 0 where
  pub extends : ExtendsTurn history old new
  pub unchanged : IsUnchanged history old new
  pub same : (start now : List Collection) → HasState history old start now
      → HasState history new start now
  pub answers : KeepsWord (disk_history history new) → (start now : List Collection)
      → HasState history old start now → (asked : A) → Is now asked
      → MatchResult result (IsRight now asked) (HasReadCause history old new)

-- an `_id` in a collection
pub record Place : Type 0 where
  pub collection : Collection
  pub id : Tree

-- The number is that of the place's collection, and the text that of its `_id`.
pub record IsPlaceOf (number : ℕ) (text : List ℕ) (now : List Collection)
    (place : Place) : Type 0 where
  pub numbered : IsNumbered now place.collection number
  pub key : IsKey (value place.id)
  pub spelled : text ≡ tree_text place.id

-- the document there, if there is one
abbrev pub stored_at : Place → Option Pairs
stored_at place = find_document place.collection.documents place.id

-- its bytes, and that it may be stored
pub record AreBytesAt (place : Place) (found : Option (Vec ℕ)) : Type 0 where
  pub spelled : option_map (λ v. v.items) found
      ≡ option_map (λ d. frame_of (pairs_bytes d)) (stored_at place)
  pub storable : All IsStorable place.collection.documents
