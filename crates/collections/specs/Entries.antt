-- The entries of a turn's tree, whatever they spell.
use Rattle.std.specs.Prelude.{◌≡◌, ◌≤◌, ℕ, List, [], ◌++◌, length, map, Option, Some, None, Result}
use Rattle.std.specs.Prelude.{IfErr, MatchResult}
use Rattle.std.specs.Option.{option_map}
use Rattle.std.specs.Global.{Vec}
use Rattle.page.specs.History.{History, KeepsWord}
use Rattle.tree_model.specs.Keys.{Entry, window}
use Rattle.tree_model.specs.Reach.{HasMap}
use Rattle.btree.specs.Scan.{entry_in}
use Rattle.btree.specs.declared.scanning.Batch.{Batch}
use Rattle.btree.specs.declared.scanning.Entry.{Entry as OwnEntry}
use Rattle.entry_model.specs.State.{Collection}
use Rattle.path.specs.declared.refusal.Refusal.{Refusal}
use Rattle.path.specs.declared.refusal.Refusal.TheVariants as refusals
use Rattle.collections.specs.Calls.{ExtendsTurn, HasCause}
use Rattle.collections.specs.Standing.{HasState}
use Rattle.collections.specs.State.{State}
use Rattle.collections.specs.View.{disk_history, is_changed, pages_of}

-- the turn's tree has these
pub record HasEntries {D : Type 0} (history : D → History) (c : State D)
    (entries : List Entry) : Type 0 where
  pub pages : List ℕ
  pub map : HasMap (pages_of history c) c.root pages entries

-- What is read takes no page, so that none is free is no cause of a refusal.
abbrev pub IsNotForRoom : Refusal → Type 0
IsNotForRoom refusals.Full = ⊥
IsNotForRoom _ = Unit {0}

-- All entries were read: nothing of the turn changes, and while the disk keeps its word, they are
-- those that the tree has, or the refusal has its cause.
pub record ReadsEntries {D : Type 0} (history : D → History)
    (result : Result (Vec OwnEntry) Refusal)
    (old new : State D) : Type 0 where
  pub extends : ExtendsTurn history old new
  pub unchanged : is_changed new ≡ is_changed old
  pub same : (start now : List Collection) → HasState history old start now
      → HasState history new start now
  -- no page was asked for
  pub takes : (pages_of history new).failed_allocations ≡ (pages_of history old).failed_allocations
  pub room : IfErr result IsNotForRoom
  pub answers : KeepsWord (disk_history history new) → (entries : List Entry)
      → HasEntries history old entries
      → MatchResult result (λ all. map entry_in all.items ≡ entries) (HasCause history old new)

-- ---- a batch of them

-- those from a key on, or none
abbrev pub entries_from : Option (List ℕ) → List Entry → List Entry
entries_from None entries = []
entries_from (Some key) entries = window key None entries

-- A batch of the entries from a key on, at most so many; the others stand from its next key on.
pub record AreNextEntries (from : List ℕ) (limit : ℕ) (entries : List Entry)
    (batch : Batch) : Type 0 where
  pub is : entries_from (Some from) entries
      ≡ map entry_in batch.entries.items
      ++ entries_from (option_map (λ v. v.items) batch.next) entries
  pub most : length batch.entries.items ≤ limit

-- Entries were read: nothing of the turn changes, its tree stays, and while the disk keeps its
-- word, the answer is right for the entries that the tree has, or the refusal has its cause.
pub record ReadsTree {D X : Type 0} (history : D → History) (IsRight : List Entry → X → Type 0)
    (result : Result X Refusal) (old new : State D) : Type 0 where
  pub extends : ExtendsTurn history old new
  pub unchanged : is_changed new ≡ is_changed old
  pub same : (start now : List Collection) → HasState history old start now
      → HasState history new start now
  -- no page was asked for
  pub takes : (pages_of history new).failed_allocations ≡ (pages_of history old).failed_allocations
  pub room : IfErr result IsNotForRoom
  pub stays : KeepsWord (disk_history history new) → (entries : List Entry)
      → HasEntries history old entries → HasEntries history new entries
  pub answers : KeepsWord (disk_history history new) → (entries : List Entry)
      → HasEntries history old entries
      → MatchResult result (IsRight entries) (HasCause history old new)
