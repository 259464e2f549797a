-- What commands read of the file.
use Rattle.std.specs.Prelude.{◌≡◌, List, Result, MatchResult}
use Rattle.page.specs.History.{History, KeepsWord}
use Rattle.path.specs.declared.refusal.Refusal.{Refusal}
use Rattle.entry_model.specs.State.{Collection}
use Rattle.collections.specs.Calls.{ExtendsTurn, HasReadCause}
use Rattle.engine.specs.Durable.{disk_history, file_of, failed_allocations_of, has_changes, IsSound}
use Rattle.engine.specs.View.{world}
use Rattle.engine.specs.declared.engine.Engine.{Engine}

-- The collections, the cursors and what the turn has changed are as they were.
pub record LeavesAll {D : Type 0} (history : D → History) (old new : Engine D) : Type 0 where
  pub sound : IsSound history new
  pub continues : ExtendsTurn history (file_of old) (file_of new)
  pub told : new.told.value ≡ old.told.value
  pub cursors : new.cursors ≡ old.cursors
  pub changes : has_changes new ≡ has_changes old

-- The file was read, and nothing else was done.
pub record OnlyReads {D : Type 0} (history : D → History) (old new : Engine D) : Type 0 where
  pub sound : IsSound history new
  pub continues : ExtendsTurn history (file_of old) (file_of new)
  pub told : new.told.value ≡ old.told.value
  pub cursors : new.cursors ≡ old.cursors
  pub changes : has_changes new ≡ has_changes old
  -- no page was asked for
  pub takes : failed_allocations_of history new ≡ failed_allocations_of history old

-- Something was looked up. While the disk keeps its word, the answer is right for the collections,
-- or the refusal has its cause.
pub record Looks {D X : Type 0} (history : D → History) (IsRight : List Collection → X → Type 0)
    (result : Result X Refusal) (old new : Engine D) : Type 0 where
  pub reads : OnlyReads history old new
  pub answers : KeepsWord (disk_history history new)
      → MatchResult result (IsRight (world old).collections)
      (HasReadCause history (file_of old) (file_of new))

-- The same of what not all collections have: the answer is right for what was asked for, where this
-- is so of it.
pub record LooksOf {D A X : Type 0} (history : D → History) (Is : List Collection → A → Type 0)
    (IsRight : List Collection → A → X → Type 0) (result : Result X Refusal)
    (old new : Engine D) : Type 0 where
  pub reads : OnlyReads history old new
  pub answers : KeepsWord (disk_history history new) → (asked : A)
      → Is (world old).collections asked
      → MatchResult result (IsRight (world old).collections asked)
      (HasReadCause history (file_of old) (file_of new))
