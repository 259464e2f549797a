-- What a check of a file tells: how much the file holds.
use Rattle.std.specs.Prelude.{◌≡◌, ℕ, List, length, Result, MatchResult}
use Rattle.page.specs.History.{History, KeepsWord, now, reads}
use Rattle.entry_model.specs.State.{Collection}
use Rattle.collections.specs.Counting.{HasCounts}
use Rattle.opening.specs.Totals.{total_documents, total_indexes}
use Rattle.engine.specs.Dump.{HasFaultCause}
use Rattle.engine.specs.Durable.{disk_history, generation}
use Rattle.engine.specs.Looking.{LeavesAll}
use Rattle.engine.specs.View.{turn_start, world}
use Rattle.engine.specs.declared.check_fault.CheckFault.{CheckFault}
use Rattle.engine.specs.declared.checking.Counts.{Counts}
use Rattle.engine.specs.declared.engine.Engine.{Engine}

-- The counts of collections.
pub record AreCountsOf (now : List Collection) (counts : Counts) : Type 0 where
  pub collections : counts.collections ≡ length now
  pub documents : counts.documents ≡ total_documents now
  pub indexes : counts.indexes ≡ total_indexes now

-- The counts of a file, whose image holds the collections that were committed last: the number of
-- that commit, what there is now, and how many pages the image has.
pub record AreCountsIn (image : ℕ → List ℕ) (last : ℕ) (start now : List Collection)
    (counts : Counts) : Type 0 where
  pub last_is : counts.generation ≡ last
  pub held : AreCountsOf now counts
  pub pages : HasCounts image start (record { pages = counts.pages; free = counts.free })

-- The file was looked through. While the disk keeps its word, the counts are its own, or the fault
-- has its cause: it is never that the file is damaged.
pub record ChecksFile {D : Type 0} (history : D → History) (result : Result Counts CheckFault)
    (old new : Engine D) : Type 0 where
  pub only : LeavesAll history old new
  pub answers : let image = reads (now (disk_history history old)) in
      KeepsWord (disk_history history new) → MatchResult result
      (AreCountsIn image (generation old) (turn_start old) (world old).collections)
      (HasFaultCause history ⊥ old new)
