-- How an engine goes on: its disk is only read, and nothing is committed.
use Rattle.std.specs.Prelude.{◌≡◌, ◌≤◌}
use Rattle.page.specs.Crash.{ReadsOnly}
use Rattle.page.specs.History.{History, KeepsWord}
use Rattle.tree_model.specs.Store.{CountsReads}
use Rattle.collections.specs.View.{pages_of}
use Rattle.engine.specs.Durable.{disk_history, file_of, failed_allocations_of, generation}
use Rattle.engine.specs.Durable.{is_stopped}
use Rattle.engine.specs.declared.engine.Engine.{Engine}

-- The turn went on or was taken back. At each moment a crash leaves what it left before, and the
-- number of the last commit is the same.
pub record Continues {D : Type 0} (history : D → History) (old new : Engine D) : Type 0 where
  pub reads : ReadsOnly (disk_history history old) (disk_history history new)
  pub running : is_stopped new ≡ is_stopped old
  pub version : generation new ≡ generation old
  -- how often a page was asked for and none was free has not fallen
  pub takes : KeepsWord (disk_history history new)
      → failed_allocations_of history old ≤ failed_allocations_of history new
  -- each read that failed was counted
  pub counts : KeepsWord (disk_history history new)
      → CountsReads (pages_of history (file_of old)) (pages_of history (file_of new))
