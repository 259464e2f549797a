-- Marks of a turn, and what taking back gives.
use Rattle.std.specs.Prelude.{◌≡◌, false, List, length}
use Rattle.page.specs.History.{History}
use Rattle.pager.specs.Turn.{IsOrderly}
use Rattle.entry_model.specs.State.{Collection}
use Rattle.collections.specs.State.{State}
use Rattle.collections.specs.declared.mark.Mark.{Mark}
use Rattle.collections.specs.Calls.{ExtendsTurn}
use Rattle.collections.specs.Standing.{HasState}
use Rattle.collections.specs.View.{disk_history, generation, is_changed, is_stopped, pages_of}

-- how far the turn had come then
pub record IsMarkOf {D : Type 0} (mark : Mark) (c : State D) : Type 0 where
  pub orderly : IsOrderly c.pager
  pub made : mark.pages.made ≡ length c.pager.made
  pub retired : mark.pages.retired ≡ length c.pager.retired
  pub root : mark.root ≡ c.root

-- The disk, and what is committed on it, are as they were, and no read of it failed.
pub record IsUntouched {D : Type 0} (history : D → History) (old new : State D) : Type 0 where
  pub disk : disk_history history new ≡ disk_history history old
  pub stopped : is_stopped new ≡ is_stopped old
  pub version : generation new ≡ generation old
  pub reads : (pages_of history new).failed_reads ≡ (pages_of history old).failed_reads

-- The collections are those of then, and the turn goes on from there.
pub record IsBackAt {D : Type 0} (history : D → History) (earlier new : State D) : Type 0 where
  pub extends : ExtendsTurn history earlier new
  pub state : (start then : List Collection) → HasState history earlier start then
      → HasState history new start then
  pub changed : is_changed new ≡ is_changed earlier

-- back to whatever collections of this turn the mark is one of
pub record ReturnsTo {D : Type 0} (history : D → History) (mark : Mark)
    (old new : State D) : Type 0 where
  pub untouched : IsUntouched history old new
  pub takes : (pages_of history new).failed_allocations ≡ (pages_of history old).failed_allocations
  pub back : (earlier : State D) → IsMarkOf mark earlier → ExtendsTurn history earlier old
      → IsBackAt history earlier new

-- back to where the turn began
pub record Undoes {D : Type 0} (history : D → History) (old new : State D) : Type 0 where
  pub untouched : IsUntouched history old new
  pub takes : (pages_of history new).failed_allocations ≡ (pages_of history old).failed_allocations
  pub clean : is_changed new ≡ false
  pub state : (start now : List Collection) → HasState history old start now
      → HasState history new start start
