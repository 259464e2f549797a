-- What counting the pages of a pager's file gives.
use Rattle.std.specs.Prelude.{◌≢◌, ℕ, List, Result, IfErr, IfOk, MatchResult}
use Rattle.page.specs.History.{History, KeepsWord, now, reads}
use Rattle.tree_model.specs.Keys.{Entry}
use Rattle.tree_model.specs.Store.{Grows, IsSame}
use Rattle.freelist.specs.FreeList.{Part}
use Rattle.roots.specs.Counting.{AreCounts, CountsTree}
use Rattle.roots.specs.Image.{HasList, reached_by, model_at}
use Rattle.roots.specs.Store.{durable_root}
use Rattle.roots.specs.Walk.{HasCause}
use Rattle.roots.specs.declared.counting.PageCounts.{PageCounts}
use Rattle.roots.specs.declared.opening.OpenFault.{OpenFault}
use Rattle.roots.specs.declared.opening.OpenFault.TheVariants as faults
use Rattle.pager.specs.State.{State}
use Rattle.pager.specs.Turn.{IsBegun}
use Rattle.pager.specs.View.{pager_history, store_of}

-- The disk was read, and the turn goes on. The committed root has a tree there, and a list that
-- fits it, if it names one, of which these are the counts; where a turn began with committed
-- entries, they are those of its tree and list, and the fault isn't one of the pages.
pub record CountsPages {D : Type 0} (history : D → History) (result : Result PageCounts OpenFault)
    (old new : State D) : Type 0 where
  pub grows : Grows (store_of history old) (store_of history new)
  pub same : KeepsWord (pager_history history new)
      → IsSame (store_of history old) (store_of history new)
  pub cause : IfErr result (HasCause (pager_history history old) (pager_history history new))
  pub stands : let image = reads (now (pager_history history old)) in
      KeepsWord (pager_history history new)
      → IfOk result (CountsTree image (durable_root old.store))
  pub counts : KeepsWord (pager_history history new)
      → (start : State D) (live : List ℕ) (entries : List Entry)
      → IsBegun history start live entries
      → Grows (store_of history start) (store_of history old)
      → let root = durable_root old.store in (parts : List Part)
      → HasList (model_at (reads (now (pager_history history old))) root) root live parts
      → MatchResult result (AreCounts root (reached_by live parts))
      (λ fault. fault ≢ faults.Damaged)
