-- How many pages a file has, and how many of them nothing reaches.
use Rattle.std.specs.Prelude.{◌≡◌, ◌≢◌, ℕ, ◌+◌, max, List, length, Result, IfOk, MatchResult}
use Rattle.page.specs.History.{History, KeepsWord, now, reads}
use Rattle.tree_model.specs.Keys.{Entry}
use Rattle.roots.specs.HeldFile.{Reaches}
use Rattle.freelist.specs.FreeList.{Part}
use Rattle.roots.specs.Image.{HasList, reached_by, model_at}
use Rattle.roots.specs.Store.{CountsFailed, IsCommitted, disk_history, durable_root, is_stopped}
use Rattle.roots.specs.declared.counting.PageCounts.{PageCounts}
use Rattle.roots.specs.declared.opening.OpenFault.{OpenFault}
use Rattle.roots.specs.declared.opening.OpenFault.TheVariants as faults
use Rattle.roots.specs.declared.root.Root.{Root}
use Rattle.roots.specs.declared.store.Store.{Store}

-- A file has the pages of its root, and always page 0. Page 0, those that the root reaches and the
-- free ones are all of them.
pub record AreCounts (root : Root) (live : List ℕ) (counts : PageCounts) : Type 0 where
  pub pages : counts.pages ≡ max root.pages 1
  pub all : 1 + length live + counts.free ≡ counts.pages

-- the counts of what this root reaches in the image: its tree, and the list that it names, if any
pub record CountsTree (image : ℕ → List ℕ) (root : Root) (counts : PageCounts) : Type 0 where
  pub live : List ℕ
  pub reaches : Reaches (model_at image root) root live
  pub are : AreCounts root live counts

-- Nothing of the store has changed, and the root has a tree, of which these are the counts; where
-- one is committed, they are its own, and the fault isn't one of the pages.
pub record CountsPages {D : Type 0} (history : D → History) (result : Result PageCounts OpenFault)
    (old new : Store D) : Type 0 where
  pub root : durable_root new ≡ durable_root old
  pub stopped : is_stopped new ≡ is_stopped old
  pub committed : (live : List ℕ) (entries : List Entry) → IsCommitted history old live entries
      → IsCommitted history new live entries
  pub stands : let image = reads (now (disk_history history old)) in
      KeepsWord (disk_history history new) → IfOk result (CountsTree image (durable_root old))
  pub counts : KeepsWord (disk_history history new) → (live : List ℕ) (entries : List Entry)
      → IsCommitted history old live entries → let root = durable_root old in
      (parts : List Part)
      → HasList (model_at (reads (now (disk_history history old))) root) root live parts
      → MatchResult result (AreCounts root (reached_by live parts))
      (λ fault. fault ≢ faults.Damaged)
  pub noted : KeepsWord (disk_history history new) → CountsFailed history old new
