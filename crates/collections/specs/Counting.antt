-- How many pages a file has, and how many of them nothing reaches.
use Rattle.std.specs.Prelude.{◌≡◌, ◌≢◌, ℕ, List, Result, IfErr, IfOk, MatchResult}
use Rattle.page.specs.History.{History, KeepsWord, now, reads}
use Rattle.tree_model.specs.Keys.{Entry}
use Rattle.roots.specs.Counting.{AreCounts, CountsTree}
use Rattle.roots.specs.Image.{reached_by}
use Rattle.roots.specs.Store.{durable_root}
use Rattle.roots.specs.declared.counting.PageCounts.{PageCounts}
use Rattle.roots.specs.declared.opening.OpenFault.{OpenFault}
use Rattle.roots.specs.declared.opening.OpenFault.TheVariants as faults
use Rattle.entry_model.specs.State.{Collection}
use Rattle.collections.specs.Calls.{ExtendsTurn, HasFailed}
use Rattle.collections.specs.Entries.{HasEntries}
use Rattle.collections.specs.Holding.{HoldsState}
use Rattle.collections.specs.Standing.{HasState}
use Rattle.collections.specs.State.{State}
use Rattle.collections.specs.View.{disk_history, is_changed}

-- The image holds these collections, and these are the counts of its root, by the pages that it
-- reaches: those of its tree, and those of the list of free pages that it names, if any.
pub record HasCounts (image : ℕ → List ℕ) (collections : List Collection)
    (counts : PageCounts) : Type 0 where
  pub holds : HoldsState image collections
  pub are : let file = holds.stands in
      AreCounts file.root (reached_by file.pages file.holds.listed.0) counts

-- Why the pages of a file that holds collections weren't counted: the device failed, or memory ran
-- out.
abbrev pub HasCountCause : {D : Type 0} → (D → History) → State D → State D → OpenFault → Type 0
HasCountCause history old new faults.Device = HasFailed history old new
HasCountCause history old new faults.Memory = Unit {0}
HasCountCause history old new faults.Damaged = ⊥
HasCountCause history old new faults.NotADatabase = ⊥
HasCountCause history old new faults.NewerFormat = ⊥

-- Nothing of the turn changes, and its tree stays. While the disk keeps its word, what it reads has
-- a tree of the committed root, of which these are the counts; where the turn began with
-- collections, they are those of the file that holds them, or the fault has its cause.
pub record CountsPages {D : Type 0} (history : D → History) (result : Result PageCounts OpenFault)
    (old new : State D) : Type 0 where
  pub extends : ExtendsTurn history old new
  pub unchanged : is_changed new ≡ is_changed old
  pub same : (start now : List Collection) → HasState history old start now
      → HasState history new start now
  pub stays : KeepsWord (disk_history history new) → (entries : List Entry)
      → HasEntries history old entries → HasEntries history new entries
  pub kinds : IfErr result (λ fault. (fault ≢ faults.NotADatabase) × (fault ≢ faults.NewerFormat))
  pub stands : let image = reads (now (disk_history history old)) in
      KeepsWord (disk_history history new)
      → IfOk result (CountsTree image (durable_root old.pager.store))
  pub answers : let image = reads (now (disk_history history old)) in
      KeepsWord (disk_history history new) → (start now : List Collection)
      → HasState history old start now
      → MatchResult result (HasCounts image start) (HasCountCause history old new)
