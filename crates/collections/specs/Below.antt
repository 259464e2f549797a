-- What is read of the tree below a root page: of the turn's, or of that of a version.
use Rattle.std.specs.Prelude.{◌≡◌, ℕ, ⊤, true, List, Result, IsErrAnd, MatchResult}
use Rattle.page.specs.History.{History, KeepsWord}
use Rattle.tree_model.specs.Keys.{Entry}
use Rattle.tree_model.specs.Reach.{HasMap}
use Rattle.path.specs.declared.refusal.Refusal.{Refusal}
use Rattle.entry_model.specs.LawfulState.{IsLawfulState}
use Rattle.entry_model.specs.State.{Collection}
use Rattle.entry_model.specs.StateEntries.{Spells}
use Rattle.collections.specs.Calls.{ExtendsTurn, HasReadCause, IsUnchanged}
use Rattle.collections.specs.Standing.{HasState}
use Rattle.collections.specs.State.{State}
use Rattle.collections.specs.View.{disk_history, is_stopped, pages_of}

-- The tree below the page has these collections: its entries spell them.
pub record HasBelow {D : Type 0} (history : D → History) (c : State D) (root : ℕ)
    (collections : List Collection) : Type 0 where
  pub pages : List ℕ
  pub entries : List Entry
  pub holds : HasMap (pages_of history c) root pages entries
  pub spells : Spells entries collections
  pub state : IsLawfulState collections

-- nothing more is asked for
abbrev pub IsNothing : List Collection → Unit {0} → Type 0
IsNothing collections asked = ⊤

-- A call that reads the tree below a page: nothing of the turn changes, and while the disk keeps
-- its word and this is so of what was asked for, the answer is right for the collections that the
-- tree has, or the refusal has its cause.
pub record ReadsBelow {D A X : Type 0} (history : D → History) (root : ℕ)
    (Is : List Collection → A → Type 0) (IsRight : List Collection → A → X → Type 0)
    (result : Result X Refusal) (old new : State D) : Type 0 where
  pub extends : ExtendsTurn history old new
  pub unchanged : IsUnchanged history old new
  pub same : (start now : List Collection) → HasState history old start now
      → HasState history new start now
  -- what has stopped refuses
  pub stopped : is_stopped old ≡ true → IsErrAnd result (HasReadCause history old new)
  pub answers : KeepsWord (disk_history history new) → (collections : List Collection)
      → HasBelow history old root collections → (asked : A) → Is collections asked
      → MatchResult result (IsRight collections asked) (HasReadCause history old new)
