-- What the tree of a turn stands for.
use Rattle.std.specs.Prelude.{◌≡◌, ℕ, false, List}
use Rattle.page.specs.History.{History, KeepsWord}
use Rattle.tree_model.specs.Keys.{Entry}
use Rattle.pager.specs.Commit.{IsTurn}
use Rattle.pager.specs.State.{State as PagerState}
use Rattle.pager.specs.Turn.{IsBegun}
use Rattle.entry_model.specs.LawfulState.{IsLawfulState}
use Rattle.entry_model.specs.State.{Collection}
use Rattle.entry_model.specs.StateEntries.{Spells}
use Rattle.collections.specs.State.{State}
use Rattle.collections.specs.View.{disk_history, is_stopped}

-- A turn began with these collections, which are committed, and has made a tree of those of now.
pub record IsTurnOf {D : Type 0} (history : D → History) (c : State D)
    (start now : List Collection) : Type 0 where
  pub began : PagerState D
  pub live : List ℕ
  pub before : List Entry
  pub begun : IsBegun history began live before
  pub spells_start : Spells before start
  pub start_state : IsLawfulState start
  pub pages : List ℕ
  pub after : List Entry
  pub turn : IsTurn history began c.pager c.root live pages after
  pub spells_now : Spells after now
  pub now_state : IsLawfulState now

-- While nothing has failed and the disk keeps its word: the collections as the turn began, and as
-- they are now.
abbrev pub HasState : {D : Type 0} → (D → History) → State D
    → List Collection → List Collection → Type 0
HasState history c start now =
    is_stopped c ≡ false → KeepsWord (disk_history history c) → IsTurnOf history c start now
