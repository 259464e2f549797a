-- How much a turn's tree may hold.
use Rattle.std.specs.Prelude.{ℕ, ◌*◌, ◌<◌, ◌≤◌, List, length}
use Rattle.page.specs.History.{History, KeepsWord}
use Rattle.tree_model.specs.Keys.{Each, Entry}
use Rattle.tree_model.specs.Reach.{AreOnce}
use Rattle.pager.specs.Commit.{IsTurn}
use Rattle.pager.specs.State.{State}
use Rattle.pager.specs.Turn.{IsBegun}
use Rattle.pager.specs.View.{pager_history}

-- Pages that a file may have, each once, and no more entries than find room there: at most 680 in a
-- page.
pub record FitsFile (pages : List ℕ) (entries : List Entry) : Type 0 where
  pub once : AreOnce pages
  pub inside : Each (λ n. n < 1048576) pages
  pub few : length entries ≤ 680 * 1048576

-- whatever tree a turn has made since it began
abbrev pub TreesFit : {D : Type 0} → (D → History) → State D → Type 0
TreesFit {D = D} history p =
    (start : State D) (live : List ℕ) (before : List Entry) → IsBegun history start live before
    → (root : ℕ) (pages : List ℕ) (after : List Entry)
    → IsTurn history start p root live pages after
    → KeepsWord (pager_history history p) → FitsFile pages after
