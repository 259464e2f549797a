-- Laws of trees and their changes.
use Rattle.std.specs.Prelude.{ℕ, ◌*◌, ◌<◌, ◌≤◌, List, length}
use Rattle.tree_model.specs.Keys.{Each, Entry}
use Rattle.tree_model.specs.Reach.{AreOnce, HasMap}
use Rattle.tree_model.specs.Store.{Frame, Store}
use Rattle.tree_model.specs.Reach.{AreTurned}

-- A tree stays below its root, whatever is made and retired later.
abbrev pub OldTreesStay : Type 0
OldTreesStay = (old new : Store) (root : ℕ) (pages : List ℕ) (entries : List Entry) → Frame old new
    → HasMap old root pages entries → HasMap new root pages entries

-- Where a tree reaches each page once, so does the tree that a change makes of it.
abbrev pub PagesStayOnce : Type 0
PagesStayOnce = (old new : Store) (root : ℕ) (before after : List ℕ) (entries : List Entry)
    → Frame old new
    → HasMap old root before entries → AreOnce before → AreTurned old new before after
    → AreOnce after

-- ---- how much a tree may hold

-- Each entry takes 6 bytes of a leaf's 4,080 or more, and each leaf is one of the pages.
abbrev pub EntriesAreFew : Type 0
EntriesAreFew = (s : Store) (root : ℕ) (pages : List ℕ) (entries : List Entry)
    → HasMap s root pages entries
    → length entries ≤ 680 * length pages

-- Of the pages below a number no more are reached, each once, than there are.
abbrev pub PagesAreFew : Type 0
PagesAreFew = (most : ℕ) (pages : List ℕ) → AreOnce pages → Each (λ n. n < most) pages
    → length pages ≤ most
