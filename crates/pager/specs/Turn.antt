-- Between two commits of a pager.
use Rattle.std.specs.Prelude.{◌≡◌, ℕ, ◌<◌, Bool, ◌&&◌, ◌||◌, nat_lt, not, List, [], take, length}
use Rattle.page.specs.History.{History, KeepsWord, now, reads}
use Rattle.tree_model.specs.Keys.{Entry, times}
use Rattle.tree_model.specs.Reach.{AreOnce}
use Rattle.tree_model.specs.Store.{Grows, IsSame, flag}
use Rattle.freelist.specs.Book.{Book, is_free, is_in_use, undone}
use Rattle.freelist.specs.FreeList.{Part}
use Rattle.freelist.specs.Sound.{waits}
use Rattle.roots.specs.Image.{HasList, reached_by, model_at}
use Rattle.roots.specs.Store.{IsCommitted, durable_root}
use Rattle.roots.specs.Turn.{numbers_of}
use Rattle.pager.specs.Kept.{IsBookFor}
use Rattle.pager.specs.State.{State}
use Rattle.pager.specs.View.{pager_history, store_of}

-- Below the limit of the book just these pages are in use, and the others from page 1 on are free
-- or wait.
pub record AreInUse (pages : List ℕ) (book : Book) : Type 0 where
  pub used : (n : ℕ) → n < length book.states
      → times n pages ≡ flag (is_in_use book.states n)
  pub others : (n : ℕ) → 0 < n → n < length book.states
      → is_free book.states n ≡ (not (is_in_use book.states n) && not (waits book n))

-- No turn runs: nothing was made or retired. While the disk keeps its word, these entries are
-- committed, and in the book just the pages that the root reaches are in use: those of the tree and
-- those of its list.
pub record IsBegun {D : Type 0} (history : D → History) (p : State D) (live : List ℕ)
    (entries : List Entry) : Type 0 where
  pub made : p.made ≡ []
  pub retired : p.retired ≡ []
  pub turn : p.book.turn ≡ []
  pub committed : KeepsWord (pager_history history p) → IsCommitted history p.store live entries
  pub in_use : KeepsWord (pager_history history p) → let root = durable_root p.store in
      (parts : List Part)
      → HasList (model_at (reads (now (pager_history history p))) root) root live parts
      → AreInUse (reached_by live parts) p.book

-- Undoing all that was made and retired since a turn began leads back to a pager that begins with
-- the same entries.
abbrev pub LeadsBack : {D : Type 0} → (D → History) → ℕ → ℕ → State D → State D → Type 0
LeadsBack {D = D} history made retired old new =
    (start : State D) (live : List ℕ) (entries : List Entry) → IsBegun history start live entries
    → Grows (store_of history start) (store_of history old)
    → made ≡ 0 → retired ≡ 0 → IsBegun history new live entries

-- the turn has made or retired a page
abbrev pub is_changed : {D : Type 0} → State D → Bool
is_changed p = nat_lt 0 (length p.made) || nat_lt 0 (length p.retired)

-- What holds of any pager: none of its turn's pages was made twice, and the book has just the
-- turn's takes.
pub record IsOrderly {D : Type 0} (p : State D) : Type 0 where
  pub once : AreOnce (numbers_of p.made)
  pub booked : IsBookFor p.made p.book

-- Undoing what was made and retired since a moment of the turn leads back to the pages as they were
-- then.
abbrev pub Returns : {D : Type 0} → (D → History) → ℕ → ℕ → State D → State D → Type 0
Returns {D = D} history made retired old new =
    (earlier : State D) → IsOrderly earlier
    → Grows (store_of history earlier) (store_of history old)
    → made ≡ length earlier.made → retired ≡ length earlier.retired
    → Grows (store_of history earlier) (store_of history new)
    × (KeepsWord (pager_history history new)
    → IsSame (store_of history earlier) (store_of history new))

-- the pager without what the turn made and retired, but the first so many
abbrev pub undone_to : {D : Type 0} → ℕ → ℕ → State D → State D
undone_to made retired p = record p {
  made = take made p.made;
  retired = take retired p.retired;
  book = undone made p.book;
}
