-- What a commit asks of the disk.
use Rattle.std.specs.Prelude.{◌≡◌, ◌≢◌, ℕ, ◌+◌, ◌*◌, false, List, ◌++◌, length, Result, Err}
use Rattle.page.specs.Calls.{MakesCalls}
use Rattle.page.specs.History.{History}
use Rattle.freelist.specs.Book.{Book}
use Rattle.freelist.specs.ListWriting.{IsMade}
use Rattle.roots.specs.Store.{durable_root, is_stopped}
use Rattle.roots.specs.declared.store.CommitFault.{CommitFault}
use Rattle.roots.specs.declared.store.CommitFault.TheVariants as faults
use Rattle.pager.specs.Kept.{AreListed}
use Rattle.pager.specs.Order.{IsOrderOf, pages_at}
use Rattle.pager.specs.Planning.{pages_with}
use Rattle.pager.specs.State.{State}
use Rattle.pager.specs.View.{pager_history}
use Rattle.pager.specs.Writing.{retired_all, written_of}

-- The turn's commit is to write so many pages: those that the turn made, as far as they stay in use
-- or wait for a pin, and the own pages of a list of what is free then.
pub record IsToWrite {D : Type 0} (history : D → History) (p : State D) (count : ℕ) : Type 0 where
  pub listed : List ℕ
  pub are : AreListed history p.store listed
  -- the pages that the turn made, in ascending order
  pub places : List ℕ
  pub order : IsOrderOf p.made places
  -- the list's own pages, those that it names, and the book once they are taken
  pub pages : List ℕ
  pub named : List ℕ
  pub last : Book
  pub list : let root = durable_root p.store in
      let mid = retired_all root.generation (p.retired ++ listed) p.book in
      let tree = written_of root.generation mid (pages_at p.made places) in
      IsMade (pages_with root tree) pages named mid last
  pub all : let root = durable_root p.store in
      let mid = retired_all root.generation (p.retired ++ listed) p.book in
      count ≡ length (written_of root.generation mid (pages_at p.made places)) + length pages

-- What the commit asks: eight writes for each page that is to be written, a sync, the write of a
-- root, and a sync. So it reads nothing. Where one of these failed, it asked no more.
pub record OnlyWrites {D : Type 0} (history : D → History)
    (result : Result (Unit {0}) CommitFault) (old new : State D) : Type 0 where
  pub count : ℕ
  pub pages : is_stopped old.store ≡ false → result ≢ Err faults.Memory
      → result ≢ Err faults.Full → IsToWrite history old count
  pub calls : MakesCalls (8 * count + 3) result (pager_history history old)
      (pager_history history new)
