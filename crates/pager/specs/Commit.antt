-- What the commit of a turn does.
use Rattle.std.specs.Prelude.{◌≡◌, ◌≢◌, ◌⊎◌, ℕ, ◌+◌, ◌-◌, ◌<◌, ◌≤◌, ◌^◌, true, List, [], ◌++◌}
use Rattle.std.specs.Prelude.{Result, Err, OnOk, OnErr}
use Rattle.page.specs.History.{History, KeepsWord}
use Rattle.page.specs.Crash.{ExtendsHistory, LeavesOnly, CrashLeaves}
use Rattle.freelist.specs.Book.{Book, is_in_use, refused}
use Rattle.freelist.specs.ListWriting.{HasNoRoom}
use Rattle.tree_model.specs.Keys.{Entry, times}
use Rattle.tree_model.specs.Reach.{HasMap}
use Rattle.tree_model.specs.Store.{Grows}
use Rattle.roots.specs.Image.{StandsFor}
use Rattle.roots.specs.Store.{HasDeviceCause, IsRunning, durable_root, is_stopped}
use Rattle.roots.specs.declared.root.Root.{Root}
use Rattle.roots.specs.declared.store.CommitFault.{CommitFault}
use Rattle.roots.specs.declared.store.CommitFault.TheVariants as faults
use Rattle.pager.specs.Kept.{AreListed}
use Rattle.pager.specs.Order.{IsOrderOf, pages_at}
use Rattle.pager.specs.Planning.{pages_with}
use Rattle.pager.specs.State.{State}
use Rattle.pager.specs.Turn.{IsBegun}
use Rattle.pager.specs.View.{pager_history, store_of}
use Rattle.pager.specs.Writing.{retired_all, written_of}

-- The list that a turn's commit is to write lacks room on all pages that are free: it is to name
-- what the turn retired, and the own pages of the committed root's list.
pub record LacksListRoom {D : Type 0} (history : D → History) (p : State D) : Type 0 where
  pub listed : List ℕ
  pub are : AreListed history p.store listed
  -- the pages that the turn made, in ascending order
  pub places : List ℕ
  pub order : IsOrderOf p.made places
  pub short : let root = durable_root p.store in
      let mid = retired_all root.generation (p.retired ++ listed) p.book in
      let tree = written_of root.generation mid (pages_at p.made places) in
      HasNoRoom (pages_with root tree) mid

-- Why a commit finds no room: no greater generation is left, or too few pages are free for its list
-- of free pages, which is counted.
abbrev pub FindsNoRoom : {D : Type 0} → (D → History) → State D → State D → Type 0
FindsNoRoom history old new =
    (((durable_root old.store).generation ≡ 2 ^ 64 - 1) × (new ≡ old))
    ⊎ (LacksListRoom history old × (new ≡ record old { book = refused old.book }))

-- A root that names no list of free pages is that of a file in which each page is in use: none is
-- free, and none waits.
abbrev pub ListsUnused : Root → Book → Type 0
ListsUnused root book =
    root.free_list ≡ 0 → (n : ℕ) → 0 < n → n < root.pages → is_in_use book.states n ≡ true

-- How often a page was asked for and none was free: never fewer, and more often only at Full.
pub record CountsTakes {D : Type 0} (result : Result (Unit {0}) CommitFault)
    (old new : State D) : Type 0 where
  pub grows : old.book.failed_allocations ≤ new.book.failed_allocations
  pub same : result ≢ Err faults.Full → new.book.failed_allocations ≡ old.book.failed_allocations

-- A turn was committed with this root page, or not.
pub record CommitsPages {D : Type 0} (history : D → History) (root : ℕ)
    (result : Result (Unit {0}) CommitFault) (old new : State D) : Type 0 where
  pub extends : ExtendsHistory (pager_history history old) (pager_history history new)
  pub running : OnOk result (IsRunning old.store × IsRunning new.store)
  pub version : OnOk result
      ((durable_root new.store).generation ≡ (durable_root old.store).generation + 1)
  -- what isn't committed leaves the root that is
  pub still : OnErr result (durable_root new.store ≡ durable_root old.store)
  pub tree : OnOk result ((durable_root new.store).tree ≡ root)
  pub listed : OnOk result (ListsUnused (durable_root new.store) new.book)
  -- no turn runs
  pub made : OnOk result (new.made ≡ [])
  pub retired : OnOk result (new.retired ≡ [])
  -- nothing changed
  pub memory : result ≡ Err faults.Memory → new ≡ old
  pub full : result ≡ Err faults.Full → FindsNoRoom history old new
  pub device : result ≡ Err faults.Device → KeepsWord (pager_history history new)
      → HasDeviceCause history old.store new.store
  -- the turn is still there, to be undone
  pub stops : result ≡ Err faults.Device
      → (is_stopped new.store ≡ true) × (new ≡ record old { store = new.store })
  pub idle : is_stopped old.store ≡ true → new ≡ old

-- A turn since the pager began, whose tree below the root page reaches these pages and has these
-- entries.
pub record IsTurn {D : Type 0} (history : D → History) (start now : State D) (root : ℕ)
    (live : List ℕ) (pages : List ℕ) (entries : List Entry) : Type 0 where
  pub grows : Grows (store_of history start) (store_of history now)
  pub holds : HasMap (store_of history now) root pages entries
  -- what is reached was reached before or made, and isn't retired
  pub account : let store = store_of history now in
      (n : ℕ) → times n pages + times n store.retired ≡ times n live + times n store.made

-- A crash at any moment of the call leaves the entries from before, or those of the turn. At Ok it
-- leaves the turn's alone, and the next turn may begin.
pub record Moves {D : Type 0} (history : D → History) (pages : List ℕ) (before after : List Entry)
    (result : Result (Unit {0}) CommitFault) (old new : State D) : Type 0 where
  pub any_moment : LeavesOnly (pager_history history old) (pager_history history new)
      (λ image. StandsFor image before ⊎ StandsFor image after)
  pub acknowledged : OnOk result (CrashLeaves (pager_history history new)
      (λ image. StandsFor image after))
  pub begun : OnOk result (IsBegun history new pages after)

-- For whatever entries the turn began with, and whatever tree it made of them.
abbrev pub MovesTurns : {D : Type 0} → (D → History) → ℕ → Result (Unit {0}) CommitFault
    → State D → State D → Type 0
MovesTurns {D = D} history root result old new =
    (start : State D) (live : List ℕ) (before : List Entry) → IsBegun history start live before
    → (pages : List ℕ) (after : List Entry)
    → (KeepsWord (pager_history history old)
    → IsTurn history start old root live pages after)
    → Moves history pages before after result old new
