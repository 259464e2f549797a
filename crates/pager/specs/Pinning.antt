-- Versions of the tree that are pinned, and what keeps them.
use Rattle.std.specs.Prelude.{◌≡◌, ℕ, ◌≤◌, List, [], ◌∷◌, drop, Result, IfOk, OnErr, OnOk}
use Rattle.std.specs.List.{AllByRecursion}
use Rattle.page.specs.History.{History, KeepsWord}
use Rattle.tree_model.specs.Keys.{Entry, times}
use Rattle.tree_model.specs.Reach.{HasMap}
use Rattle.tree_model.specs.Store.{Grows}
use Rattle.freelist.specs.Book.{pinned, unpinned}
use Rattle.freelist.specs.declared.turns.Retirement.{Retirement}
use Rattle.roots.specs.Store.{durable_root}
use Rattle.roots.specs.Turn.{numbers_of}
use Rattle.pager.specs.Commit.{IsTurn}
use Rattle.pager.specs.State.{State}
use Rattle.pager.specs.Turn.{IsBegun, undone_to}
use Rattle.pager.specs.View.{pager_history, store_of}
use Rattle.pager.specs.declared.version.Version.{Version}

-- The version is pinned, once or more often.
abbrev pub IsPinned : {D : Type 0} → Version → State D → Type 0
IsPinned version p = 1 ≤ times version.generation p.book.pins

-- What waits of these pages was retired at this generation or later.
abbrev pub WaitSince : ℕ → List ℕ → List Retirement → Type 0
WaitSince generation pages waiting =
    AllByRecursion (λ (r : Retirement). 1 ≤ times r.page pages → generation ≤ r.version) waiting

-- A version is pinned: the tree below its root, which reaches these pages and has these entries, is
-- there, and its pin keeps what later turns retire of it.
pub record KeepsVersion {D : Type 0} (history : D → History) (version : Version) (pages : List ℕ)
    (entries : List Entry) (p : State D) : Type 0 where
  pub pinned : IsPinned version p
  pub since : version.generation ≤ (durable_root p.store).generation
  pub waits : KeepsWord (pager_history history p)
      → WaitSince version.generation pages p.book.waiting
  pub holds : KeepsWord (pager_history history p)
      → HasMap (store_of history p) version.root pages entries

-- each version that the one keeps is kept by the other
abbrev pub KeepsEach : {D : Type 0} → (D → History) → State D → State D → Type 0
KeepsEach {D = D} history old new =
    (version : Version) (pages : List ℕ) (entries : List Entry)
    → KeepsVersion history version pages entries old
    → KeepsVersion history version pages entries new

-- What is pinned stays so, and is kept.
pub record KeepsVersions {D : Type 0} (history : D → History) (old new : State D) : Type 0 where
  pub pins : new.book.pins ≡ old.book.pins
  pub each : KeepsEach history old new

-- Law: what only reads, makes and retires pages keeps each version that is pinned.
abbrev pub VersionsStay : {D : Type 0} → (D → History) → Type 0
VersionsStay {D = D} history =
    (old new : State D) → Grows (store_of history old) (store_of history new)
    → KeepsVersions history old new

-- Undoing the pages that were made behind so many keeps each version that reaches none of them.
abbrev pub KeepsOlder : {D : Type 0} → (D → History) → ℕ → State D → State D → Type 0
KeepsOlder {D = D} history made old new =
    (version : Version) (pages : List ℕ) (entries : List Entry)
    → KeepsVersion history version pages entries old
    → (KeepsWord (pager_history history old)
    → (n : ℕ) → 1 ≤ times n pages → times n (numbers_of (drop made old.made)) ≡ 0)
    → KeepsVersion history version pages entries new

-- A pin and the end of one change what a turn began with. It goes on as one that began where
-- undoing all of it leads to now.
pub record TurnGoesOn {D : Type 0} (history : D → History) (old new : State D) : Type 0 where
  pub grows : Grows (store_of history (undone_to 0 0 new)) (store_of history new)
  pub begun : (start : State D) (live : List ℕ) (before : List Entry)
      → IsBegun history start live before
      → Grows (store_of history start) (store_of history old)
      → IsBegun history (undone_to 0 0 new) live before
  pub turn : (start : State D) (live : List ℕ) (before : List Entry)
      → IsBegun history start live before
      → (root : ℕ) (pages : List ℕ) (after : List Entry)
      → IsTurn history start old root live pages after
      → KeepsWord (pager_history history new)
      → IsTurn history (undone_to 0 0 new) new root live pages after
  -- what was kept then is kept there, where it is pinned still
  pub versions : (start : State D) → start.made ≡ []
      → Grows (store_of history start) (store_of history old)
      → (version : Version) (pages : List ℕ) (entries : List Entry)
      → KeepsVersion history version pages entries start → IsPinned version new
      → KeepsVersion history version pages entries (undone_to 0 0 new)

-- The turn's tree below this page was pinned, or nothing changed.
pub record Pins {D : Type 0} (history : D → History) (root : ℕ)
    {E : Type 0} (result : Result Version E) (old new : State D) : Type 0 where
  pub pinned : let generation = (durable_root old.store).generation in
      OnOk result (new ≡ record old { book = pinned generation old.book })
  pub version : let generation = (durable_root old.store).generation in
      IfOk result (λ version. version ≡ record { generation = generation; root = root })
  pub counts : let generation = (durable_root old.store).generation in
      OnOk result ((n : ℕ) → times n new.book.pins ≡ times n (generation ∷ old.book.pins))
  pub err : OnErr result (new ≡ old)
  -- a turn that began with some entries has made the tree
  pub keeps : (start : State D) (live : List ℕ) (before : List Entry)
      → IsBegun history start live before
      → (pages : List ℕ) (after : List Entry)
      → (KeepsWord (pager_history history old) → IsTurn history start old root live pages after)
      → IfOk result (λ version. KeepsVersion history version pages after new)
  pub others : KeepsEach history old new
  pub goes_on : TurnGoesOn history old new

-- One pin of the version ended.
pub record Unpins {D : Type 0} (history : D → History) (version : Version)
    (old new : State D) : Type 0 where
  pub unpinned : new ≡ record old { book = unpinned version.generation old.book }
  pub counts : IsPinned version old
      → (n : ℕ) → times n old.book.pins ≡ times n (version.generation ∷ new.book.pins)
  -- what is pinned still is kept
  pub others : (other : Version) (pages : List ℕ) (entries : List Entry)
      → KeepsVersion history other pages entries old → IsPinned other new
      → KeepsVersion history other pages entries new
  pub goes_on : TurnGoesOn history old new
