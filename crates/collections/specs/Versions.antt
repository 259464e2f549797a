-- Versions of the collections that are pinned: each can be read, whatever is changed and committed
-- meanwhile.
use Rattle.std.specs.Prelude.{◌≡◌, ◌≢◌, ℕ, ◌≤◌, false, List, [], ◌∷◌, length, Result, Err, IfOk}
use Rattle.std.specs.Prelude.{OnErr, OnOk, MatchResult}
use Rattle.page.specs.History.{History, KeepsWord}
use Rattle.tree_model.specs.Keys.{Entry, times}
use Rattle.entry_model.specs.LawfulState.{IsLawfulState}
use Rattle.entry_model.specs.State.{Collection}
use Rattle.entry_model.specs.StateEntries.{Spells}
use Rattle.pager.specs.Pinning.{IsPinned, KeepsVersion}
use Rattle.pager.specs.declared.version.Version.{Version}
use Rattle.path.specs.declared.refusal.Refusal.{Refusal}
use Rattle.roots.specs.declared.store.CommitFault.{CommitFault}
use Rattle.roots.specs.declared.store.CommitFault.TheVariants as faults
use Rattle.collections.specs.Calls.{ExtendsTurn, HasReadCause, IsUnchanged}
use Rattle.collections.specs.Marks.{IsMarkOf, IsUntouched}
use Rattle.collections.specs.Standing.{HasState}
use Rattle.collections.specs.State.{State}
use Rattle.collections.specs.declared.mark.Mark.{Mark}
use Rattle.collections.specs.View.{disk_history, is_changed, is_stopped, pages_of}

-- The version has these collections: the entries of its tree spell them, and it is pinned.
pub record HasVersion {D : Type 0} (history : D → History) (c : State D) (version : Version)
    (collections : List Collection) : Type 0 where
  pub pages : List ℕ
  pub entries : List Entry
  pub keeps : KeepsVersion history version pages entries c.pager
  pub spells : Spells entries collections
  pub state : IsLawfulState collections
  -- no file has more
  pub few : length entries ≤ 4294967295

-- what each version has stays
abbrev pub KeepsEach : {D : Type 0} → (D → History) → State D → State D → Type 0
KeepsEach {D = D} history old new =
    (version : Version) (collections : List Collection)
    → HasVersion history old version collections → HasVersion history new version collections

-- law: what only reads the disk, and takes and retires pages, keeps what each version has
abbrev pub VersionsStay : {D : Type 0} → (D → History) → Type 0
VersionsStay {D = D} history =
    (old new : State D) → ExtendsTurn history old new → KeepsEach history old new

-- Taking back to a mark leaves what each version had that was pinned then.
abbrev pub KeepsThen : {D : Type 0} → (D → History) → Mark → State D → State D → Type 0
KeepsThen {D = D} history mark old new =
    (earlier : State D) → IsMarkOf mark earlier → ExtendsTurn history earlier old
    → KeepsEach history earlier new

-- ---- how often each is pinned

-- the generations that are pinned, once for each pin
abbrev pub pins_of : {D : Type 0} → State D → List ℕ
pins_of c = c.pager.book.pins

-- There is one pin of the version more.
abbrev pub HasOnePinMore : Version → List ℕ → List ℕ → Type 0
HasOnePinMore version fewer more = (n : ℕ) → times n more ≡ times n (version.generation ∷ fewer)

-- law: only pins and their ends change what is pinned, of all that goes on in a turn
abbrev pub PinsStay : {D : Type 0} → (D → History) → Type 0
PinsStay {D = D} history =
    (old new : State D) → ExtendsTurn history old new → pins_of new ≡ pins_of old

-- ---- what stays when the turn is taken back

-- The version has had these collections since the turn began: it had them where a turn begins that
-- has gone on to here. So it has them now, and when the turn is taken back.
pub record HasSinceStart {D : Type 0} (history : D → History) (c : State D) (version : Version)
    (collections : List Collection) : Type 0 where
  pub start : State D
  pub made : start.pager.made ≡ []
  pub extends : ExtendsTurn history start c
  pub had : HasVersion history start version collections

-- what each version has had since the turn began stays
abbrev pub KeepsSinceStart : {D : Type 0} → (D → History) → State D → State D → Type 0
KeepsSinceStart {D = D} history old new =
    (version : Version) (collections : List Collection)
    → HasSinceStart history old version collections → HasSinceStart history new version collections

-- law: what only reads the disk, and takes and retires pages, keeps this too
abbrev pub SinceStartStays : {D : Type 0} → (D → History) → Type 0
SinceStartStays {D = D} history =
    (old new : State D) → ExtendsTurn history old new → KeepsSinceStart history old new

-- A commit keeps what each version has, done or failed. The next turn begins with it, and a turn
-- that is still to be taken back keeps what each version has had since it began.
pub record CommitsVersions {D : Type 0} (history : D → History)
    (result : Result (Unit {0}) CommitFault) (old new : State D) : Type 0 where
  pub each : KeepsEach history old new
  pub begun : OnOk result ((version : Version) (collections : List Collection)
      → HasVersion history old version collections → HasSinceStart history new version collections)
  pub still : result ≢ Err faults.Device → KeepsSinceStart history old new

-- ---- pins

-- The turn goes on with the same collections, and nothing of it is durable or undone.
pub record StaysInTurn {D : Type 0} (history : D → History) (old new : State D) : Type 0 where
  pub untouched : IsUntouched history old new
  -- no page was asked for
  pub takes : (pages_of history new).failed_allocations ≡ (pages_of history old).failed_allocations
  pub unchanged : is_changed new ≡ is_changed old
  pub state : (start now : List Collection) → HasState history old start now
      → HasState history new start now
  -- where it is pinned still
  pub since_start : (version : Version) (collections : List Collection)
      → HasSinceStart history old version collections → IsPinned version new.pager
      → HasSinceStart history new version collections

-- The collections as they are now were pinned, or nothing changed.
pub record PinsNow {D E : Type 0} (history : D → History) (result : Result Version E)
    (old new : State D) : Type 0 where
  pub version : (start now : List Collection) → is_stopped old ≡ false
      → KeepsWord (disk_history history old) → HasState history old start now
      → IfOk result (λ version. HasVersion history new version now)
  -- where the turn has changed nothing, they are those that it began with
  pub rested : (start now : List Collection) → is_stopped old ≡ false
      → KeepsWord (disk_history history old) → HasState history old start now
      → is_changed old ≡ false
      → IfOk result (λ version. HasSinceStart history new version now)
  pub pinned : IfOk result (λ version. IsPinned version new.pager)
  pub once : IfOk result (λ version. HasOnePinMore version (pins_of old) (pins_of new))
  pub stays : StaysInTurn history old new
  pub others : KeepsEach history old new
  pub err : OnErr result (new ≡ old)

-- One pin of a version ended. What is pinned still has what it had.
pub record UnpinsVersion {D : Type 0} (history : D → History) (version : Version)
    (old new : State D) : Type 0 where
  pub once : IsPinned version old.pager → HasOnePinMore version (pins_of new) (pins_of old)
  pub stays : StaysInTurn history old new
  pub others : (other : Version) (collections : List Collection)
      → HasVersion history old other collections → IsPinned other new.pager
      → HasVersion history new other collections

-- ---- reading

-- A call that reads a version: nothing of the turn changes, and while the disk keeps its word and
-- this is so of what was asked for, the answer is right for the version's collections, or the
-- refusal has its cause.
pub record ReadsVersion {D A X : Type 0} (history : D → History) (version : Version)
    (Is : List Collection → A → Type 0) (IsRight : List Collection → A → X → Type 0)
    (result : Result X Refusal) (old new : State D) : Type 0 where
  pub extends : ExtendsTurn history old new
  pub unchanged : IsUnchanged history old new
  pub same : (start now : List Collection) → HasState history old start now
      → HasState history new start now
  pub answers : KeepsWord (disk_history history new) → (collections : List Collection)
      → HasVersion history old version collections → (asked : A) → Is collections asked
      → MatchResult result (IsRight collections asked) (HasReadCause history old new)
