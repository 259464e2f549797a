-- What calls of the collections give, and why they refuse.
use Rattle.std.specs.Prelude.{◌≡◌, ◌⊎◌, ℕ, ◌<◌, ◌≤◌, Bool, true, List, [], length, Result, IfErr}
use Rattle.std.specs.Prelude.{OnErr, MatchResult}
use Rattle.page.specs.History.{History, KeepsWord}
use Rattle.tree_model.specs.Keys.{Entry, Edit}
use Rattle.tree_model.specs.Store.{Grows, HasNoPage}
use Rattle.path.specs.declared.refusal.Refusal.{Refusal}
use Rattle.path.specs.declared.refusal.Refusal.TheVariants as refusals
use Rattle.entry_model.specs.LawfulState.{IsLawfulState}
use Rattle.entry_model.specs.State.{Collection}
use Rattle.entry_model.specs.StateEntries.{Leads, Spells}
use Rattle.collections.specs.State.{State}
use Rattle.collections.specs.Standing.{HasState}
use Rattle.collections.specs.View.{disk_history, is_changed, is_stopped, pages_of}

-- The turn went on: what its tree reaches stays, whatever the disk.
abbrev pub ExtendsTurn : {D : Type 0} → (D → History) → State D → State D → Type 0
ExtendsTurn history old new = Grows (pages_of history old) (pages_of history new)

-- the device failed in the call or before
abbrev pub HasFailed : {D : Type 0} → (D → History) → State D → State D → Type 0
HasFailed history old new = (is_stopped old ≡ true)
    ⊎ ((disk_history history old).failures < (disk_history history new).failures)

-- Why a call that only reads was refused: memory ran out, or the device failed. It asks for no
-- page, so that none is free is no cause.
abbrev pub HasReadCause : {D : Type 0} → (D → History) → State D → State D
    → Refusal → Type 0
HasReadCause history old new e = (e ≡ refusals.OutOfMemory)
    ⊎ ((e ≡ refusals.StorageFailed) × HasFailed history old new)

-- Why a call was refused that isn't refused by what it asks for: memory ran out, the device failed,
-- or no page was free.
abbrev pub HasCause : {D : Type 0} → (D → History) → State D → State D
    → Refusal → Type 0
HasCause history old new e = (e ≡ refusals.OutOfMemory)
    ⊎ (((e ≡ refusals.StorageFailed) × HasFailed history old new)
    ⊎ ((e ≡ refusals.Full) × HasNoPage (pages_of history old) (pages_of history new)))

-- ---- reading

-- whether the turn's tree is another than the committed one, and how often a page was asked for and
-- none was free
abbrev pub turn_so_far : {D : Type 0} → (D → History) → State D → Bool × ℕ
turn_so_far history c = (is_changed c, (pages_of history c).failed_allocations)

-- The turn changed nothing and asked for no page: both are as before.
abbrev pub IsUnchanged : {D : Type 0} → (D → History) → State D → State D → Type 0
IsUnchanged history old new = turn_so_far history new ≡ turn_so_far history old

-- A call that reads: nothing of the turn changes, and while the disk keeps its word, the answer is
-- right for the collections, or the refusal has its cause.
pub record Reads {D X : Type 0} (history : D → History) (IsRight : List Collection → X → Type 0)
    (result : Result X Refusal) (old new : State D) : Type 0 where
  pub extends : ExtendsTurn history old new
  pub unchanged : IsUnchanged history old new
  pub same : (start now : List Collection) → HasState history old start now
      → HasState history new start now
  pub answers : KeepsWord (disk_history history new) → (start now : List Collection)
      → HasState history old start now
      → MatchResult result (IsRight now) (HasReadCause history old new)

-- ---- writing

-- a tree of these would have 2^32 entries or more
pub record IsTooLarge (collections : List Collection) : Type 0 where
  pub entries : List Entry
  pub spells : Spells entries collections
  pub many : 4294967296 ≤ length entries

-- the refusals that come of memory and of the file
abbrev pub IsOfFile : Refusal → Type 0
IsOfFile e = (e ≡ refusals.OutOfMemory) ⊎ ((e ≡ refusals.StorageFailed) ⊎ (e ≡ refusals.Full))

abbrev pub HasWriteCause : {D : Type 0} → (D → History) → List Collection
    → State D → State D → Refusal → Type 0
HasWriteCause history after old new e =
    HasCause history old new e ⊎ ((e ≡ refusals.Full) × IsTooLarge after)

-- These edits, which lead from the collections to others, were put into the tree, or nothing of
-- them.
pub record Applies {D : Type 0} (history : D → History) (edits : List Edit)
    (result : Result (Unit {0}) Refusal) (old new : State D) : Type 0 where
  pub extends : ExtendsTurn history old new
  pub idle : edits ≡ [] → new ≡ old
  pub unchanged : OnErr result (is_changed new ≡ is_changed old)
  pub kinds : IfErr result IsOfFile
  pub state : (start before after : List Collection) → HasState history old start before
      → Leads edits before after → IsLawfulState after
      → MatchResult result (λ _. HasState history new start after)
      (λ _. HasState history new start before)
  pub cause : KeepsWord (disk_history history new) → (start before after : List Collection)
      → HasState history old start before → Leads edits before after → IsLawfulState after
      → IfErr result (HasWriteCause history after old new)
