-- What follows where collections have a state.
use Rattle.std.specs.Prelude.{◌≡◌, ◌≢◌, ℕ, false, List, [], replicate}
use Rattle.page.specs.History.{History, KeepsWord}
use Rattle.page.specs.Crash.{CrashLeaves}
use Rattle.roots.specs.declared.counting.PageCounts.{PageCounts}
use Rattle.entry_model.specs.State.{Collection}
use Rattle.pager.specs.declared.version.Version.{Version}
use Rattle.path.specs.declared.refusal.Refusal.{Refusal}
use Rattle.path.specs.declared.refusal.Refusal.TheVariants as refusals
use Rattle.collections.specs.State.{State}
use Rattle.collections.specs.Calls.{ExtendsTurn, HasCause, HasReadCause}
use Rattle.collections.specs.Counting.{HasCounts}
use Rattle.collections.specs.Holding.{HoldsState}
use Rattle.collections.specs.Standing.{HasState}
use Rattle.collections.specs.Versions.{HasVersion}
use Rattle.collections.specs.View.{disk_history, is_changed, is_stopped}

-- Until the commit, a crash leaves the collections as the turn began.
abbrev pub LeavesStart : {D : Type 0} → (D → History) → Type 0
LeavesStart {D = D} history = (c : State D) (start now : List Collection)
    → is_stopped c ≡ false → HasState history c start now
    → CrashLeaves (disk_history history c) (λ image. HoldsState image start)

-- A turn that has changed nothing stands for what it began with.
abbrev pub RestsAtStart : {D : Type 0} → (D → History) → Type 0
RestsAtStart {D = D} history = (c : State D) (start now : List Collection)
    → is_stopped c ≡ false → KeepsWord (disk_history history c)
    → HasState history c start now → is_changed c ≡ false → now ≡ start

-- There is one state at most.
abbrev pub HasOneState : {D : Type 0} → (D → History) → Type 0
HasOneState {D = D} history = (c : State D) (start now start' now' : List Collection)
    → is_stopped c ≡ false → KeepsWord (disk_history history c)
    → HasState history c start now → HasState history c start' now'
    → (start ≡ start') × (now ≡ now')

-- A version has one list of collections at most.
abbrev pub HasOneVersion : {D : Type 0} → (D → History) → Type 0
HasOneVersion {D = D} history = (c : State D) (version : Version) (a b : List Collection)
    → KeepsWord (disk_history history c)
    → HasVersion history c version a → HasVersion history c version b → a ≡ b

-- An image holds one list of collections at most.
abbrev pub HoldsOne : Type 0
HoldsOne = (image : ℕ → List ℕ) (a b : List Collection) → HoldsState image a → HoldsState image b
    → a ≡ b

-- The pages of an image are counted in one way.
abbrev pub HasOneCount : Type 0
HasOneCount = (image : ℕ → List ℕ) (a b : List Collection) (one other : PageCounts)
    → HasCounts image a one → HasCounts image b other → one ≡ other

-- An image whose root sectors are zeros holds no collection.
abbrev pub ZerosHoldNothing : Type 0
ZerosHoldNothing = (image : ℕ → List ℕ) → image 0 ≡ replicate 512 0
    → image 1 ≡ replicate 512 0 → HoldsState image []

-- A turn goes on from where it is, and on from there.
abbrev pub ExtendsItself : {D : Type 0} → (D → History) → Type 0
ExtendsItself {D = D} history = (c : State D) → ExtendsTurn history c c

abbrev pub GoesFurther : {D : Type 0} → (D → History) → Type 0
GoesFurther {D = D} history = (a b c : State D)
    → ExtendsTurn history a b → ExtendsTurn history b c → ExtendsTurn history a c

-- What refuses a call that only reads is a cause of any call's, and never that no page is free.
abbrev pub ReadsFindRoom : {D : Type 0} → (D → History) → Type 0
ReadsFindRoom {D = D} history = (old new : State D) (e : Refusal)
    → HasReadCause history old new e → (e ≢ refusals.Full) × HasCause history old new e
