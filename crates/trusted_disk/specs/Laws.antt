-- What a disk, and its history with its word only where something is true, say of each other.
use Rattle.std.specs.Prelude.{◌≡◌, ◌↔◌, ℕ, Bool, IsTrue, List}
use Rattle.page.specs.History.{History, KeepsWord, HasTime, LeftSince, now, reads}
use Rattle.page.specs.Crash.{ExtendsHistory, CrashLeaves, LeavesOnly, OnlySyncs, ReadsOnly}
use Rattle.trusted_disk.specs.Trusting.{trusting}

-- Its word is kept just where the disk keeps it and this is true.
abbrev pub TellsWord : Type 0
TellsWord = (b : Bool) (h : History) → KeepsWord (trusting b h) ↔ (KeepsWord h × IsTrue b)

-- Its sectors, and what reads give, are the disk's.
abbrev pub HasSectors : Type 0
HasSectors =
    (b : Bool) (h : History)
    → (now (trusting b h) ≡ now h) × (reads (now (trusting b h)) ≡ reads (now h))

-- A crash may have left the same images.
abbrev pub LeavesAlike : Type 0
LeavesAlike =
    (b : Bool) (h : History) (t : ℕ) (image : ℕ → List ℕ)
    → LeftSince (trusting b h) t image ↔ LeftSince h t image

-- Where this is true it is the disk's own, so all that is said of the one is so of the other.
abbrev pub TrustsAll : Type 0
TrustsAll = (b : Bool) (h : History) → IsTrue b → trusting b h ≡ h

-- What is so of two moments of a disk is so of them under a truth value: it went on, it was only
-- read, it was only synced, and a crash leaves only images of one kind.
pub record PassOn (b : Bool) (old new : History) (P : (ℕ → List ℕ) → Type 0) : Type 0 where
  pub extends : ExtendsHistory old new → ExtendsHistory (trusting b old) (trusting b new)
  pub only : LeavesOnly old new P → LeavesOnly (trusting b old) (trusting b new) P
  pub here : CrashLeaves new P → CrashLeaves (trusting b new) P
  pub reads : ReadsOnly old new → ReadsOnly (trusting b old) (trusting b new)
  pub syncs : OnlySyncs old new → OnlySyncs (trusting b old) (trusting b new)

abbrev pub PassesOn : ((ℕ → List ℕ) → Type 0) → Type 0
PassesOn P = (b : Bool) (old new : History) → PassOn b old new P

-- The way back, where both are true
pub record TakeBack (a b : Bool) (old new : History) (P : (ℕ → List ℕ) → Type 0) : Type 0 where
  pub extends : ExtendsHistory (trusting a old) (trusting b new) → ExtendsHistory old new
  pub only : LeavesOnly (trusting a old) (trusting b new) P → LeavesOnly old new P
  pub here : CrashLeaves (trusting b new) P → CrashLeaves new P
  pub reads : ReadsOnly (trusting a old) (trusting b new) → ReadsOnly old new
  pub syncs : OnlySyncs (trusting a old) (trusting b new) → OnlySyncs old new

abbrev pub TakesBack : ((ℕ → List ℕ) → Type 0) → Type 0
TakesBack P =
    (a b : Bool) (old new : History) → IsTrue a → IsTrue b → TakeBack a b old new P

-- Where a disk kept its word and was trusted, and its clock isn't at the greatest value, what went
-- on from it under any truth value keeps its word and is trusted.
abbrev pub StaysTrusted : Type 0
StaysTrusted =
    (a b : Bool) (old new : History) → ExtendsHistory (trusting a old) (trusting b new)
    → KeepsWord old → IsTrue a → HasTime new → KeepsWord new × IsTrue b
