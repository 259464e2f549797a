-- Pages by their numbers, as the calls of a tree see them.
use Rattle.std.specs.Prelude.{◌≡◌, ℕ, ◌+◌, ◌<◌, ◌≤◌, Bool, true, IsTrue, ◌⊎◌, List, [], ◌∷◌, ◌++◌}
use Rattle.std.specs.Prelude.{if◌then◌else◌}
use Rattle.page.specs.Content.{Content}
use Rattle.page.specs.Crash.{ReadsOnly}
use Rattle.page.specs.History.{History}
use Rattle.tree_model.specs.declared.pages.TreeFault.{TreeFault}
use Rattle.tree_model.specs.declared.pages.TreeFault.TheVariants as faults
use Rattle.tree_model.specs.Keys.{times}

-- Each moment of the device that keeps the pages; numbers that say what was there when a turn
-- began; the content of each page; the pages that may not be given out, as something still reaches
-- them; the pages that calls have given out and retired so far, the last one first; how often no
-- page was free, and how often a read of the device has failed, both as far as a u64 counts.
pub record Store : Type 0 where
  pub history : History
  pub base : List ℕ
  pub page : ℕ → Content
  pub live : ℕ → Bool
  pub made : List ℕ
  pub retired : List ℕ
  pub failed_allocations : ℕ
  pub failed_reads : ℕ

-- that of pages which no device keeps
abbrev pub no_device : History
no_device = record {
  keeps_word = true;
  clock = 0;
  moment = λ t k. record { read = []; synced = []; pending = [] };
  failures = 0;
  failed_writes = 0;
}

-- What is said of a call holds while the device keeps its word after it.
abbrev pub KeepsWord : Store → Type 0
KeepsWord s = IsTrue s.history.keeps_word

-- What no call changes, whether the device keeps its word or not: the device is only read, and the
-- numbers of the beginning stay.
pub record Stays (old new : Store) : Type 0 where
  pub base : new.base ≡ old.base
  pub reads : ReadsOnly old.history new.history

-- a live page with this content, which is never page 0
pub record IsAt (s : Store) (n : ℕ) (content : Content) : Type 0 where
  pub number : 0 < n
  pub live : s.live n ≡ true
  pub holds : s.page n ≡ content

abbrev pub flag : Bool → ℕ
flag b = if b then 1 else 0

-- Each read that fails is counted, as far as a u64 counts: the count rises where one failed, and
-- no faster than the device fails.
pub record CountsReads (old new : Store) : Type 0 where
  pub rises : old.failed_reads ≤ new.failed_reads
  pub paced : new.failed_reads + old.history.failures ≤ old.failed_reads + new.history.failures
  pub counted : old.history.failures < new.history.failures
      → (old.failed_reads < new.failed_reads) ⊎ (new.failed_reads ≡ 18446744073709551615)

-- THE FRAME: what is live stays, with its content; each page that became live was made once.
pub record Frame (old new : Store) : Type 0 where
  pub word : KeepsWord old
  pub kept : (n : ℕ) (content : Content) → IsAt old n content → IsAt new n content
  pub made : (n : ℕ) → times n new.made + flag (old.live n) ≡ times n old.made + flag (new.live n)
  -- what is made and retired comes in front of what was
  pub made_on : (more : List ℕ) × (new.made ≡ more ++ old.made)
  pub retired_on : (more : List ℕ) × (new.retired ≡ more ++ old.retired)
  pub failures : old.history.failures ≤ new.history.failures
  pub failed_allocations : old.failed_allocations ≤ new.failed_allocations
  pub counts : CountsReads old new

pub record Grows (old new : Store) : Type 0 where
  pub stays : Stays old new
  pub frame : KeepsWord new → Frame old new

-- A page was asked for and none was free: their count grew, or is the greatest that a u64 can tell.
abbrev pub HasNoPage : Store → Store → Type 0
HasNoPage old new = (old.failed_allocations < new.failed_allocations)
    ⊎ (new.failed_allocations ≡ 18446744073709551615)

-- A fault has its cause: the device failed, or no page was free, or memory ran out. The others are
-- those of pages that are no tree.
abbrev pub HasCause : Store → Store → TreeFault → Type 0
HasCause old new faults.Memory = Unit {0}
HasCause old new faults.Device = old.history.failures < new.history.failures
HasCause old new faults.Full = HasNoPage old new
HasCause old new faults.Kind = ⊥
HasCause old new faults.Number = ⊥
HasCause old new faults.Order = ⊥
HasCause old new faults.Length = ⊥

-- Nothing has changed but how often the device has failed and no page was free.
pub record IsSame (old new : Store) : Type 0 where
  pub word : KeepsWord old
  pub page : new.page ≡ old.page
  pub live : new.live ≡ old.live
  pub made : new.made ≡ old.made
  pub retired : new.retired ≡ old.retired
  pub failures : old.history.failures ≤ new.history.failures
  pub failed_allocations : old.failed_allocations ≤ new.failed_allocations
  pub counts : CountsReads old new

-- nothing has changed, and the fault has its cause
pub record HasFailed (old new : Store) (e : TreeFault) : Type 0 where
  pub same : IsSame old new
  pub cause : HasCause old new e

-- a page that wasn't live was given out and written
pub record IsMade (old new : Store) (n : ℕ) (content : Content) : Type 0 where
  pub frame : Frame old new
  pub at : IsAt new n content
  pub made : new.made ≡ n ∷ old.made
  pub retired : new.retired ≡ old.retired

-- a page was noted as retired, and can still be read
pub record IsRetired (old new : Store) (n : ℕ) : Type 0 where
  pub frame : Frame old new
  pub made : new.made ≡ old.made
  pub retired : new.retired ≡ n ∷ old.retired
