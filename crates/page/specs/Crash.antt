-- What holds of every image that a crash may leave, over several calls.
use Rattle.std.specs.Prelude.{◌≡◌, ℕ, ◌<◌, ◌≤◌, List, if◌then◌else◌, ◌==◌}
use Rattle.page.specs.History.{History, Sector, KeepsWord, HasTime, now, MayHold, IsImage}
use Rattle.page.specs.History.{LeftSince, Syncs, reads}

-- The disk went on from old to new. Its word never comes back, and ends only where the clock is at
-- its greatest value.
pub record ExtendsHistory (old new : History) : Type 0 where
  pub kept : KeepsWord new → KeepsWord old
  pub keeps : KeepsWord old → HasTime new → KeepsWord new
  pub clock : old.clock ≤ new.clock
  pub past : KeepsWord new → (t : ℕ) → t ≤ old.clock → new.moment t ≡ old.moment t
  pub failures : KeepsWord new → old.failures ≤ new.failures
  pub failed_writes : KeepsWord new → old.failed_writes ≤ new.failed_writes

-- a crash at any moment from old to new leaves an image that has P
abbrev pub LeavesOnly : History → History → ((ℕ → List ℕ) → Type 0) → Type 0
LeavesOnly old new P =
    KeepsWord new → (image : ℕ → List ℕ) → LeftSince new old.clock image → P image

-- a crash now leaves an image that has P
abbrev pub CrashLeaves : History → ((ℕ → List ℕ) → Type 0) → Type 0
CrashLeaves h P = KeepsWord h → (image : ℕ → List ℕ) → IsImage (now h) image → P image

-- a crash leaves in the sector what a read gives
abbrev pub IsDurable : Sector → Type 0
IsDurable sector = (bytes : List ℕ) → MayHold sector bytes → bytes ≡ sector.read

-- an image with other bytes in one sector
abbrev pub put : (ℕ → List ℕ) → ℕ → List ℕ → ℕ → List ℕ
put image sector bytes k = if k == sector then bytes else image k

-- In the sectors that are kept a crash leaves what reads give, and that decides P of every image.
pub record Secures (sectors : ℕ → Sector) (Kept : ℕ → Type 0)
    (P : (ℕ → List ℕ) → Type 0) : Type 0 where
  pub durable : (k : ℕ) → Kept k → IsDurable (sectors k)
  pub decides : (image : ℕ → List ℕ) → ((k : ℕ) → Kept k → image k ≡ reads sectors k) → P image

-- a crash leaves what reads give
abbrev pub AreDurable : (ℕ → Sector) → Type 0
AreDurable sectors = (k : ℕ) → IsDurable (sectors k)

-- A disk before its first call: it keeps its word, nothing has failed, and a crash leaves what
-- reads give.
pub record IsFresh (h : History) : Type 0 where
  pub word : KeepsWord h
  pub clock : h.clock ≡ 0
  pub failures : h.failures ≡ 0
  pub failed_writes : h.failed_writes ≡ 0
  pub durable : AreDurable (now h)

-- an image of these sectors, but for some of them
abbrev pub IsImageOutside : (ℕ → Sector) → (ℕ → Type 0) → (ℕ → List ℕ) → Type 0
IsImageOutside sectors Written image = (k : ℕ) → (Written k → ⊥) → MayHold (sectors k) (image k)

-- The calls only read: at every moment the sectors were as they are.
pub record ReadsOnly (old new : History) : Type 0 where
  pub extends : ExtendsHistory old new
  pub same : KeepsWord new → now new ≡ now old
  pub still : KeepsWord new → (t : ℕ) → old.clock ≤ t → t ≤ new.clock → new.moment t ≡ now old

-- Calls that only read, and none of them failed.
pub record HasRead (old new : History) : Type 0 where
  pub reads : ReadsOnly old new
  pub clear : KeepsWord new → new.failures ≡ old.failures

-- Until the last call, which synced them, the sectors were as they are.
pub record OnlySyncs (old new : History) : Type 0 where
  pub still : KeepsWord new → (t : ℕ) → old.clock ≤ t → t < new.clock → new.moment t ≡ now old
  pub syncs : KeepsWord new → (k : ℕ) → Syncs (now old k) (now new k)
