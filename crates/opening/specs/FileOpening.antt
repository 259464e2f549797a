-- What opening a file gives.
use Rattle.std.specs.Prelude.{◌≡◌, ◌≢◌, ℕ, false, true, List, [], ◌++◌, map, Option, Some, Result}
use Rattle.std.specs.Prelude.{IfErr, IfOk, MatchResult}
use Rattle.std.specs.Global.{Vec}
use Rattle.std.specs.Option.{option_map}
use Rattle.page.specs.History.{History, KeepsWord, now, reads, IsImage}
use Rattle.page.specs.Crash.{ExtendsHistory, LeavesOnly, CrashLeaves}
use Rattle.tree_model.specs.Keys.{Entry}
use Rattle.roots.specs.declared.opening.OpenFault.{OpenFault}
use Rattle.roots.specs.declared.opening.OpenFault.TheVariants as faults
use Rattle.entry_model.specs.State.{Collection}
use Rattle.collections.specs.Calls.{ExtendsTurn, HasFailed}
use Rattle.collections.specs.Entries.{HasEntries, entries_from}
use Rattle.collections.specs.State.{State}
use Rattle.collections.specs.Standing.{HasState}
use Rattle.collections.specs.Trusting.{inner_history, is_trusted}
use Rattle.collections.specs.Versions.{pins_of}
use Rattle.collections.specs.View.{disk_history, is_changed, is_stopped, pages_of}
use Rattle.trusted_disk.specs.Trusting.{trusted_history}
use Rattle.trusted_disk.specs.declared.disk.TrustedDisk.{TrustedDisk}
use Rattle.opening.specs.Holding.{HoldsCollections}
use Rattle.opening.specs.Judging.{IsLoadingAs, Makes, MakesNone, Progress, RefusesOne, TakesAll}
use Rattle.opening.specs.Judging.{nothing_read}
use Rattle.opening.specs.Loading.{named_as, progress_of}
use Rattle.opening.specs.declared.loading.Loading.{Loading}
use Rattle.database_model.specs.Lawful.{IsLawfulState}
use Rattle.opening.specs.TurnStates.{TurnStates}

-- ---- entries of the file

-- A file was only read: its turn goes on, and its collections and its entries stay.
pub record IsRead {D : Type 0} (history : D → History) (old new : State D) : Type 0 where
  pub extends : ExtendsTurn history old new
  pub unchanged : is_changed new ≡ is_changed old
  pub same : (start now : List Collection) → HasState history old start now
      → HasState history new start now
  pub stays : KeepsWord (disk_history history new) → (entries : List Entry)
      → HasEntries history old entries → HasEntries history new entries

-- Why entries were not taken: the device failed, memory ran out, or they are damaged for this
-- reason.
pub record HasFault {D : Type 0} (history : D → History) (Why : Type 0) (old new : State D)
    (fault : OpenFault) : Type 0 where
  pub device : fault ≡ faults.Device → HasFailed history old new
  pub damaged : fault ≢ faults.Device → fault ≢ faults.Memory → Why

-- it says nothing of what the root sectors are
abbrev pub IsOfEntries : OpenFault → Type 0
IsOfEntries fault = (fault ≢ faults.NotADatabase) × (fault ≢ faults.NewerFormat)

-- Entries were judged by all that the tree has: while the disk keeps its word the answer is right
-- for these, or the fault has its cause.
pub record Judges {D X : Type 0} (history : D → History) (IsRight : List Entry → X → Type 0)
    (Why : List Entry → Type 0) (result : Result X OpenFault) (old new : State D) : Type 0 where
  pub read : IsRead history old new
  pub kinds : IfErr result IsOfEntries
  pub answers : KeepsWord (disk_history history new) → (all : List Entry)
      → HasEntries history old all
      → MatchResult result (IsRight all) (HasFault history (Why all) old new)

-- Some entries were read from a key on, and taken; those left stand from the next key on.
pub record HasTaken (from : List ℕ) (p last : Progress) (all : List Entry)
    (next : Option (Vec ℕ)) : Type 0 where
  pub pairs : List Entry
  pub is : entries_from (Some from) all
      ≡ pairs ++ entries_from (option_map (λ v. v.items) next) all
  pub takes : TakesAll all p pairs last

abbrev pub LoadsBatch : {D : Type 0} → (D → History) → List ℕ → Result (Option (Vec ℕ)) OpenFault
    → Progress → Progress → State D → State D → Type 0
LoadsBatch history from result p last old new = Judges history (HasTaken from p last)
    (λ all. RefusesOne all p (entries_from (Some from) all)) result old new

-- all entries were taken
abbrev pub LoadsEntries : {D : Type 0} → (D → History) → Result (Unit {0}) OpenFault
    → Progress → State D → State D → Type 0
LoadsEntries history result last old new = Judges history
    (λ all u. TakesAll all nothing_read all last) (λ all. RefusesOne all nothing_read all)
    result old new

-- All that the file's tree has was read, and it makes these collections.
pub record LoadsFile {D : Type 0} (history : D → History) (result : Result Loading OpenFault)
    (last : List Collection) (old new : State D) : Type 0 where
  pub loaded : IfOk result (λ l. IsLoadingAs (map named_as l.names.items) last)
  pub judges : Judges history (λ all l. Makes all (progress_of l last)) MakesNone result old new

-- ---- the file

-- The disk was opened, by reads and a sync alone. What the file has is told by what the disk's
-- bytes hold, of which no entry was read: its disk is trusted where they hold collections, and
-- these are the file's.
pub record IsFileOpened {D : Type 0} (history : D → History) (disk : D)
    (known : TurnStates) (kept : State (TrustedDisk D)) : Type 0 where
  pub lawful : IsLawfulState known.now
  pub idle : known.start ≡ known.now
  pub running : is_stopped kept ≡ false
  pub clean : is_changed kept ≡ false
  pub pins : pins_of kept ≡ []
  -- both counts begin at nothing: pages asked for in vain, and reads that failed
  pub no_failed_allocations : (pages_of (trusted_history history) kept).failed_allocations ≡ 0
  pub no_failed_reads : KeepsWord (disk_history (trusted_history history) kept)
      → (pages_of (trusted_history history) kept).failed_reads ≡ 0
  pub extends : ExtendsHistory (history disk) (inner_history history kept)
  pub trusted : (cs : List Collection) → HoldsCollections (reads (now (history disk))) cs
      → (is_trusted kept ≡ true) × (known.now ≡ cs)
  pub file : HasState (trusted_history history) kept known.now known.now
  pub holds : KeepsWord (disk_history (trusted_history history) kept)
      → HoldsCollections (reads (now (history disk))) known.now
  pub alone : CrashLeaves (disk_history (trusted_history history) kept)
      (λ image. HoldsCollections image known.now)
  pub any_moment : IsImage (now (history disk)) (reads (now (history disk)))
      → LeavesOnly (history disk) (inner_history history kept) (IsImage (now (history disk)))
