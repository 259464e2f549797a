-- What a commit does.
use Rattle.std.specs.Prelude.{◌≡◌, ◌≢◌, ◌⊎◌, ℕ, ◌+◌, ◌-◌, ◌^◌, ◌<◌, ◌≤◌, List, true, Result, Err}
use Rattle.std.specs.Prelude.{OnOk, OnErr}
use Rattle.std.specs.List.{AllByRecursion}
use Rattle.page.specs.Format.{PageModel}
use Rattle.page.specs.History.{History, KeepsWord, now, reads}
use Rattle.page.specs.Crash.{ExtendsHistory, LeavesOnly, CrashLeaves}
use Rattle.tree_model.specs.Keys.{Entry}
use Rattle.roots.specs.Image.{IsOnPages, StandsFor}
use Rattle.roots.specs.Store.{disk_history, durable_root, failed_reads, is_stopped, IsRunning}
use Rattle.roots.specs.Store.{HasDeviceCause, IsCommitted, Keeps}
use Rattle.roots.specs.Turn.{AreWritten, IsTurn, LieBehind, next_root, numbers_of}
use Rattle.roots.specs.declared.root.Root.{Root}
use Rattle.roots.specs.declared.store.Store.{Store}
use Rattle.roots.specs.declared.store.CommitFault.{CommitFault}
use Rattle.roots.specs.declared.store.CommitFault.TheVariants as faults

-- The root page of a tree was made the committed one, or not.
pub record CommitsRoot {D : Type 0} (history : D → History) (root_page : ℕ)
    (result : Result (Unit {0}) CommitFault) (old new : Store D) : Type 0 where
  pub extends : ExtendsHistory (disk_history history old) (disk_history history new)
  pub running : OnOk result (IsRunning old × IsRunning new)
  pub version : OnOk result
      ((durable_root new).generation ≡ (durable_root old).generation + 1)
  pub tree : OnOk result ((durable_root new).tree ≡ root_page)
  -- Full comes only where no greater generation is left
  pub full : result ≡ Err faults.Full
      → ((durable_root old).generation ≡ 2 ^ 64 - 1) × (new ≡ old)
  pub no_memory : result ≢ Err faults.Memory
  pub device : result ≡ Err faults.Device → KeepsWord (disk_history history new)
      → HasDeviceCause history old new
  pub stops : result ≡ Err faults.Device → is_stopped new ≡ true
  pub idle : is_stopped old ≡ true → new ≡ old
  -- it reads nothing
  pub reads : failed_reads new ≡ failed_reads old

-- What reads give after it: the pages that were handed in, where it is done, and in each other page
-- what was there.
pub record LeavesPages {D : Type 0} (history : D → History) (made : List PageModel)
    (tree free_list free_count : ℕ) (result : Result (Unit {0}) CommitFault)
    (old new : Store D) : Type 0 where
  pub others : KeepsWord (disk_history history new) → (k : ℕ) → 2 ≤ k
      → (IsOnPages (numbers_of made) k → ⊥)
      → reads (now (disk_history history new)) k ≡ reads (now (disk_history history old)) k
  pub written : KeepsWord (disk_history history new) → LieBehind 0 made
      → OnOk result (AreWritten (reads (now (disk_history history new))) made)
  pub root : AllByRecursion (λ (model : PageModel). model.page < 1048576) made
      → OnOk result
      (durable_root new ≡ next_root (durable_root old) made tree free_list free_count)
  pub still : OnErr result (durable_root new ≡ durable_root old)

-- A crash at any moment of the call leaves the entries from before, or those of the turn. At Ok it
-- leaves the turn's alone.
pub record MovesMap {D : Type 0} (history : D → History) (next : Root) (pages : List ℕ)
    (before after : List Entry) (result : Result (Unit {0}) CommitFault)
    (old new : Store D) : Type 0 where
  pub any_moment : LeavesOnly (disk_history history old) (disk_history history new)
      (λ image. StandsFor image before ⊎ StandsFor image after)
  pub acknowledged : OnOk result (CrashLeaves (disk_history history new)
      (λ image. StandsFor image after))
  pub committed : OnOk result (IsCommitted history new pages after)
  pub root : OnOk result (durable_root new ≡ next)
  pub kept : result ≡ Err faults.Full → CrashLeaves (disk_history history new)
      (λ image. StandsFor image before)

-- For whatever entries are committed, and whatever turn is handed in.
abbrev pub MovesMaps : {D : Type 0} → (D → History) → List PageModel
    → (tree free_list free_count : ℕ)
    → Result (Unit {0}) CommitFault → Store D → Store D → Type 0
MovesMaps history made tree free_list free_count result old new =
    (before : List Entry) (live : List ℕ) → IsCommitted history old live before
    → let next = next_root (durable_root old) made tree free_list free_count in
    (after : List Entry) (pages : List ℕ)
    → IsTurn (disk_history history old) (durable_root old) live made next pages after
    → MovesMap history next pages before after result old new

-- The same of a disk alone, whose next root this is.
pub record MovesRoot (next : Root) (pages : List ℕ) (before after : List Entry) {E : Type 0}
    (result : Result (Unit {0}) E) (old new : History) : Type 0 where
  pub any_moment : LeavesOnly old new (λ image. StandsFor image before ⊎ StandsFor image after)
  pub keeps : OnOk result (Keeps new next pages after)

abbrev pub MovesDisk : {E : Type 0} → List PageModel → Root → Result (Unit {0}) E
    → History → History → Type 0
MovesDisk made next result old new =
    (root : Root) (before : List Entry) (live : List ℕ) → Keeps old root live before
    → (after : List Entry) (pages : List ℕ) → IsTurn old root live made next pages after
    → next ≡ next_root root made next.tree next.free_list next.free_count
    → next.generation < 2 ^ 64
    → MovesRoot next pages before after result old new
