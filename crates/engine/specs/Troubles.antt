-- Want of memory is no cover: what is told where a command met more than that.
use Rattle.std.specs.Prelude.{◌≡◌, ◌⊎◌, ◌<◌, ◌≤◌, ◌-◌, ◌^◌, ℕ}
use Rattle.page.specs.History.{History}
use Rattle.path.specs.declared.refusal.Refusal.{Refusal}
use Rattle.path.specs.declared.refusal.Refusal.TheVariants as refusals
use Rattle.engine.specs.Durable.{disk_history, failed_reads_of, failed_allocations_of}
use Rattle.engine.specs.declared.check_fault.CheckFault.{CheckFault}
use Rattle.engine.specs.declared.check_fault.CheckFault.TheVariants as faults
use Rattle.engine.specs.declared.engine.Engine.{Engine}
use Rattle.engine.specs.declared.troubles.Troubles.{Troubles}

-- no read failed and no page was wanted in vain, as far as these counts tell
abbrev pub AreNoMore : Troubles → Troubles → Type 0
AreNoMore before now =
    (now.failed_reads ≤ before.failed_reads) × (now.failed_allocations ≤ before.failed_allocations)

-- What a command is refused with: what it met; or, in the place of want of memory, that a read
-- failed meanwhile, or that no page was free.
abbrev pub Tells : Refusal → Troubles → Troubles → Refusal → Type 0
Tells met before now told =
    ((told ≡ met) × (met ≡ refusals.OutOfMemory → AreNoMore before now))
    ⊎ (((told ≡ refusals.StorageFailed) × (before.failed_reads < now.failed_reads))
    ⊎ ((told ≡ refusals.Full) × (before.failed_allocations < now.failed_allocations)))

-- Why a look through a file ended: what it met; or, in the place of want of memory, that a read
-- failed meanwhile.
abbrev pub TellsFault : CheckFault → Troubles → Troubles → CheckFault → Type 0
TellsFault met before now told =
    ((told ≡ met) × (met ≡ faults.Memory → now.failed_reads ≤ before.failed_reads))
    ⊎ ((told ≡ faults.Device) × (before.failed_reads < now.failed_reads))

-- In the call no read of the disk failed, by a count that tells nothing at its greatest value.
abbrev pub MetNoFailure : {D : Type 0} → (D → History) → Engine D → Engine D → Type 0
MetNoFailure history old new =
    ((disk_history history new).failures ≡ (disk_history history old).failures)
    ⊎ (failed_reads_of history new ≡ 2 ^ 64 - 1)

-- Neither that, nor was a page asked for in vain.
pub record MetNoTrouble {D : Type 0} (history : D → History) (old new : Engine D) : Type 0 where
  pub reads : MetNoFailure history old new
  pub takes : failed_allocations_of history new ≡ failed_allocations_of history old
