-- Why a file is not looked through.
use Rattle.std.specs.Prelude.{ℕ, List, codes}
use Rattle.path.specs.declared.refusal.Refusal.{Refusal}
use Rattle.path.specs.declared.refusal.Refusal.TheVariants as refusals
use Rattle.roots.specs.declared.opening.OpenFault.{OpenFault}
use Rattle.roots.specs.declared.opening.OpenFault.TheVariants as opening
use Rattle.engine.specs.declared.check_fault.CheckFault.{CheckFault}
use Rattle.engine.specs.declared.check_fault.CheckFault.TheVariants as faults

abbrev pub check_fault_name : CheckFault → List ℕ
check_fault_name faults.Device = codes "Device"
check_fault_name faults.Memory = codes "Memory"
check_fault_name faults.Damaged = codes "Damaged"
check_fault_name faults.NamespaceNotFound = codes "NamespaceNotFound"

-- the fault that a refusal to read is
abbrev pub check_fault : Refusal → CheckFault
check_fault refusals.OutOfMemory = faults.Memory
check_fault refusals.Full = faults.Memory
check_fault _ = faults.Device

-- the fault that a refusal to open a file, or to read it as at its opening, is
abbrev pub reading_fault : OpenFault → CheckFault
reading_fault opening.Device = faults.Device
reading_fault opening.Memory = faults.Memory
reading_fault _ = faults.Damaged
