-- The numbers and words of the faults of paths, and what each is refused with.
use Rattle.std.specs.Prelude.{ℕ, List, codes}
use Rattle.path.specs.declared.fault.PathFault.{PathFault}
use Rattle.path.specs.declared.fault.PathFault.TheVariants as faults
use Rattle.path.specs.declared.refusal.Refusal.{Refusal}
use Rattle.path.specs.declared.refusal.Refusal.TheVariants as refusals

abbrev pub path_fault_number : PathFault → ℕ
path_fault_number faults.Empty = 1
path_fault_number faults.EmptyPart = 2
path_fault_number faults.Dollar = 3
path_fault_number faults.TooLong = 4
path_fault_number faults.Zero = 5
path_fault_number faults.Memory = 6

abbrev pub path_fault_name : PathFault → List ℕ
path_fault_name faults.Empty = codes "Empty"
path_fault_name faults.EmptyPart = codes "EmptyPart"
path_fault_name faults.Dollar = codes "Dollar"
path_fault_name faults.TooLong = codes "TooLong"
path_fault_name faults.Zero = codes "Zero"
path_fault_name faults.Memory = codes "Memory"

abbrev pub fault_refusal : PathFault → Refusal
fault_refusal faults.Empty = refusals.EmptyFieldName
fault_refusal faults.EmptyPart = refusals.EmptyFieldName
fault_refusal faults.Dollar = refusals.DollarPrefixedFieldName
fault_refusal faults.TooLong = refusals.BadValue
fault_refusal faults.Zero = refusals.BadValue
fault_refusal faults.Memory = refusals.OutOfMemory
