-- The word and the number of each fault.
use Rattle.std.specs.Prelude.{ℕ, List, codes}
use Rattle.value_order.specs.declared.texts.KeyFault.{KeyFault}
use Rattle.value_order.specs.declared.texts.KeyFault.TheVariants as faults

abbrev pub key_fault_name : KeyFault → List ℕ
key_fault_name faults.TooLong = codes "TooLong"
key_fault_name faults.Memory = codes "Memory"

abbrev pub key_fault_number : KeyFault → ℕ
key_fault_number faults.TooLong = 1
key_fault_number faults.Memory = 2
