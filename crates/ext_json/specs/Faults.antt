-- The word of each fault.
use Rattle.std.specs.Prelude.{ℕ, List, codes}
use Rattle.ext_json.specs.declared.fault.ExtJsonFault.{ExtJsonFault}
use Rattle.ext_json.specs.declared.fault.ExtJsonFault.TheVariants as faults

abbrev pub ext_json_fault_name : ExtJsonFault → List ℕ
ext_json_fault_name faults.Syntax = codes "Syntax"
ext_json_fault_name faults.NotDocument = codes "NotDocument"
ext_json_fault_name faults.Fraction = codes "Fraction"
ext_json_fault_name faults.Range = codes "Range"
ext_json_fault_name faults.Unsupported = codes "Unsupported"
ext_json_fault_name faults.Wrapper = codes "Wrapper"
ext_json_fault_name faults.Name = codes "Name"
ext_json_fault_name faults.Repeated = codes "Repeated"
ext_json_fault_name faults.Deep = codes "Deep"
ext_json_fault_name faults.Memory = codes "Memory"
