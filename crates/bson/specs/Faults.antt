-- The word and the number of each fault.
use Rattle.std.specs.Prelude.{ℕ, List, codes}
use Rattle.bson.specs.declared.fault.BuildFault.{BuildFault}
use Rattle.bson.specs.declared.fault.BuildFault.TheVariants as builds
use Rattle.bson.specs.declared.fault.EncodeFault.{EncodeFault}
use Rattle.bson.specs.declared.fault.EncodeFault.TheVariants as encodes

abbrev pub build_fault_name : BuildFault → List ℕ
build_fault_name builds.Name = codes "Name"
build_fault_name builds.Repeated = codes "Repeated"
build_fault_name builds.Deep = codes "Deep"
build_fault_name builds.Memory = codes "Memory"

abbrev pub encode_fault_name : EncodeFault → List ℕ
encode_fault_name encodes.TooLarge = codes "TooLarge"
encode_fault_name encodes.Memory = codes "Memory"

abbrev pub build_fault_number : BuildFault → ℕ
build_fault_number builds.Name = 1
build_fault_number builds.Repeated = 2
build_fault_number builds.Deep = 3
build_fault_number builds.Memory = 4

abbrev pub encode_fault_number : EncodeFault → ℕ
encode_fault_number encodes.TooLarge = 1
encode_fault_number encodes.Memory = 2
