-- The word and the number of each fault of bytes.
use Rattle.std.specs.Prelude.{ℕ, List, codes}
use Rattle.bson_bytes.specs.declared.fault.BsonFault.{BsonFault}
use Rattle.bson_bytes.specs.declared.fault.BsonFault.TheVariants as faults

abbrev pub bson_fault_name : BsonFault → List ℕ
bson_fault_name faults.Truncated = codes "Truncated"
bson_fault_name faults.Length = codes "Length"
bson_fault_name faults.TypeByte = codes "TypeByte"
bson_fault_name faults.Text = codes "Text"
bson_fault_name faults.Name = codes "Name"
bson_fault_name faults.Repeated = codes "Repeated"
bson_fault_name faults.ArrayName = codes "ArrayName"
bson_fault_name faults.Bool = codes "Bool"
bson_fault_name faults.Subtype = codes "Subtype"
bson_fault_name faults.Deep = codes "Deep"
bson_fault_name faults.TooLarge = codes "TooLarge"
bson_fault_name faults.Memory = codes "Memory"

abbrev pub bson_fault_number : BsonFault → ℕ
bson_fault_number faults.Truncated = 1
bson_fault_number faults.Length = 2
bson_fault_number faults.TypeByte = 3
bson_fault_number faults.Text = 4
bson_fault_number faults.Name = 5
bson_fault_number faults.Repeated = 6
bson_fault_number faults.ArrayName = 7
bson_fault_number faults.Bool = 8
bson_fault_number faults.Subtype = 9
bson_fault_number faults.Deep = 10
bson_fault_number faults.TooLarge = 11
bson_fault_number faults.Memory = 12
