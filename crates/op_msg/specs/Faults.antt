-- The names of the faults of a frame.
use Rattle.std.specs.Prelude.{ℕ, List, codes}
use Rattle.op_msg.specs.declared.fault.FrameFault.{FrameFault}
use Rattle.op_msg.specs.declared.fault.FrameFault.TheVariants as faults

abbrev pub name_of : FrameFault → List ℕ
name_of faults.Length = codes "Length"
name_of faults.Opcode = codes "Opcode"
name_of faults.Flags = codes "Flags"
name_of faults.Checksum = codes "Checksum"
name_of faults.Section = codes "Section"
name_of faults.NoBody = codes "NoBody"
name_of faults.TwoBodies = codes "TwoBodies"
name_of faults.Memory = codes "Memory"
