-- Why a read gives no answer.
use Rattle.tree_model.specs.declared.pages.TreeFault.{TreeFault}
use Rattle.tree_model.specs.declared.pages.TreeFault.TheVariants as faults

-- A read takes no page, so that none is free is no fault of it.
abbrev pub IsNotFull : TreeFault → Type 0
IsNotFull faults.Full = ⊥
IsNotFull faults.Memory = Unit {0}
IsNotFull faults.Device = Unit {0}
IsNotFull faults.Kind = Unit {0}
IsNotFull faults.Number = Unit {0}
IsNotFull faults.Order = Unit {0}
IsNotFull faults.Length = Unit {0}
