-- The word of each fault.
use Rattle.std.specs.Prelude.{ℕ, List, codes}
use Rattle.roots.specs.declared.opening.OpenFault.{OpenFault}
use Rattle.roots.specs.declared.opening.OpenFault.TheVariants as opens
use Rattle.roots.specs.declared.store.CommitFault.{CommitFault}
use Rattle.roots.specs.declared.store.CommitFault.TheVariants as commits

abbrev pub open_fault_name : OpenFault → List ℕ
open_fault_name opens.Device = codes "Device"
open_fault_name opens.Memory = codes "Memory"
open_fault_name opens.NotADatabase = codes "NotADatabase"
open_fault_name opens.Damaged = codes "Damaged"
open_fault_name opens.NewerFormat = codes "NewerFormat"

abbrev pub commit_fault_name : CommitFault → List ℕ
commit_fault_name commits.Device = codes "Device"
commit_fault_name commits.Memory = codes "Memory"
commit_fault_name commits.Full = codes "Full"
