-- The numbers of faults.
use Rattle.std.specs.Prelude.{ℕ}
use Rattle.roots.specs.declared.opening.OpenFault.{OpenFault}
use Rattle.roots.specs.declared.opening.OpenFault.TheVariants as opens
use Rattle.roots.specs.declared.store.CommitFault.{CommitFault}
use Rattle.roots.specs.declared.store.CommitFault.TheVariants as commits

abbrev pub open_fault_number : OpenFault → ℕ
open_fault_number opens.Device = 1
open_fault_number opens.Memory = 2
open_fault_number opens.NotADatabase = 3
open_fault_number opens.Damaged = 4
open_fault_number opens.NewerFormat = 5

abbrev pub commit_fault_number : CommitFault → ℕ
commit_fault_number commits.Device = 1
commit_fault_number commits.Memory = 2
commit_fault_number commits.Full = 3
