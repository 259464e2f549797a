-- The names of the faults of serving.
use Rattle.std.specs.Prelude.{ℕ, List, codes}
use Rattle.sockets.specs.declared.service.ServeFault.{ServeFault}
use Rattle.sockets.specs.declared.service.ServeFault.TheVariants as faults

abbrev pub serve_fault_name : ServeFault → List ℕ
serve_fault_name faults.Accept = codes "Accept"
serve_fault_name faults.Stopped = codes "Stopped"
