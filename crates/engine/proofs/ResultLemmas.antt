-- Results and tests.
use Rattle.std.proofs.Common.{◌≡◌, true, false, Bool, Result, Ok, Err, sym, ◌∙◌}
use Rattle.roots.specs.declared.store.CommitFault.{CommitFault}
use Rattle.roots.specs.declared.store.CommitFault.TheVariants as faults

-- a fault is one, whatever the call would have answered
abbrev pub fault_of : {X : Type 0} → Result X CommitFault → CommitFault
fault_of (Ok x) = faults.Full
fault_of (Err e) = e

pub not_both : {X : Type 0} (b : Bool) → b ≡ true → b ≡ false → X
not_both b extends off = let both : true ≡ false = sym extends ∙ off in absurd cc
