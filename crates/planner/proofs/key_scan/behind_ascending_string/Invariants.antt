use Rattle.std.proofs.Common.{◌≡◌, false, length}
use Rattle.value_order.specs.declared.texts.Direction.TheVariants.{Ascending}
use Rattle.planner.specs.KeyScan.{behind_string}
use Rattle.planner.proofs.key_scan.behind_ascending_string.Given as goal

abbrev pub invariant-zeros : goal.invariant-zeros
invariant-zeros l = behind_string Ascending false l.rest ≡ behind_string Ascending false l.text

abbrev pub decreases-zeros : goal.decreases-zeros
decreases-zeros l = length l.rest
