use Rattle.std.proofs.Common.{◌≡◌, false, length}
use Rattle.value_order.specs.declared.texts.Direction.TheVariants.{Descending}
use Rattle.planner.specs.KeyScan.{behind_string}
use Rattle.planner.proofs.key_scan.behind_descending_string.Given as goal

abbrev pub invariant-bytes : goal.invariant-bytes
invariant-bytes l = behind_string Descending l.after_zero l.rest ≡ behind_string Descending false l.text

abbrev pub decreases-bytes : goal.decreases-bytes
decreases-bytes l = length l.rest
