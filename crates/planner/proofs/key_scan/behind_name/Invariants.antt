use Rattle.std.proofs.Common.{◌≡◌, length}
use Rattle.planner.specs.KeyScan.{behind_name}
use Rattle.planner.proofs.key_scan.behind_name.Given as goal

abbrev pub invariant-bytes : goal.invariant-bytes
invariant-bytes l = behind_name l.direction l.rest ≡ behind_name l.direction l.text

abbrev pub decreases-bytes : goal.decreases-bytes
decreases-bytes l = length l.rest
