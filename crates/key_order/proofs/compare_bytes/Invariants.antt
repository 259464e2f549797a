use Rattle.std.proofs.Common.{◌≡◌, length}
use Rattle.std.specs.Cmp.Lexicographic.{slice_cmp}
use Rattle.std.specs.Ordering.{nat_cmp}
use Rattle.key_order.proofs.compare_bytes.Given as goal

abbrev pub invariant-bytes : goal.invariant-bytes
invariant-bytes l = slice_cmp nat_cmp l.left l.right ≡ slice_cmp nat_cmp l.one l.other

abbrev pub decreases-bytes : goal.decreases-bytes
decreases-bytes l = length l.left
