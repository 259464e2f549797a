use Rattle.std.proofs.Common.{◌≡◌, length}
use Rattle.std.specs.Cmp.Lexicographic.{slice_cmp}
use Rattle.std.specs.Ordering.{nat_cmp}
use Rattle.key_order.proofs.compare_keys.Given as goal

abbrev pub invariant-eights : goal.invariant-eights
invariant-eights l = slice_cmp nat_cmp l.left l.right ≡ slice_cmp nat_cmp l.one l.other

abbrev pub decreases-eights : goal.decreases-eights
decreases-eights l = length l.left
