use Rattle.std.proofs.Common.{◌≡◌, ◌-◌, ◌+◌, ◌++◌, ◌≤◌, drop, length}
use Rattle.pager.specs.Order.{merged}
use Rattle.pager.proofs.merging.merge.Given as goal

-- those so far, and those that are left
abbrev pub invariant-loop-i : goal.invariant-loop-i
invariant-loop-i l =
    (l.i ≤ length l.one) × (l.j ≤ length l.other) × (l.pages.items ++ merged (drop l.i l.one) (drop l.j l.other) ≡ merged l.one l.other)

abbrev pub decreases-loop-i : goal.decreases-loop-i
decreases-loop-i l = (length l.one - l.i) + (length l.other - l.j)
