use Rattle.std.proofs.Common.{◌-◌}
use Rattle.pager.specs.Order.{pages_at}
use Rattle.pager.proofs.FindLemmas.{IsBetween}
use Rattle.pager.proofs.finding.find_place.Given as goal

abbrev pub invariant-loop-from : goal.invariant-loop-from
invariant-loop-from l = IsBetween (pages_at l.made l.places) l.page l.from l.to

abbrev pub decreases-loop-from : goal.decreases-loop-from
decreases-loop-from l = l.to - l.from
