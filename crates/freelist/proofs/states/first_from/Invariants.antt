use Rattle.std.proofs.Common.{length, ◌-◌, ◌≤◌, max}
use Rattle.freelist.specs.Search.{MarksHold, NoneFits}
use Rattle.freelist.proofs.states.first_from.Given as goal

abbrev pub invariant-loop-page : goal.invariant-loop-page
invariant-loop-page l = record {
  marked : MarksHold l.sought l.marks l.pages;
  rises : l.from ≤ l.page;
  within : l.page ≤ max l.from (length l.pages);
  passed : NoneFits l.sought l.from l.page l.pages;
}

abbrev pub decreases-loop-page : goal.decreases-loop-page
decreases-loop-page l = length l.pages - l.page
