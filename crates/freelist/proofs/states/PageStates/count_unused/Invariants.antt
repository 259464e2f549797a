use Rattle.std.proofs.Common.{length, ◌-◌, ◌+◌, ◌≤◌, ◌<◌, ◌≡◌, true}
use Rattle.freelist.specs.ListWriting.{is_unused, unused_below}
use Rattle.freelist.proofs.states.PageStates.count_unused.Given as goal

abbrev pub invariant-loop-page : goal.invariant-loop-page
invariant-loop-page l = record {
  same : l.self ≡ l.fn.self;
  within : l.page ≤ l.to;
  rises : l.page < l.to → l.from ≤ l.page;
  unused : l.page < l.to → is_unused l.fn.self l.page ≡ true;
  counts : l.from ≤ l.to → length (unused_below l.from l.fn.self) + l.count ≡ length (unused_below l.page l.fn.self);
}

abbrev pub decreases-loop-page : goal.decreases-loop-page
decreases-loop-page l = l.to - l.page
