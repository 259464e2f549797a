use Rattle.std.proofs.Common.{◌-◌, ◌≤◌, ◌<◌, ◌^◌, ◌≡◌, true}
use Rattle.freelist.specs.ListWriting.{is_unused, unused_below}
use Rattle.freelist.proofs.states.PageStates.unused_below.Given as goal

abbrev pub invariant-loop-page : goal.invariant-loop-page
invariant-loop-page l = record {
  same : l.self ≡ l.fn.self;
  within : l.page ≤ l.end;
  few : l.page < l.end → l.page < 2 ^ 32;
  unused : l.page < l.end → is_unused l.fn.self l.page ≡ true;
  names : l.unused.items ≡ unused_below l.page l.fn.self;
}

abbrev pub decreases-loop-page : goal.decreases-loop-page
decreases-loop-page l = l.end - l.page
