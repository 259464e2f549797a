use Rattle.std.proofs.Common.{◌≡◌, ◌+◌, ◌≤◌, drop}
use Rattle.walks.proofs.DepthLemmas.{inner}
use Rattle.walks.proofs.within.is_shallow.Given as goal

abbrev pub invariant-bytes : goal.invariant-bytes
invariant-bytes l = record {
  counted : l.count + inner (drop l.byte-index l.bytes) ≡ inner l.bytes;
  few : l.count ≤ l.byte-index;
}
