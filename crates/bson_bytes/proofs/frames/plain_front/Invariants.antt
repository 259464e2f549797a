use Rattle.std.proofs.Common.{◌≡◌, ◌<◌, ℕ, false, get_or, take}
use Rattle.bson_bytes.specs.Marks.{mixed}
use Rattle.bson_bytes.proofs.PlainNames.{stops}
use Rattle.bson_bytes.proofs.frames.plain_front.Given as goal

abbrev pub invariant-bytes : goal.invariant-bytes
invariant-bytes l = record {
  plain : (k : ℕ) → k < l.at → stops (get_or l.bytes k 0) ≡ false;
  mixed : l.mixed ≡ mixed 0 (take l.at l.bytes);
}
