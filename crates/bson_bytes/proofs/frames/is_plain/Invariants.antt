use Rattle.std.proofs.Common.{ℕ, ◌-◌, ◌<◌, get_or}
use Rattle.bson_bytes.proofs.frames.is_plain.Given as goal

abbrev pub invariant-bytes : goal.invariant-bytes
invariant-bytes l = (k : ℕ) → k < l.at → get_or l.bytes k 0 < 128

abbrev pub decreases-bytes : goal.decreases-bytes
decreases-bytes l = l.last - l.at
