use Rattle.std.proofs.Common.{◌≡◌, ◌+◌, ◌≤◌, length, drop}
use Rattle.bson_bytes.specs.RawNames.{AreNew}
use Rattle.op_msg.specs.Frame.{sections_in, names_of}
use Rattle.op_msg.proofs.sections.has_name_twice.Given as goal

abbrev pub invariant-names : goal.invariant-names
invariant-names l =
    (names_of (sections_in l.rest).0 ≡ drop l.count (names_of (sections_in l.bytes).0)) × AreNew l.count (names_of (sections_in l.bytes).0)
    × (l.count + length l.rest ≤ length l.bytes)

abbrev pub decreases-names : goal.decreases-names
decreases-names l = length l.rest
