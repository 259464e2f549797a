use Rattle.std.proofs.Common.{◌≡◌, ◌+◌, ◌≤◌, length}
use Rattle.op_msg.specs.Frame.{sections_in, names_of, bodies_of, only_of}
use Rattle.op_msg.specs.View.{body_with}
use Rattle.op_msg.proofs.sections.read_body.Given as goal

abbrev pub invariant-sections : goal.invariant-sections
invariant-sections l =
    (body_with l.found (sections_in l.rest).0 ≡ only_of (bodies_of (sections_in l.bytes).0))
    × (l.found.sequences + length (names_of (sections_in l.rest).0) ≡ length (names_of (sections_in l.bytes).0))
    × ((sections_in l.rest).1 ≡ (sections_in l.bytes).1)
    × (l.found.sequences + length l.rest ≤ length l.bytes)

abbrev pub decreases-sections : goal.decreases-sections
decreases-sections l = length l.rest
