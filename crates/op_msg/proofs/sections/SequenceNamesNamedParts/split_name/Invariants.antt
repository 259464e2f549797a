use Rattle.std.proofs.Common.{◌≡◌, ◌≤◌, length}
use Rattle.op_msg.specs.Frame.{sections_in, names_of}
use Rattle.op_msg.proofs.sections.SequenceNamesNamedParts.split_name.Given as goal

abbrev pub invariant-sections : goal.invariant-sections
invariant-sections l = (names_of (sections_in l.rest).0 ≡ names_of (sections_in l.bytes).0) × (length l.rest ≤ length l.bytes)

abbrev pub decreases-sections : goal.decreases-sections
decreases-sections l = length l.rest
