use Rattle.std.proofs.Common.{◌≡◌, length}
use Rattle.op_msg.specs.Frame.{part_at, each_in}
use Rattle.op_msg.proofs.sections.leaves_bytes.Given as goal

abbrev pub invariant-documents : goal.invariant-documents
invariant-documents l = (each_in part_at l.rest).1 ≡ (each_in part_at l.bytes).1

abbrev pub decreases-documents : goal.decreases-documents
decreases-documents l = length l.rest
