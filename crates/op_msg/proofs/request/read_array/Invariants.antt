use Rattle.std.proofs.Common.{◌≡◌, length}
use Rattle.op_msg.specs.Frame.{part_at, each_in}
use Rattle.op_msg.specs.Request.{array_of}
use Rattle.op_msg.proofs.Joining.{array_after}
use Rattle.op_msg.proofs.request.read_array.Given as goal

abbrev pub invariant-documents : goal.invariant-documents
invariant-documents l = array_after l.array (each_in part_at l.rest).0 ≡ array_of (each_in part_at l.bytes).0

abbrev pub decreases-documents : goal.decreases-documents
decreases-documents l = length l.rest
