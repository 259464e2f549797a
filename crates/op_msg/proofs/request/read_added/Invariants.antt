use Rattle.std.proofs.Common.{◌≡◌, length}
use Rattle.bson.specs.View.{pairs_of}
use Rattle.op_msg.specs.Frame.{sections_in, sequences_of}
use Rattle.op_msg.specs.Request.{with_sequences}
use Rattle.op_msg.specs.View.{joined, IsJoining}
use Rattle.op_msg.proofs.request.read_added.Given as goal

abbrev pub invariant-sections : goal.invariant-sections
invariant-sections l =
    (with_sequences (joined (pairs_of l.fields) l.added.items) (sequences_of (sections_in l.rest).0)
    ≡ with_sequences (pairs_of l.fields) (sequences_of (sections_in l.sections).0))
    × IsJoining (pairs_of l.fields) l.names l.added.items

abbrev pub decreases-sections : goal.decreases-sections
decreases-sections l = length l.rest
