use Rattle.std.proofs.Common.{map}
use Rattle.replies.specs.View.{projected}
use Rattle.replies.proofs.BatchLoop.{IsBatchSoFar}
use Rattle.replies.proofs.batch.put_batch.Given as goal

abbrev pub invariant-documents : goal.invariant-documents
invariant-documents g l = IsBatchSoFar l.fn.batch (projected l.projection (map g.T.Gives.document l.documents)) l.i l.batch
