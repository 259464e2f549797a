use Rattle.index.specs.View.{texts_of}
use Rattle.asked_documents.specs.ById.{ArePut}
use Rattle.candidate_ids.proofs.by_id.put_ids.Given as goal

abbrev pub invariant-conditions : goal.invariant-conditions
invariant-conditions l = ArePut (texts_of l.fn.ids.items) (texts_of l.ids.items)
