use Rattle.asked_documents.proofs.SelectsLemmas.{only_at}
use Rattle.asked_documents.proofs.document_predicate.FilterDocumentPredicate.filter_at.Goals as goal

pub returns : goal.returns
returns c = only_at c.args.self.now c.args._at
