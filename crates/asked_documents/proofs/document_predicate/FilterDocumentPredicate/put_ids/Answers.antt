use Rattle.index.specs.View.{texts_of}
use Rattle.asked_documents.proofs.SelectsLemmas.{alone_tells, put_none}
use Rattle.asked_documents.proofs.document_predicate.FilterDocumentPredicate.put_ids.Goals as goal

pub returns-clause-put : goal.returns-clause-put
returns-clause-put c = put_none (texts_of c.args._ids.now.items)

pub returns-clause-tells : goal.returns-clause-tells
returns-clause-tells c = λ e. alone_tells c.args.self.now (texts_of c.args._ids.now.items)
