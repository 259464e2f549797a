use Rattle.entries.proofs.BatchLaws.{lists_documents_from}
use Rattle.entries.proofs.batch_laws.lists_documents_from.Goals as goal

pub returns : goal.returns
returns c = lists_documents_from
