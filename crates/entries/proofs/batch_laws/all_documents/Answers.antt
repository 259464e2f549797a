use Rattle.entries.proofs.BatchLaws.{all_documents}
use Rattle.entries.proofs.batch_laws.all_documents.Goals as goal

pub returns : goal.returns
returns c = all_documents
