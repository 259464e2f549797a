use Rattle.entries.proofs.ListingLaws.{lists_documents}
use Rattle.entries.proofs.state_laws.lists_documents.Goals as goal

pub returns : goal.returns
returns c = lists_documents
