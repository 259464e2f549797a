use Rattle.entries.proofs.ListingLaws.{lists_index}
use Rattle.entries.proofs.state_laws.lists_index.Goals as goal

pub returns : goal.returns
returns c = lists_index
