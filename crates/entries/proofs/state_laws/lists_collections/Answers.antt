use Rattle.entries.proofs.ListingLaws.{lists_collections}
use Rattle.entries.proofs.state_laws.lists_collections.Goals as goal

pub returns : goal.returns
returns c = lists_collections
