use Rattle.roots.proofs.ListingLemmas.{list_there}
use Rattle.roots.proofs.laws.written_list_is_there.Goals as goal

pub returns : goal.returns
returns c = list_there
