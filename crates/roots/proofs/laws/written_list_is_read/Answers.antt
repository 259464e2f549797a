use Rattle.roots.proofs.ListingLemmas.{list_read}
use Rattle.roots.proofs.laws.written_list_is_read.Goals as goal

pub returns : goal.returns
returns c = list_read
