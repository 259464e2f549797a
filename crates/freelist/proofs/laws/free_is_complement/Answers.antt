use Rattle.freelist.proofs.ListedBooks.{free_is_complement}
use Rattle.freelist.proofs.laws.free_is_complement.Goals as goal

pub returns : goal.returns
returns c = λ page_count limit version in_use parts all large. free_is_complement page_count limit version in_use parts all large
