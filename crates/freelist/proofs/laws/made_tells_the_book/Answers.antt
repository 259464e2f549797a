use Rattle.freelist.proofs.CommittedLists.{tells_the_book}
use Rattle.freelist.proofs.laws.made_tells_the_book.Goals as goal

pub returns : goal.returns
returns c = tells_the_book
