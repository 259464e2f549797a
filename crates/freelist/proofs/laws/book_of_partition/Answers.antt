use Rattle.freelist.proofs.ListedBooks.{book_of_partition}
use Rattle.freelist.proofs.laws.book_of_partition.Goals as goal

pub returns : goal.returns
returns c = λ page_count limit version in_use parts all large. book_of_partition page_count limit version in_use parts all large
