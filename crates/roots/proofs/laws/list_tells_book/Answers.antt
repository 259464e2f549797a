use Rattle.roots.proofs.HeldFileLemmas as held
use Rattle.roots.proofs.laws.list_tells_book.Goals as goal

pub returns : goal.returns
returns c = held.list_tells_book
