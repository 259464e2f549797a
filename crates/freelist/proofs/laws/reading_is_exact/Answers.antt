use Rattle.freelist.proofs.WrittenLists.{reading_is_exact}
use Rattle.freelist.proofs.laws.reading_is_exact.Goals as goal

pub returns : goal.returns
returns c = reading_is_exact
