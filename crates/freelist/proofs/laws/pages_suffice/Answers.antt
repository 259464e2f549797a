use Rattle.freelist.proofs.WrittenLists.{pages_suffice}
use Rattle.freelist.proofs.laws.pages_suffice.Goals as goal

pub returns : goal.returns
returns c = pages_suffice
