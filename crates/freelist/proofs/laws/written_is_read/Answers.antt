use Rattle.freelist.proofs.WrittenLists.{written_is_read}
use Rattle.freelist.proofs.laws.written_is_read.Goals as goal

pub returns : goal.returns
returns c = written_is_read
