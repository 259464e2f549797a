use Rattle.freelist.proofs.MadeLists.{made_is_read}
use Rattle.freelist.proofs.laws.made_is_read.Goals as goal

pub returns : goal.returns
returns c = made_is_read
