use Rattle.freelist.proofs.MadeLists.{partition}
use Rattle.freelist.proofs.laws.made_is_partition.Goals as goal

pub returns : goal.returns
returns c = partition
