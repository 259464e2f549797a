use Rattle.freelist.proofs.SoundBooks.{free_by_definition}
use Rattle.freelist.proofs.laws.free_by_definition.Goals as goal

pub returns : goal.returns
returns c = free_by_definition
