use Rattle.index.proofs.CatalogueLaws.{reads_back}
use Rattle.index.proofs.laws.reads_back.Goals as goal

pub returns : goal.returns
returns c = reads_back
