use Rattle.index.proofs.CatalogueLaws.{only_spelled}
use Rattle.index.proofs.laws.only_spelled.Goals as goal

pub returns : goal.returns
returns c = only_spelled
