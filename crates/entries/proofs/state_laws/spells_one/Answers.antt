use Rattle.entries.proofs.OneStateLaws.{spells_one}
use Rattle.entries.proofs.state_laws.spells_one.Goals as goal

pub returns : goal.returns
returns c = spells_one
