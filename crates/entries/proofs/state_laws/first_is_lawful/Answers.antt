use Rattle.entries.proofs.RowLaws.{first_is_lawful}
use Rattle.entries.proofs.state_laws.first_is_lawful.Goals as goal

pub returns : goal.returns
returns c = first_is_lawful
