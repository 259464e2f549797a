use Rattle.entry_model.proofs.LawfulLaws.{drops_lawful}
use Rattle.entries.proofs.state_laws.drops_lawful.Goals as goal

pub returns : goal.returns
returns c = drops_lawful
