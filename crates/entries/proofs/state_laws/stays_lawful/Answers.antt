use Rattle.entry_model.proofs.LawfulLaws.{stays_lawful}
use Rattle.entries.proofs.state_laws.stays_lawful.Goals as goal

pub returns : goal.returns
returns c = stays_lawful
