use Rattle.entry_model.proofs.LawfulLaws.{makes_lawful}
use Rattle.entries.proofs.state_laws.makes_lawful.Goals as goal

pub returns : goal.returns
returns c = makes_lawful
