use Rattle.entries.proofs.FitLaws.{entries_fit}
use Rattle.entries.proofs.state_laws.entries_fit.Goals as goal

pub returns : goal.returns
returns c = entries_fit
