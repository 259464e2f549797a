use Rattle.update_model.specs.UpdateLaws.{changes_nothing}
use Rattle.update.proofs.laws.changes_nothing.Goals as goal

pub returns : goal.returns
returns c = changes_nothing
