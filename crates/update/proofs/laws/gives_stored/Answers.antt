use Rattle.update_model.specs.UpdateLaws.{gives_stored}
use Rattle.update.proofs.laws.gives_stored.Goals as goal

pub returns : goal.returns
returns c = gives_stored
