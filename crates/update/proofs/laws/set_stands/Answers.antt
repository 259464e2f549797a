use Rattle.update_model.specs.UpdateLaws.{set_stands}
use Rattle.update.proofs.laws.set_stands.Goals as goal

pub returns : goal.returns
returns c = set_stands
