use Rattle.update_model.specs.UpdateLaws.{keeps_id}
use Rattle.update.proofs.laws.keeps_id.Goals as goal

pub returns : goal.returns
returns c = keeps_id
