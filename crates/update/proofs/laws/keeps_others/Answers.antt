use Rattle.update_model.specs.UpdateLaws.{keeps_others}
use Rattle.update.proofs.laws.keeps_others.Goals as goal

pub returns : goal.returns
returns c = keeps_others
