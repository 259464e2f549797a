use Rattle.update_model.specs.RefusalLaws.{refuses_by_name}
use Rattle.update.proofs.laws.refuses_by_name.Goals as goal

pub returns : goal.returns
returns c = refuses_by_name
