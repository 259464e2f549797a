use Rattle.database_model.proofs.CursorLives.{gives_its_list}
use Rattle.database_model.proofs.laws.gives_its_list.Goals as goal

pub returns : goal.returns
returns c = gives_its_list
