use Rattle.database_model.proofs.CursorLives.{last_batch_is_whole}
use Rattle.database_model.proofs.laws.last_batch_is_whole.Goals as goal

pub returns : goal.returns
returns c = last_batch_is_whole
