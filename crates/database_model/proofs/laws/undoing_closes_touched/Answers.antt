use Rattle.database_model.proofs.UndoneCursors.{left_open, open_left}
use Rattle.database_model.proofs.laws.undoing_closes_touched.Goals as goal

pub returns : goal.returns
returns c world commands before cursor clean = (λ h. left_open cursor world commands h, λ h. open_left cursor world commands clean h)
