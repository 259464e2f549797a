use Rattle.freelist.proofs.MadeLists.{made_rows}
use Rattle.freelist.proofs.laws.made_rows.Goals as goal

pub returns : goal.returns
returns c = made_rows
