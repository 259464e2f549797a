use Rattle.entries.proofs.OtherKeyLaws.{tells_other_put}
use Rattle.entries.proofs.state_laws.tells_other_put.Goals as goal

pub returns : goal.returns
returns c = tells_other_put
