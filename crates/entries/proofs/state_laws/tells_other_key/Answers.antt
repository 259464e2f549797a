use Rattle.entries.proofs.OtherKeyLaws.{tells_other_key}
use Rattle.entries.proofs.state_laws.tells_other_key.Goals as goal

pub returns : goal.returns
returns c = tells_other_key
