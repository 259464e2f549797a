use Rattle.entries.proofs.SpelledLaws.{spelled_once}
use Rattle.entries.proofs.state_laws.spelled_once.Goals as goal

pub returns : goal.returns
returns c = spelled_once
