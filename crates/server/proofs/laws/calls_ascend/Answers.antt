use Rattle.server.proofs.Ascending.{calls_ascend}
use Rattle.server.proofs.laws.calls_ascend.Goals as goal

pub returns : goal.returns
returns c connections ascending = calls_ascend connections ascending
