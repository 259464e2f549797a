use Rattle.collections.specs.Calls.{IsOfFile}
use Rattle.engine.proofs.ReadingLaws.{reads_same}
use Rattle.engine.proofs.laws.reads_change_nothing.Goals as goal

pub returns : goal.returns
returns c world new connection body reply reads answers = reads_same (λ planned. IsOfFile) world new connection body reply reads answers
