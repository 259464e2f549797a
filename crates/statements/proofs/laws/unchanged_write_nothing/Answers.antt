use Rattle.statements.proofs.WriteLawLemmas.{unchanged_write_nothing}
use Rattle.statements.proofs.laws.unchanged_write_nothing.Goals as goal

pub returns : goal.returns
returns c = unchanged_write_nothing
