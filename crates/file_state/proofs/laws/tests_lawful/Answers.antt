use Rattle.file_state.proofs.StateTested.{tests_lawful}
use Rattle.file_state.proofs.laws.tests_lawful.Goals as goal

pub returns : goal.returns
returns c = tests_lawful
