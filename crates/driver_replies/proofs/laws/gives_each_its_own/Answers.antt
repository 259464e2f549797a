use Rattle.driver_replies.proofs.NewIdLawLemmas.{gives_each_its_own}
use Rattle.driver_replies.proofs.laws.gives_each_its_own.Goals as goal

pub returns : goal.returns
returns c = gives_each_its_own
