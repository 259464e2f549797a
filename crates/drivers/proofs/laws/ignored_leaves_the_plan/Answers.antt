use Rattle.drivers.proofs.PlanLaws.{ignored_leaves_the_plan}
use Rattle.drivers.proofs.laws.ignored_leaves_the_plan.Goals as goal

pub returns : goal.returns
returns c = ignored_leaves_the_plan
