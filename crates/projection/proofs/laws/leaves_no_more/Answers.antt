use Rattle.projection.specs.ProjectionLaws.{project_no_larger}
use Rattle.projection.proofs.laws.leaves_no_more.Goals as goal

pub returns : goal.returns
returns c = project_no_larger
