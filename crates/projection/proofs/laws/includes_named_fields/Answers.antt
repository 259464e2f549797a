use Rattle.projection.specs.ProjectionLaws.{includes_named_fields}
use Rattle.projection.proofs.laws.includes_named_fields.Goals as goal

pub returns : goal.returns
returns c = includes_named_fields
