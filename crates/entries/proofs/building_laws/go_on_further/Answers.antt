use Rattle.entries.proofs.BuildingLaws.{go_on_further}
use Rattle.entries.proofs.building_laws.go_on_further.Goals as goal

pub returns : goal.returns
returns c = go_on_further
