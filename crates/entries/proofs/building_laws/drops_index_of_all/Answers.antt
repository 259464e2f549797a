use Rattle.entries.proofs.BuildingLaws.{drops_index_of_all}
use Rattle.entries.proofs.building_laws.drops_index_of_all.Goals as goal

pub returns : goal.returns
returns c = drops_index_of_all
