use Rattle.entries.proofs.BuildingLaws.{makes_index_of_all}
use Rattle.entries.proofs.building_laws.makes_index_of_all.Goals as goal

pub returns : goal.returns
returns c = makes_index_of_all
