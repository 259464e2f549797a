use Rattle.entries.proofs.BuildingLaws.{removes_one_more}
use Rattle.entries.proofs.building_laws.removes_one_more.Goals as goal

pub returns : goal.returns
returns c = removes_one_more
