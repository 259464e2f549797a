use Rattle.entries.proofs.BuildingLaws.{puts_one_more}
use Rattle.entries.proofs.building_laws.puts_one_more.Goals as goal

pub returns : goal.returns
returns c = puts_one_more
