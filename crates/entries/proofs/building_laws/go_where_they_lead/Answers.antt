use Rattle.entries.proofs.BuildingLaws.{go_where_they_lead}
use Rattle.entries.proofs.building_laws.go_where_they_lead.Goals as goal

pub returns : goal.returns
returns c = go_where_they_lead
