use Rattle.bson_bytes.proofs.DistinctLaws.{name_split}
use Rattle.bson_bytes.proofs.elements.ElementNamesNamedParts.split_name.Goals as goal

pub returns : goal.returns
returns c = name_split c.next_name.result c.args.bytes.now c.next_name.ensures
