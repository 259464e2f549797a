use Rattle.engine.proofs.Listing.{name-in}
use Rattle.engine.proofs.list_collections.name_in.Goals as goal

pub returns : goal.returns
returns c = name-in c.args.database.now c.args.namespace.now c.strip_prefix.result c.strip_prefix.ensures.cases
