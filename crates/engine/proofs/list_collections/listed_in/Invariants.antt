use Rattle.engine.proofs.Listing.{Lists}
use Rattle.engine.proofs.list_collections.listed_in.Given as goal

abbrev pub invariant-names : goal.invariant-names
invariant-names l = Lists l.database l.names l.of-index l.listed.items
