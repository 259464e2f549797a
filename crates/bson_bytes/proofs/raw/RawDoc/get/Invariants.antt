use Rattle.std.proofs.Common.{◌≡◌, length}
use Rattle.bson.specs.Lookup.{lookup}
use Rattle.bson_bytes.specs.Raw.{pairs_spelled, Elements}
use Rattle.bson_bytes.proofs.raw.RawDoc.get.Given as goal

abbrev pub invariant-elements : goal.invariant-elements
invariant-elements l = Elements l.rest (pairs_spelled l.rest) × (lookup (pairs_spelled l.rest) l.name ≡ lookup l.self l.name)

abbrev pub decreases-elements : goal.decreases-elements
decreases-elements l = length l.rest
