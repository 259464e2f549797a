use Rattle.std.proofs.Common.{◌≡◌, length}
use Rattle.bson.specs.Lookup.{stands_in}
use Rattle.bson_bytes.specs.RawNames.{names_in}
use Rattle.bson_bytes.proofs.elements.has_name_in.Given as goal

abbrev pub invariant-elements : goal.invariant-elements
invariant-elements l = stands_in (names_in l.rest) l.name ≡ stands_in (names_in l.elements) l.name

abbrev pub decreases-elements : goal.decreases-elements
decreases-elements l = length l.rest
