use Rattle.std.proofs.Common.{◌≡◌, drop}
use Rattle.bson.specs.Lookup.{stands_in}
use Rattle.bson_bytes.proofs.TableLaws.{lent}
use Rattle.bson_bytes.proofs.distinct.is_among.Given as goal

abbrev pub invariant-names : goal.invariant-names
invariant-names l =
    stands_in (lent (drop l.other-index l.names)) l.name ≡ stands_in (lent l.names) l.name
