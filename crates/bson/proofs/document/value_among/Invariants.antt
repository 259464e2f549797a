use Rattle.std.proofs.Common.{◌≡◌, drop}
use Rattle.bson.specs.View.{pairs_of}
use Rattle.bson.specs.Lookup.{lookup}
use Rattle.bson.proofs.document.value_among.Given as goal

abbrev pub invariant-pairs : goal.invariant-pairs
invariant-pairs l = lookup (pairs_of (drop l.pair-index l.pairs)) l.name ≡ lookup (pairs_of l.pairs) l.name
