use Rattle.std.proofs.Common.{◌≡◌, ℕ, List, take}
use Rattle.bson.specs.View.{names_of}
use Rattle.bson.specs.Lookup.{stands_in}
use Rattle.bson.proofs.names.Names.of_pairs.Given as goal

abbrev pub invariant-pairs : goal.invariant-pairs
invariant-pairs l = (other : List ℕ) → stands_in l.names other ≡ stands_in (names_of (take l.pair-index l.pairs)) other
