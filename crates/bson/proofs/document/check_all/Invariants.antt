use Rattle.std.proofs.Common.{◌≡◌, ℕ, List, take}
use Rattle.bson.specs.View.{pairs_of, names_of}
use Rattle.bson.specs.Lawful.{HoldsDocument}
use Rattle.bson.specs.Lookup.{stands_in}
use Rattle.bson.proofs.document.check_all.Given as goal

abbrev pub invariant-pairs : goal.invariant-pairs
invariant-pairs l =
    HoldsDocument l.levels (pairs_of (take l.pair-index l.pairs))
    × ((other : List ℕ) → stands_in l.names other ≡ stands_in (names_of (take l.pair-index l.pairs)) other)
