use Rattle.std.proofs.Common.{◌≡◌, take}
use Rattle.bson.specs.View.{pairs_of}
use Rattle.bson.specs.Lawful.{pairs_levels}
use Rattle.bson.proofs.beside.deepest.Given as goal

abbrev pub invariant-pairs : goal.invariant-pairs
invariant-pairs l = l.levels ≡ pairs_levels (pairs_of (take l.pair-index l.pairs))
