use Rattle.std.proofs.Common.{take}
use Rattle.bson.specs.View.{pairs_of}
use Rattle.bson.specs.Overview.{Tells}
use Rattle.bson.proofs.overview.Overview.of_pairs.Given as goal

abbrev pub invariant-pairs : goal.invariant-pairs
invariant-pairs l = Tells l.overview (pairs_of (take l.at l.pairs))
