use Rattle.std.proofs.Common.{take}
use Rattle.bson.specs.View.{pairs_of}
use Rattle.bson.specs.Lawful.{Lacks}
use Rattle.bson.proofs.document.place_among.Given as goal

abbrev pub invariant-pairs : goal.invariant-pairs
invariant-pairs l = Lacks (pairs_of (take l.at l.pairs)) l.name
