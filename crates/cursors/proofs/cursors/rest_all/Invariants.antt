use Rattle.std.proofs.Common.{◌≡◌, ◌++◌, take, drop, map}
use Rattle.cursors.specs.Changes.{rested}
use Rattle.cursors.proofs.cursors.rest_all.Given as goal

abbrev pub invariant-cursors : goal.invariant-cursors
invariant-cursors l = take l.cursor-index l.cursors ++ map rested (drop l.cursor-index l.cursors) ≡ map rested l.initial.cursors
