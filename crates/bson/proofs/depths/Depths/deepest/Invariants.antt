use Rattle.std.proofs.Common.{ℕ, ◌≤◌}
use Rattle.bson.specs.Depths.{Counts, IsDeepest}
use Rattle.bson.proofs.depths.Depths.deepest.Given as goal

abbrev pub invariant-depths : goal.invariant-depths
invariant-depths l =
    (l.levels ≤ 100)
    × ((f : ℕ → ℕ) (depth : ℕ) → Counts l.self.counts f → IsDeepest f depth → depth ≤ l.fn.most → depth ≤ l.levels)

abbrev pub decreases-depths : goal.decreases-depths
decreases-depths l = l.levels
