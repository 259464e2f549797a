use Rattle.std.proofs.Common.{◌≡◌, drop, map, Some, None}
use Rattle.plan_model.specs.Plan.{range_in, best}
use Rattle.planner.specs.View.{range_of}
use Rattle.planner.proofs.plan.choose.Given as goal

abbrev pub invariant-indexes : goal.invariant-indexes
invariant-indexes l =
    best (range_of l.best) (map (λ d. range_in l.filter l.sort (Some d)) (drop l.index-index l.indexes))
    ≡ best (range_in l.filter l.sort None) (map (λ d. range_in l.filter l.sort (Some d)) l.indexes)
