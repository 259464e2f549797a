use Rattle.std.proofs.Common.{[], ◌∷◌, ◌∙◌}
use Rattle.planner.proofs.FieldLemmas.{count_values}
use Rattle.planner.proofs.range.Leading.count.Goals as goal

pub returns-clause-count : goal.returns-clause-count
returns-clause-count c =
    c.count.ensures.count
    ∙ count_values (c.args.self.now.first ∷ c.args.self.now.second ∷ c.args.self.now.third ∷ c.args.self.now.fourth ∷ [])
