use Rattle.std.proofs.Common.{ap, ◌∙◌}
use Rattle.bson.specs.Lent.{scalar_of}
use Rattle.filter.specs.Matches.{all_hold, along}
use Rattle.filter.proofs.WalkLemmas.{reach-scalar}
use Rattle.filter.proofs.raw_matching.all_hold_from.Goals as goal

pub returns-then-not-is_empty : goal.returns-then-not-is_empty
returns-then-not-is_empty c =
    c.all_hold_along.ensures
    ∙ ap (λ rs. all_hold c.args.filter.now (along rs)) (reach-scalar c.args.parts.now (scalar_of c.args.value.now) c.if-not-is_empty.ensures)
