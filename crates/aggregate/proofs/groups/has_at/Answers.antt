use Rattle.std.proofs.Common.{ap, sym, ◌∙◌}
use Rattle.bson.specs.View.{tree}
use Rattle.aggregate_model.specs.Group.{same}
use Rattle.aggregate.specs.declared.groups.Group.{Group}
use Rattle.aggregate.proofs.groups.has_at.Goals as goal

pub returns-in-Some : goal.returns-in-Some
returns-in-Some c = λ is.
    let there = c.in-Some.ensures.lookup.3 in
    (there.0, λ d. ap (λ (g : Group). same (tree g.id) (tree c.args.id.now)) (sym (there.1 d)) ∙ sym c.is_same.ensures ∙ is)
