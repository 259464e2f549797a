use Rattle.std.proofs.Common.{◌≡◌, true, sym, subst}
use Rattle.bson.specs.Tree.{document}
use Rattle.path.specs.Reach.{reach}
use Rattle.filter.specs.Condition.{Conditions}
use Rattle.filter.specs.Matches.{all_hold, along, any_holds}
use Rattle.candidate_ids.proofs.AlternativesLemmas.{listed}
use Rattle.candidate_ids.proofs.alternatives.listed_at.Goals as goal

pub returns-in-Any : goal.returns-in-Any
returns-in-Any c = λ d all.
    let s = along (reach c.args.path.now (document d)) in
    subst (λ (ms : Conditions). any_holds ms s ≡ true) (sym c.conditions.ensures)
    (listed c.conditions-condition-items.result.now c.asked.condition-index c.condition-item.result c.in-Any.members s c.asked-test.true c.condition-item.is
    c.in-Any.is (subst (λ (q : Conditions). all_hold q s ≡ true) (sym c.conditions-condition-items.ensures) all))
