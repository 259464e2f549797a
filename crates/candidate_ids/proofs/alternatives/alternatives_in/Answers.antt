use Rattle.std.proofs.Common.{◌≡◌, true, sym, subst}
use Rattle.filter.specs.Condition.{Conditions}
use Rattle.filter.specs.Matches.{any_holds, holds, whole}
use Rattle.filter.specs.View.{condition_of}
use Rattle.filter.specs.declared.condition.Condition.{Condition}
use Rattle.candidate_ids.proofs.ByIdLemmas.{if_some_on}
use Rattle.candidate_ids.proofs.alternatives.alternatives_in.Goals as goal

pub returns-in-Any : goal.returns-in-Any
returns-in-Any c = λ d holding.
    subst (λ (ms : Conditions). any_holds ms (whole d) ≡ true) (sym c.conditions.ensures)
    (subst (λ (r : Condition). holds (condition_of r) (whole d) ≡ true) c.in-Any.is holding)

pub returns-in-At : goal.returns-in-At
returns-in-At c =
    if_some_on c.listed_at.result (λ a listed d holding. listed d (subst (λ (r : Condition). holds (condition_of r) (whole d) ≡ true) c.in-At.is holding))
    c.listed_at.ensures
