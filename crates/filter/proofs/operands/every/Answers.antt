use Rattle.filter.proofs.ParsingLemmas.{every-some}
use Rattle.std.proofs.Common.{sym, ap, ◌∙◌}
use Rattle.std.specs.Prelude.{◌==◌}
use Rattle.filter.specs.Condition.{all}
use Rattle.filter.specs.Parsing.{every}
use Rattle.filter.proofs.operands.every.Goals as goal

pub returns-else-is_empty : goal.returns-else-is_empty
returns-else-is_empty c = ap all (sym c.filter.view_is)
    ∙ sym (every-some c.filter.inside.conditions.items (ap (λ n. n == 0) (sym c.filter.inside.conditions.ok.0) ∙ sym c.if-is_empty.ensures))
    ∙ ap every c.filter.view_is
