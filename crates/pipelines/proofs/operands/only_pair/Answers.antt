use Rattle.std.proofs.Common.{sym, ap, ◌∙◌}
use Rattle.aggregate_model.specs.Operands.{only_pair}
use Rattle.pipelines.proofs.ReadingLemmas.{not_only}
use Rattle.pipelines.proofs.operands.only_pair.Goals as goal

pub returns-in-len2-up : goal.returns-in-len2-up
returns-in-len2-up c = λ known. ap only_pair (sym c.pairs.ensures.pairs) ∙ not_only c.pairs.result.now c.in-len2-up.len_at_least
