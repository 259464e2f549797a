use Rattle.std.proofs.Common.{◌+◌, ◌∙◌, arith}
use Rattle.ext_json.proofs.MomentLemmas.{months_none, months_more, month_at_most}
use Rattle.ext_json.proofs.moments.months_len.Goals as goal

pub months-init : goal.months-init
months-init c = (months_none c.args.year, omega arith)

pub months-preserved : goal.months-preserved
months-preserved c = (
  (λ i. c.months.invariant.0 i + c.month_len-days.ensures i) ∙ months_more c.args.year c.months.month,
  omega (arith, c.months.invariant.1, c.month_len-days.ensures, month_at_most c.args.year (c.months.month + 1)),
)
