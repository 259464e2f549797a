use Rattle.std.proofs.Common.{◌≡◌, ℕ, ◌+◌, ◌-◌, ap, sym, ◌∙◌, arith}
use Rattle.ext_json.specs.Calendar.{month_from}
use Rattle.ext_json.proofs.CalendarLemmas.{month_here, month_next, no_month}
use Rattle.ext_json.proofs.calendar.month_of.Goals as goal

pub returns-then-left-len-clause-month : goal.returns-then-left-len-clause-month
returns-then-left-len-clause-month c =
    month_here (12 - c.months.month) c.args.year c.months.month c.months.left (omega (arith, c.month_len-len.ensures, c.if-left-len.true))
    ∙ sym c.months.invariant.0

pub months-preserved : goal.months-preserved
months-preserved c = (
  c.months.invariant.0
      ∙ month_next (12 - c.months.month) c.args.year c.months.month c.months.left (omega arith) (omega (arith, c.month_len-len.ensures, c.if-left-len.false))
      ∙ ap (λ (n : ℕ). month_from (12 - c.months.month - 1) c.args.year (c.months.month + 1) (c.months.left - n)) (sym c.month_len-len.ensures)
      ∙ ap (λ (n : ℕ). month_from n c.args.year (c.months.month + 1) (c.months.left - c.month_len-len.result))
      (let e : 12 - c.months.month - 1 ≡ 12 - (c.months.month + 1) = omega arith in e),
  omega (arith, c.months.invariant.1),
)

pub returns-clause-month : goal.returns-clause-month
returns-clause-month c =
    let last : c.months.month ≡ 12 = omega arith in
    no_month c.args.year 12 c.months.left ∙ sym (ap (λ (m : ℕ). month_from (12 - m) c.args.year m c.months.left) last) ∙ sym c.months.invariant.0
