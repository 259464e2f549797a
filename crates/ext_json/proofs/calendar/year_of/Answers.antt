use Rattle.std.proofs.Common.{◌≡◌, ℕ, ◌+◌, ◌-◌, ap, sym, ◌∙◌, arith}
use Rattle.ext_json.specs.Calendar.{year_from}
use Rattle.ext_json.proofs.CalendarLemmas.{year_here, year_next, no_year}
use Rattle.ext_json.proofs.calendar.year_of.Goals as goal

pub returns-then-left-len-clause-year : goal.returns-then-left-len-clause-year
returns-then-left-len-clause-year c =
    year_here (9999 - c.years.year) c.years.year c.years.left (omega (arith, c.year_len-len.ensures, c.if-left-len.true)) ∙ sym c.years.invariant.0

pub years-preserved : goal.years-preserved
years-preserved c = (
  c.years.invariant.0
      ∙ year_next (9999 - c.years.year) c.years.year c.years.left (omega arith) (omega (arith, c.year_len-len.ensures, c.if-left-len.false))
      ∙ ap (λ (n : ℕ). year_from (9999 - c.years.year - 1) (c.years.year + 1) (c.years.left - n)) (sym c.year_len-len.ensures)
      ∙ ap (λ (n : ℕ). year_from n (c.years.year + 1) (c.years.left - c.year_len-len.result))
      (let e : 9999 - c.years.year - 1 ≡ 9999 - (c.years.year + 1) = omega arith in e),
  omega (arith, c.years.invariant.1),
)

pub returns-clause-year : goal.returns-clause-year
returns-clause-year c =
    let last : c.years.year ≡ 9999 = omega arith in
    no_year 9999 c.years.left ∙ sym (ap (λ (y : ℕ). year_from (9999 - y) y c.years.left) last) ∙ sym c.years.invariant.0
