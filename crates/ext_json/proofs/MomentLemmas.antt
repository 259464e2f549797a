-- Months that are added one by one.
use Rattle.std.proofs.Common.{◌≡◌, ℕ, suc, ◌+◌, ◌≤◌, Bool, true, false, cond, refl, ap, sym, arith}
use Rattle.std.specs.Prelude.{◌==◌, ◌||◌}
use Rattle.ext_json.specs.Calendar.{is_leap, month_len}
use Rattle.ext_json.specs.Moments.{months_len}

pub months_none : (year : ℕ) → 0 ≡ months_len year 0
unfolding months_len
months_none year = refl

pub months_more : (year months : ℕ) → months_len year months + month_len year (months + 1) ≡ months_len year (months + 1)
unfolding months_len
months_more year months =
    sym (ap (months_len year) (let e : months + 1 ≡ suc months = omega arith in e))

by_tests : (a b c : Bool) → cond a (cond b 29 28) (cond c 30 31) ≤ 31
by_tests true true c = omega arith
by_tests true false c = omega arith
by_tests false b true = omega arith
by_tests false b false = omega arith

pub month_at_most : (year month : ℕ) → month_len year month ≤ 31
month_at_most year month = by_tests (month == 2) (is_leap year) ((month == 4) || (month == 6) || (month == 9) || (month == 11))
