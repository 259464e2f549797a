use Rattle.std.proofs.Common.{◌≡◌, ◌-◌, ◌≤◌}
use Rattle.ext_json.specs.Calendar.{year_from}
use Rattle.ext_json.proofs.calendar.year_of.Given as goal

abbrev pub invariant-years : goal.invariant-years
invariant-years l = (year_from 8029 1970 l.fn.days ≡ year_from (9999 - l.year) l.year l.left) × (l.left ≤ l.fn.days)
