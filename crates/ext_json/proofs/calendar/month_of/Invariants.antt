use Rattle.std.proofs.Common.{◌≡◌, ◌-◌, ◌≤◌}
use Rattle.ext_json.specs.Calendar.{month_from}
use Rattle.ext_json.proofs.calendar.month_of.Given as goal

abbrev pub invariant-months : goal.invariant-months
invariant-months l = (month_from 11 l.fn.year 1 l.fn.days ≡ month_from (12 - l.month) l.fn.year l.month l.left) × (l.left ≤ l.fn.days)
