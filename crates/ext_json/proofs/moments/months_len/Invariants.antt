use Rattle.std.proofs.Common.{◌≡◌, ◌*◌, ◌≤◌}
use Rattle.ext_json.specs.Moments as spec
use Rattle.ext_json.proofs.moments.months_len.Given as goal

abbrev pub invariant-months : goal.invariant-months
invariant-months l = (l.days ≡ spec.months_len l.year l.month) × (l.days ≤ 31 * l.month)
