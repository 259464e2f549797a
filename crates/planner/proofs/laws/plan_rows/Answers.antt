use Rattle.std.proofs.Common.{refl}
use Rattle.std.specs.Fmt.{digits}
use Rattle.std.specs.Str.{chars}
use Rattle.planner.proofs.laws.plan_rows.Goals as goal

pub returns : goal.returns
unfolding chars digits
returns c = (refl, refl, refl, refl, refl, refl, refl, refl, refl)
