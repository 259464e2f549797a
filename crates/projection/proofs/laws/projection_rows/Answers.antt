use Rattle.std.proofs.Common.{refl}
use Rattle.std.specs.Str.{chars}
use Rattle.projection.proofs.laws.projection_rows.Goals as goal

pub returns : goal.returns
unfolding chars
returns c = (refl, refl, refl, refl, refl, refl, refl, refl, refl)
