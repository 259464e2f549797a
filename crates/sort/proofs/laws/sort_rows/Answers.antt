use Rattle.std.proofs.Common.{refl}
use Rattle.std.specs.Str.{chars}
use Rattle.sort.proofs.laws.sort_rows.Goals as goal

pub returns : goal.returns
unfolding chars
returns c = (refl, refl, refl, refl)
