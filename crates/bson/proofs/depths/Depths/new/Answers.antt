use Rattle.std.proofs.Common.{refl}
use Rattle.bson.proofs.DepthLaws.{counts-none}
use Rattle.bson.proofs.depths.Depths.new.Goals as goal

pub returns : goal.returns
returns c = counts-none _ refl
