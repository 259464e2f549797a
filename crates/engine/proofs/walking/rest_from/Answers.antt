use Rattle.std.proofs.Common.{rules}
use Rattle.engine.proofs.walking.rest_from.Goals as goal

pub of-requires : goal.of-requires
of-requires c κs within = search rules depth 24
