use Rattle.std.proofs.Common.{rules}
use Rattle.engine.proofs.by_list.all_asked.Goals as goal

pub of-requires : goal.of-requires
of-requires c κs within = search rules depth 24
