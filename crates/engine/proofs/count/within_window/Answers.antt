use Rattle.std.proofs.Common.{arith}
use Rattle.engine.proofs.Finding.{window-length}
use Rattle.engine.proofs.count.within_window.Goals as goal

pub returns-else-limit-eq0 : goal.returns-else-limit-eq0
returns-else-limit-eq0 c =
    λ ds same. omega (arith, same, c.min.ensures, c.saturating_sub-rest.ensures, window-length c.args.skip c.args.limit ds c.if-limit-eq0.false)
