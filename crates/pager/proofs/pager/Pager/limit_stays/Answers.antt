use Rattle.pager.proofs.LimitLemmas.{limit_stays}
use Rattle.pager.proofs.pager.Pager.limit_stays.Goals as goal

pub returns : goal.returns
returns g c = limit_stays g.D.Disk.history
