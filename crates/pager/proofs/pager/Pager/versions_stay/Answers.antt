use Rattle.pager.proofs.StayLemmas.{versions_stay}
use Rattle.pager.proofs.pager.Pager.versions_stay.Goals as goal

pub returns : goal.returns
returns g c = versions_stay g.D.Disk.history
