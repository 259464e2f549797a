use Rattle.server.proofs.Prefixes.{finds_a_prefix}
use Rattle.server.proofs.laws.finds_a_prefix.Goals as goal

pub returns : goal.returns
returns g c = finds_a_prefix g.D.Disk.history g.E.Disk.history
