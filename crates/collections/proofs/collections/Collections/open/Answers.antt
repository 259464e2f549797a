use Rattle.collections.proofs.OpenLemmas.{opened_so, refused_so}
use Rattle.collections.proofs.collections.Collections.open.Goals as goal

pub returns-clause-opened : goal.returns-clause-opened
returns-clause-opened g c =
    opened_so g.D.Disk.history c.args.disk (record { pager = c.in-Ok.pager; root = c.root.result }) c.in-Ok.ensures.opened c.root.ensures

pub returns-in-Err-clause-refused : goal.returns-in-Err-clause-refused
returns-in-Err-clause-refused g c = refused_so g.D.Disk.history c.args.disk c.in-Err.disk c.in-Err.fault c.in-Err.ensures.refused
