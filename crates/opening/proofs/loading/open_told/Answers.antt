use Rattle.opening.proofs.FileLemmas.{file_opened, open_refused}
use Rattle.opening.proofs.loading.open_told.Goals as goal

pub returns-in-Err-clause-refused : goal.returns-in-Err-clause-refused
returns-in-Err-clause-refused g c = open_refused g.D.Disk.history c.args.disk c.in-Err.disk c.in-Err.fault c.in-Err.ensures.refused

pub returns-in-Ok-clause-opened : goal.returns-in-Ok-clause-opened
returns-in-Ok-clause-opened g c =
    file_opened g.D.Disk.history c.args.disk c.in-Ok.file c.in-Ok.ensures.opened g.image c.trusting.result c.of.result.value c.trusting.ensures c.of.ensures
