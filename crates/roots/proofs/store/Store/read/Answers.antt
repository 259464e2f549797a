use Rattle.std.proofs.Common.{Ok, Err, refl}
use Rattle.roots.proofs.FreeLemmas.{page_read}
use Rattle.roots.proofs.store.Store.read.Goals as goal

pub returns-in-Ok-clause-reads : goal.returns-in-Ok-clause-reads
returns-in-Ok-clause-reads g c =
    page_read g.D.Disk.history c.args.page (Ok c.in-Ok.image) c.args.self.now c.read_model.new.disk c.args.self.now.failed_reads c.in-Ok.ensures.looks refl
    c.in-Ok.ensures.model

pub returns-in-Err-clause-reads : goal.returns-in-Err-clause-reads
returns-in-Err-clause-reads g c =
    page_read g.D.Disk.history c.args.page (Err c.in-Err.fault) c.args.self.now c.read_model.new.disk c.failed_behind-self.result c.in-Err.ensures.looks
    c.failed_behind-self.ensures c.in-Err.ensures.model
