use Rattle.std.proofs.Common.{sym, ◌∙◌}
use Rattle.page.specs.History.{now, reads}
use Rattle.roots.specs.Image.{model_at}
use Rattle.roots.specs.Store.{disk_history, durable_root}
use Rattle.roots.proofs.ListingLemmas.{damage_is, no_part}
use Rattle.roots.proofs.listing.StoreListPages.read_part.Goals as goal

pub returns-in-Err-clause-part : goal.returns-in-Err-clause-part
returns-in-Err-clause-part g c =
    let history = g.D.Disk.history in
    λ word damaged. no_part (model_at (reads (now (disk_history history c.args.self.now))) (durable_root c.args.self.now) c.args.page)
    (c.in-Err.ensures.reads.model word
    (damage_is (disk_history history c.args.self.now) (disk_history history c.read.new.self) c.in-Err.fault c.in-Err.ensures.looks.cause
    (sym c.list_fault.ensures ∙ damaged)))
