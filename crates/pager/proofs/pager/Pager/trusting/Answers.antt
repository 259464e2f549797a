use Rattle.std.proofs.Common.{subst, sym}
use Rattle.roots.specs.declared.store.Store.{Store}
use Rattle.trusted_disk.specs.Trusting.{trusted_history}
use Rattle.trusted_disk.specs.declared.disk.TrustedDisk.{TrustedDisk}
use Rattle.pager.specs.Kept.{IsKept}
use Rattle.pager.proofs.TrustLemmas.{kept_trusting}
use Rattle.pager.proofs.pager.Pager.trusting.Goals as goal

pub invariant_of-result : goal.invariant_of-result
invariant_of-result g c =
    let i = c.self.inside in
    subst (λ (s : Store (TrustedDisk g.row.D.Denot)). IsKept (trusted_history g.D.Disk.history) s i.cache i.made.items i.book i.listed.items i.places.items)
    (sym c.trusting.ensures)
    (kept_trusting g.D.Disk.history g.trusted i.store i.cache i.made.items i.book i.listed.items i.places.items c.self.invariant)
