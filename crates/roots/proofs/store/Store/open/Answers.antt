use Rattle.std.proofs.Common.{◌∙◌}
use Rattle.roots.proofs.OpenLemmas.{opened}
use Rattle.roots.proofs.store.Store.open.Goals as goal

pub returns-in-Ok-sync-clause-opened : goal.returns-in-Ok-sync-clause-opened
returns-in-Ok-sync-clause-opened g c =
    opened g.D.Disk.history c.args.disk c.sync.new.self c.in-Ok.root
    (g.D.Disk.history c.read_root.new.disk) _ c.read_root.ensures.reads c.in-Ok.ensures.root c.sync.ensures.time c.in-Ok-sync.ensures.syncs
    c.in-Ok.ensures.known (λ k. c.in-Ok-sync.ensures.time.failures k ∙ c.in-Ok.ensures.clear (c.sync.ensures.time.kept k))
