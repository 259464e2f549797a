use Rattle.std.proofs.Common.{subst}
use Rattle.collections.specs.State.{State}
use Rattle.collections.specs.Versions.{UnpinsVersion}
use Rattle.collections.proofs.VersionLemmas.{unpins_so}
use Rattle.collections.proofs.RememberingLemmas.{kept_unpinned}
use Rattle.collections.proofs.collections.Collections.unpin.Goals as goal

pub invariant_of-self : goal.invariant_of-self
invariant_of-self g c =
    let i = c.self.inside in (
      c.self.invariant.0,
      c.self.invariant.1,
      kept_unpinned g.D.Disk.history i.root i.pager i.remembered c.args.version.generation c.unpin.new.self c.unpin.ensures.unpins.unpinned
          c.self.invariant.2,
    )

pub returns : goal.returns
returns g c =
    let D = g.row.D.Denot in
    let history = g.D.Disk.history in
    let i = c.self.inside in
    subst (λ (s : State D). UnpinsVersion history c.args.version s (record { pager = c.unpin.new.self; root = i.root })) c.self.view_is
    (unpins_so history (record { pager = i.pager; root = i.root }) c.unpin.new.self c.args.version c.unpin.ensures.unpins)
