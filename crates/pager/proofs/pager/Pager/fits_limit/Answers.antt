use Rattle.std.proofs.Common.{subst}
use Rattle.pager.specs.Limit.{IsWithinLimit}
use Rattle.pager.specs.State.{State}
use Rattle.pager.proofs.LimitLemmas.{within_limit}
use Rattle.pager.proofs.pager.Pager.fits_limit.Goals as goal

pub returns : goal.returns
returns g c =
    let D = g.row.D.Denot in
    let i = c.self.inside in
    subst (λ (s : State D). IsWithinLimit s) c.self.view_is
    (within_limit g.D.Disk.history i.store i.cache i.made.items i.retired.items i.book c.self.invariant)
