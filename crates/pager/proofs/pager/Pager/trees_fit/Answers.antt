use Rattle.std.proofs.Common.{subst}
use Rattle.pager.specs.Capacity.{TreesFit}
use Rattle.pager.specs.State.{State}
use Rattle.pager.proofs.CapacityLemmas.{trees_fit}
use Rattle.pager.proofs.pager.Pager.trees_fit.Goals as goal

pub returns : goal.returns
returns g c =
    let D = g.row.D.Denot in
    let i = c.self.inside in
    subst (λ (s : State D). TreesFit g.D.Disk.history s) c.self.view_is
    (trees_fit g.D.Disk.history i.store i.cache i.made.items i.retired.items i.book c.self.invariant)
