use Rattle.std.proofs.Common.{subst}
use Rattle.roots.specs.Store.{durable_root}
use Rattle.collections.specs.State.{State}
use Rattle.collections.specs.Versions.{PinsNow}
use Rattle.collections.proofs.VersionLemmas.{pins_so}
use Rattle.collections.proofs.RememberingLemmas.{kept_pinned}
use Rattle.collections.proofs.collections.Collections.pin.Goals as goal

pub invariant_of-self : goal.invariant_of-self
invariant_of-self g c =
    let i = c.self.inside in
    let pins = c.pin.ensures.pins in (
      c.self.invariant.0,
      c.self.invariant.1,
      kept_pinned g.D.Disk.history i.root i.pager i.remembered (durable_root i.pager.store).generation c.pin.result c.pin.new.self pins.pinned pins.err
          c.self.invariant.2,
    )

pub returns : goal.returns
returns g c =
    let D = g.row.D.Denot in
    let history = g.D.Disk.history in
    let i = c.self.inside in
    subst (λ (s : State D). PinsNow history c.pin.result s (record { pager = c.pin.new.self; root = i.root })) c.self.view_is
    (pins_so history (record { pager = i.pager; root = i.root }) c.pin.new.self c.pin.result c.trees_fit.ensures c.pin.ensures.pins)
