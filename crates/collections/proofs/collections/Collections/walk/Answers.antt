use Rattle.std.proofs.Common.{subst, refl, Some}
use Rattle.pager.specs.Capacity.{TreesFit}
use Rattle.collections.specs.State.{State}
use Rattle.collections.proofs.WalkLemmas.{begins_walk}
use Rattle.collections.proofs.collections.Collections.walk.Goals as goal

pub returns : goal.returns
returns g c =
    let D = g.row.D.Denot in
    let history = g.D.Disk.history in
    begins_walk history c.args.self.now c.args.number
    (record { number = c.args.number; next = Some c.in_ok-first_key.field-0; left = 4294967295 }) c.in_ok-first_key.field-0
    (subst (λ (s : State D). TreesFit history s.pager) c.self.view_is c.trees_fit.ensures) refl refl c.in_ok-first_key.ensures refl
