use Rattle.std.proofs.Common.{subst}
use Rattle.pager.specs.State.{State}
use Rattle.pager.specs.Turn.{IsOrderly}
use Rattle.pager.proofs.BookLemmas.{made_once}
use Rattle.pager.proofs.pager.Pager.mark.Goals as goal

pub returns-clause-orderly : goal.returns-clause-orderly
returns-clause-orderly g c =
    let D = g.row.D.Denot in
    let i = c.self.inside in
    let booked = c.self.invariant.booked in
    subst (λ (s : State D). IsOrderly s) c.self.view_is (record { once = made_once i.made.items i.book booked; booked = booked })
