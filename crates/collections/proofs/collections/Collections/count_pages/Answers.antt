use Rattle.std.proofs.Common.{sym, ◌∙◌, subst}
use Rattle.collections.specs.Counting.{CountsPages}
use Rattle.collections.specs.State.{State}
use Rattle.collections.proofs.CountLemmas.{counts_so}
use Rattle.collections.proofs.RememberingLemmas.{kept_reading}
use Rattle.collections.proofs.collections.Collections.count_pages.Goals as goal

pub invariant_of-self : goal.invariant_of-self
invariant_of-self g c =
    let D = g.row.D.Denot in
    let i = c.self.inside in
    let old : State D = record { pager = i.pager; root = i.root } in
    let new : State D = record { pager = c.count_pages.new.self; root = i.root } in
    (c.self.invariant.0, c.self.invariant.1, kept_reading g.D.Disk.history old new c.count_pages.ensures.same i.remembered c.self.invariant.2)

pub returns : goal.returns
returns g c =
    let D = g.row.D.Denot in
    let history = g.D.Disk.history in
    let i = c.self.inside in
    let pager = c.count_pages.new.self in
    let old : State D = record { pager = i.pager; root = i.root } in
    subst (λ (s : State D). CountsPages history c.count_pages.result s (record { pager = pager; root = i.root })) c.self.view_is
    (counts_so history old pager c.count_pages.result c.count_pages.ensures (sym c.is_stopped.ensures ∙ c.if-is_stopped.false))
