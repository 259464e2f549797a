use Rattle.std.proofs.Common.{ap, subst, ◌∙◌}
use Rattle.pager.specs.State.{State as PagerState}
use Rattle.collections.specs.Marks.{ReturnsTo}
use Rattle.collections.specs.State.{State}
use Rattle.collections.specs.Versions.{KeepsThen, pins_of}
use Rattle.collections.proofs.MarkLemmas.{returns_so}
use Rattle.collections.proofs.VersionLemmas.{older_keep}
use Rattle.collections.proofs.RememberingLemmas.{forgotten}
use Rattle.collections.proofs.collections.Collections.undo_to.Goals as goal

pub invariant_of-self : goal.invariant_of-self
invariant_of-self g c =
    let after : State g.row.D.Denot = record { pager = c.undo_to.new.self; root = c.args.mark.root } in
    (c.self.invariant.0, c.self.invariant.1, forgotten g.D.Disk.history after c.forget_tree.new.remembered c.forget_tree.ensures)

pub returns-clause-returns : goal.returns-clause-returns
returns-clause-returns g c =
    let D = g.row.D.Denot in
    let history = g.D.Disk.history in
    let i = c.self.inside in
    subst (λ (s : State D). ReturnsTo history c.args.mark s (record { pager = c.undo_to.new.self; root = c.args.mark.root })) c.self.view_is
    (returns_so history c.args.mark (record { pager = i.pager; root = i.root }) c.undo_to.new.self c.undo_to.ensures.undone c.undo_to.ensures.returns)

pub returns-clause-versions : goal.returns-clause-versions
returns-clause-versions g c =
    let D = g.row.D.Denot in
    let history = g.D.Disk.history in
    let i = c.self.inside in
    let mark = c.args.mark in
    subst (λ (s : State D). KeepsThen history mark s (record { pager = c.undo_to.new.self; root = mark.root })) c.self.view_is
    (λ earlier is continues. older_keep history earlier (record { pager = i.pager; root = i.root }) c.undo_to.new.self mark.root mark.pages.made continues
    is.made c.undo_to.ensures.versions)

pub returns-clause-pins : goal.returns-clause-pins
returns-clause-pins g c =
    ap (λ (p : PagerState g.row.D.Denot). p.book.pins) c.undo_to.ensures.undone ∙ ap (λ (s : State g.row.D.Denot). pins_of s) c.self.view_is
