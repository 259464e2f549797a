use Rattle.std.proofs.Common.{ap, subst, ◌∙◌}
use Rattle.pager.specs.State.{State as PagerState}
use Rattle.collections.specs.Marks.{Undoes}
use Rattle.collections.specs.State.{State}
use Rattle.collections.specs.Versions.{KeepsSinceStart, pins_of}
use Rattle.collections.proofs.MarkLemmas.{undoes_so}
use Rattle.collections.proofs.VersionLemmas.{undone_keeps}
use Rattle.collections.proofs.RememberingLemmas.{forgotten}
use Rattle.collections.proofs.collections.Collections.undo.Goals as goal

pub invariant_of-self : goal.invariant_of-self
invariant_of-self g c =
    let after : State g.row.D.Denot = record { pager = c.undo_to.new.self; root = c.root-self-inside.result } in
    (c.self.invariant.0, c.self.invariant.1, forgotten g.D.Disk.history after c.forget_tree.new.remembered c.forget_tree.ensures)

pub returns-clause-undoes : goal.returns-clause-undoes
returns-clause-undoes g c =
    let D = g.row.D.Denot in
    let history = g.D.Disk.history in
    let i = c.self.inside in
    let root = c.root-self-inside.result in
    subst (λ (s : State D). Undoes history s (record { pager = c.undo_to.new.self; root = root })) c.self.view_is
    (undoes_so history
    (record { pager = i.pager; root = i.root }) c.undo_to.new.self root i.begun.made i.begun.retired c.undo_to.ensures.undone c.undo_to.ensures.begun
    c.self.invariant.0 c.self.invariant.1 c.root-self-inside.ensures)

pub returns-clause-versions : goal.returns-clause-versions
returns-clause-versions g c =
    let D = g.row.D.Denot in
    let history = g.D.Disk.history in
    let i = c.self.inside in
    let root = c.root-self-inside.result in
    subst (λ (s : State D). KeepsSinceStart history s (record { pager = c.undo_to.new.self; root = root })) c.self.view_is
    (undone_keeps history (record { pager = i.pager; root = i.root }) c.undo_to.new.self root i.begun.made i.begun.retired c.self.invariant.0
    c.undo_to.ensures.undone c.undo_to.ensures.versions)

pub returns-clause-pins : goal.returns-clause-pins
returns-clause-pins g c =
    ap (λ (p : PagerState g.row.D.Denot). p.book.pins) c.undo_to.ensures.undone ∙ ap (λ (s : State g.row.D.Denot). pins_of s) c.self.view_is
