use Rattle.std.proofs.Common.{rules, subst, sym, Ok, Err}
use Rattle.path.specs.declared.refusal.Refusal.{Refusal}
use Rattle.collections.specs.Calls.{Applies}
use Rattle.collections.specs.State.{State}
use Rattle.collections.proofs.ApplyLemmas.{applies_done, applies_none, applies_undone, none_of, some_of}
use Rattle.collections.proofs.RememberingLemmas.{forgotten}
use Rattle.collections.proofs.collections.Collections.apply.Goals as goal

pub invariant_of-self : goal.invariant_of-self
invariant_of-self g c =
    let after : State g.row.D.Denot = record { pager = c.changed_root.new.pager; root = c.in-Ok.root } in
    (c.self.invariant.0, c.self.invariant.1, forgotten g.D.Disk.history after c.forget_tree.new.remembered c.forget_tree.ensures)

pub invariant_of-self-in-Err : goal.invariant_of-self-in-Err
invariant_of-self-in-Err g c =
    let after : State g.row.D.Denot = record { pager = c.undo_to.new.self; root = c.self.inside.root } in
    (c.self.invariant.0, c.self.invariant.1, forgotten g.D.Disk.history after c.forget_tree.new.remembered c.forget_tree.ensures)

pub returns-then-is_empty : goal.returns-then-is_empty
returns-then-is_empty g c = applies_none g.D.Disk.history c.args.edits.now c.args.self.now (none_of c.args.edits.now (search rules))

pub returns-in-Ok : goal.returns-in-Ok
returns-in-Ok g c =
    let D = g.row.D.Denot in
    let history = g.D.Disk.history in
    let i = c.self.inside in
    subst (λ (s : State D). Applies history c.args.edits.now (Ok tt) s (record { pager = c.changed_root.new.pager; root = c.in-Ok.root })) c.self.view_is
    (applies_done history c.args.edits.now (record { pager = i.pager; root = i.root }) c.changed_root.new.pager c.in-Ok.root
    (some_of c.args.edits.now (search rules)) c.changed_root.ensures.grows c.in-Ok.ensures.changes)

pub returns-in-Err : goal.returns-in-Err
returns-in-Err g c =
    let D = g.row.D.Denot in
    let history = g.D.Disk.history in
    let i = c.self.inside in
    subst (λ (s : State D). Applies history c.args.edits.now (Err c.refusal_of.result) s (record { pager = c.undo_to.new.self; root = i.root })) c.self.view_is
    (subst (λ (refusal : Refusal). Applies history c.args.edits.now (Err refusal) (record { pager = i.pager; root = i.root })
    (record { pager = c.undo_to.new.self; root = i.root })) (sym c.refusal_of.ensures)
    (applies_undone history c.args.edits.now
    (record { pager = i.pager; root = i.root }) c.changed_root.new.pager c.undo_to.new.self c.in-Err.fault c.mark-mark.result.made c.mark-mark.result.retired
    c.changed_root.ensures.grows c.in-Err.ensures.changes
    c.undo_to.ensures.undone c.undo_to.ensures.returns c.mark-mark.ensures.orderly c.mark-mark.ensures.made c.mark-mark.ensures.retired
    (some_of c.args.edits.now (search rules)) (search rules)))
