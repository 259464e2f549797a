use Rattle.std.proofs.Common.{arith, map, subst, sym}
use Rattle.tree_model.specs.View.{item_in}
use Rattle.tree_model.specs.Calls.{IsEdited}
use Rattle.btree.proofs.EditLemmas.{edited_on, edits_more}
use Rattle.btree.proofs.FewLemmas.{edits_failed, edits_few}
use Rattle.tree_model.proofs.StoreLemmas.{answer_failed, cause_later, grows_trans}
use Rattle.btree.proofs.editing.edit_cells.Goals as goal

pub returns-in_err-edit_cell-clause-grows : goal.returns-in_err-edit_cell-clause-grows
returns-in_err-edit_cell-clause-grows g c = grows_trans _ _ _ c.loop-edit.invariant.grows c.in_err-edit_cell.ensures.grows

pub returns-in_err-edit_cell-clause-edits : goal.returns-in_err-edit_cell-clause-edits
returns-in_err-edit_cell-clause-edits g c =
    λ pairs e rise shown k.
    let step = c.in_err-edit_cell.ensures.grows.frame k in
    let h = c.loop-edit.invariant.edited pairs e rise shown step.word in
    answer_failed (g.P.Pages.store c.args.pages.now) (g.P.Pages.store c.edit_cell.new.pages) _ _ _ c.from_residual.ensures.1
    (cause_later (g.P.Pages.store c.args.pages.now) (g.P.Pages.store c.loop-edit.pages) (g.P.Pages.store c.edit_cell.new.pages) _
    (c.loop-edit.invariant.grows.frame step.word)
    (c.in_err-edit_cell.ensures.edits h.pairs h.items_are h.rise h.shown k))

pub loop-edit-preserved : goal.loop-edit-preserved
loop-edit-preserved g c =
    record {
      grows = grows_trans _ _ _ c.loop-edit.invariant.grows c.in_ok-edit_cell.ensures.grows;
      small = λ h. c.in_ok-edit_cell.ensures.small (c.loop-edit.invariant.small h);
      few = λ k.
          let before = c.loop-edit.invariant.few (c.in_ok-edit_cell.ensures.grows.frame k).word in
          edits_few (g.P.Pages.store c.args.pages.now) (g.P.Pages.store c.loop-edit.pages)
          (g.P.Pages.store c.edit_cell.new.pages) c.args.edits.now c.loop-edit.edit-index _ c.loop-edit-test.true before (c.in_ok-edit_cell.ensures.few k);
      size = omega (arith, c.loop-edit.invariant.size, c.in_ok-edit_cell.ensures.size);
      edited = λ pairs e rise shown k.
          let h = c.loop-edit.invariant.edited pairs e rise shown (c.in_ok-edit_cell.ensures.grows.frame k).word in
          let more = c.in_ok-edit_cell.ensures.edits h.pairs h.items_are h.rise h.shown k in
          subst (λ es. IsEdited (g.P.Pages.store c.args.pages.now) (g.P.Pages.store c.edit_cell.new.pages) es pairs (map item_in c.edit_cell.new.cells.items))
          (sym (edits_more c.args.edits.now c.loop-edit.edit-index _ c.loop-edit-test.true))
          (edited_on (g.P.Pages.store c.args.pages.now) (g.P.Pages.store c.loop-edit.pages) (g.P.Pages.store c.edit_cell.new.pages) _ _ pairs _ _ h more);
    }

pub returns-in_err-edit_cell-clause-few : goal.returns-in_err-edit_cell-clause-few
returns-in_err-edit_cell-clause-few g c =
    λ k.
    let before = c.loop-edit.invariant.few (c.in_err-edit_cell.ensures.grows.frame k).word in
    edits_failed (g.P.Pages.store c.args.pages.now) (g.P.Pages.store c.loop-edit.pages)
    (g.P.Pages.store c.edit_cell.new.pages) c.args.edits.now c.loop-edit.edit-index _ c.loop-edit-test.true before (c.in_err-edit_cell.ensures.few k)
