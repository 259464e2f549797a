use Rattle.std.proofs.Common.{◌∙◌, ap, arith, length, map, subst, sym}
use Rattle.std.specs.Option.{unwrap_or}
use Rattle.std.proofs.lemmas.List.{take_all}
use Rattle.page.specs.Content.{item_size, total}
use Rattle.tree_model.specs.Calls.{IsEdited}
use Rattle.tree_model.specs.EditView.{edit_in}
use Rattle.btree.proofs.EditLemmas.{edited_on, edits_more}
use Rattle.btree.proofs.FewLemmas.{edits_failed, edits_few}
use Rattle.btree.proofs.InPageLemmas.{room_after, room_next}
use Rattle.tree_model.proofs.ListLemmas.{long_map}
use Rattle.tree_model.proofs.StoreLemmas.{answer_failed, cause_later, grows_trans}
use Rattle.btree.proofs.in_page.edit_page.Goals as goal

pub edit_leaf-requires-clause-two : goal.edit_leaf-requires-clause-two
edit_leaf-requires-clause-two g c =
    omega (arith, ap length c.made_of.ensures, c.loop-edit.invariant.long, c.requires.cells, c.loop-edit-test.true)

pub edit_leaf-requires-clause-room : goal.edit_leaf-requires-clause-room
edit_leaf-requires-clause-room g c =
    room_next c.args.edits.now c.loop-edit.edit-index _ c.loop-edit-test.true (total item_size c.args.leaf.now) _
    (omega (arith, ap (total item_size) c.made_of.ensures, c.loop-edit.invariant.size)) c.requires.room

pub returns-in_err-next-clause-grows : goal.returns-in_err-next-clause-grows
returns-in_err-next-clause-grows g c = grows_trans _ _ _ c.loop-edit.invariant.grows c.in_err-next.ensures.grows

pub returns-in_err-next-clause-edits : goal.returns-in_err-next-clause-edits
returns-in_err-next-clause-edits g c =
    λ pairs e rise shown k.
    let step = c.in_err-next.ensures.grows.frame k in
    let h = c.loop-edit.invariant.stands pairs e rise shown step.word in
    answer_failed (g.P.Pages.store c.args.pages.now) (g.P.Pages.store c.edit_leaf.new.pages) _ _ _ c.from_residual.ensures.1
    (cause_later (g.P.Pages.store c.args.pages.now) (g.P.Pages.store c.loop-edit.pages) (g.P.Pages.store c.edit_leaf.new.pages) _
    (c.loop-edit.invariant.grows.frame step.word)
    (c.in_err-next.ensures.edits h.pairs (c.made_of.ensures ∙ h.items_are) h.rise h.shown k))

pub loop-edit-preserved : goal.loop-edit-preserved
loop-edit-preserved g c =
    record {
      grows = grows_trans _ _ _ c.loop-edit.invariant.grows c.in_ok-next.ensures.grows;
      long = omega (arith, ap length c.made_of.ensures, c.loop-edit.invariant.long, c.in_ok-next.ensures.len);
      size = room_after c.args.edits.now c.loop-edit.edit-index _ c.loop-edit-test.true (total item_size c.args.leaf.now) _ _
          (omega (arith, ap (total item_size) c.made_of.ensures, c.loop-edit.invariant.size)) c.in_ok-next.ensures.size;
      few = λ k.
          let before = c.loop-edit.invariant.few (c.in_ok-next.ensures.grows.frame k).word in
          edits_few (g.P.Pages.store c.args.pages.now) (g.P.Pages.store c.loop-edit.pages)
          (g.P.Pages.store c.edit_leaf.new.pages) c.args.edits.now c.loop-edit.edit-index _ c.loop-edit-test.true before (c.in_ok-next.ensures.few k);
      stands = λ pairs e rise shown k.
          let h = c.loop-edit.invariant.stands pairs e rise shown (c.in_ok-next.ensures.grows.frame k).word in
          let more = c.in_ok-next.ensures.edits h.pairs (c.made_of.ensures ∙ h.items_are) h.rise h.shown k in
          subst (λ es. IsEdited (g.P.Pages.store c.args.pages.now) (g.P.Pages.store c.edit_leaf.new.pages) es pairs c.in_ok-next.next)
          (sym (edits_more c.args.edits.now c.loop-edit.edit-index _ c.loop-edit-test.true))
          (edited_on (g.P.Pages.store c.args.pages.now) (g.P.Pages.store c.loop-edit.pages) (g.P.Pages.store c.edit_leaf.new.pages) _ _ pairs _ _ h more);
    }

pub returns-in_err-next-clause-few : goal.returns-in_err-next-clause-few
returns-in_err-next-clause-few g c =
    λ k.
    let before = c.loop-edit.invariant.few (c.in_err-next.ensures.grows.frame k).word in
    edits_failed (g.P.Pages.store c.args.pages.now) (g.P.Pages.store c.loop-edit.pages)
    (g.P.Pages.store c.edit_leaf.new.pages) c.args.edits.now c.loop-edit.edit-index _ c.loop-edit-test.true before (c.in_err-next.ensures.few k)

pub returns-clause-edits : goal.returns-clause-edits
returns-clause-edits g c =
    λ pairs e rise shown k.
    subst (λ zs. IsEdited (g.P.Pages.store c.args.pages.now) (g.P.Pages.store c.loop-edit.pages) (map edit_in c.args.edits.now) pairs zs)
    (sym c.in_ok-made.ensures)
    (subst (λ es. IsEdited (g.P.Pages.store c.args.pages.now) (g.P.Pages.store c.loop-edit.pages) es pairs (unwrap_or c.loop-edit.edited c.args.leaf.now))
    (take_all c.loop-edit.edit-index (map edit_in c.args.edits.now) (omega (arith, long_map edit_in c.args.edits.now, c.loop-edit-test.false)))
    (c.loop-edit.invariant.stands pairs e rise shown k))
