use Rattle.std.proofs.Common.{◌≡◌, ap, sym, subst, map, ◌∙◌}
use Rattle.std.specs.List.{list_all}
use Rattle.outcome.specs.Outcome.{Gives}
use Rattle.path.specs.declared.refusal.Refusal.TheVariants as refusals
use Rattle.update_model.specs.Applying.{apply_edits}
use Rattle.update.specs.Moving.{move_of, put_all, all_moved}
use Rattle.update.specs.Unsets.{is_unset, cut_all}
use Rattle.update.specs.View.{edit_of}
use Rattle.update.proofs.StepLemmas.{refused}
use Rattle.update.proofs.UnsetOrderLemmas.{all_cut, all_mapped}
use Rattle.update.proofs.moving.Moving.into_document.Goals as goal

pub unset_all-requires : goal.unset_all-requires
unset_all-requires c =
    ap (list_all (λ e. is_unset (edit_of e))) c.deref.ensures.value ∙ all_mapped c.into_edits-edits.result.items
    ∙ ap (list_all is_unset) c.into_edits-edits.ensures ∙ c.self.invariant.unsets

pub returns-in_err-left : goal.returns-in_err-left
returns-in_err-left c =
    let made = ap (λ es. apply_edits (map edit_of es) c.self.inside.document) c.deref.ensures.value
    ∙ ap (λ es. apply_edits es c.self.inside.document) c.into_edits-edits.ensures
    ∙ all_cut c.self.inside.gone c.self.inside.document c.self.invariant.unsets in
    refused (λ d. d) _ c.from_residual.result c.in_err-left.field-0.0 c.from_residual.ensures.1
    (λ known. let no = sym (c.in_err-left.ensures known) ∙ made in absurd cc)

pub returns : goal.returns
returns c =
    let made = ap (λ es. apply_edits (map edit_of es) c.self.inside.document) c.deref.ensures.value
    ∙ ap (λ es. apply_edits es c.self.inside.document) c.into_edits-edits.ensures
    ∙ all_cut c.self.inside.gone c.self.inside.document c.self.invariant.unsets in
    let here = sym c.in_ok-left.ensures ∙ made in
    let left : c.in_ok-left.left ≡ cut_all c.self.inside.gone c.self.inside.document = cc in
    subst (Gives refusals.OutOfMemory (λ d. d) c.put_all.result)
    (ap (put_all (map move_of c.self.inside.moved.items)) left ∙ ap all_moved c.self.view_is) c.put_all.ensures
