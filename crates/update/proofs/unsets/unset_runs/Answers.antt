use Rattle.std.proofs.Common.{◌≡◌, true, map, ap, ◌∙◌}
use Rattle.std.specs.List.{list_all}
use Rattle.update_model.specs.Applying.{apply_edits}
use Rattle.update.specs.Unsets.{is_unset_below}
use Rattle.update.specs.View.{edit_of}
use Rattle.update.proofs.InsideLemmas.{unsets_inside}
use Rattle.update.proofs.UnsetLemmas.{behind_run}
use Rattle.update.proofs.unsets.unset_runs.Goals as goal

pub runs-preserved-then-run-ge-MANY : goal.runs-preserved-then-run-ge-MANY
runs-preserved-then-run-ge-MANY c =
    let below : list_all (λ e. is_unset_below c.parent_of-parent.result.now (edit_of e)) c.split_at.result.0.now ≡ true =
    ap (list_all (λ e. is_unset_below c.parent_of-parent.result.now (edit_of e))) c.split_at.ensures.front ∙ c.count_unsets_below.ensures.unsets in
    behind_run c.count_unsets_below.result c.runs.rest.now c.split_at.result.0.now c.split_at.result.1.now c.runs.document
    (apply_edits (map edit_of c.args.edits.now) c.args.document) c.split_at.ensures.front c.split_at.ensures.back c.runs.invariant
    c.in_ok-document.document
    (unsets_inside c.parent_of-parent.result.now c.split_at.result.0.now c.runs.document c.in_ok-document.document below
    c.levels-levels.ensures.lawful.lawful c.in_ok-document.ensures)
