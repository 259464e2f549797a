use Rattle.std.proofs.Common.{rules, ◌≡◌, ◌≤◌, false, length, map, arith}
use Rattle.bson.specs.Tree.{document}
use Rattle.path.specs.Place.{passes_array}
use Rattle.update_model.specs.Applying.{apply_edits}
use Rattle.update.specs.View.{edit_of}
use Rattle.update.proofs.RenameInsideLemmas.{no_array_first}
use Rattle.update.proofs.StepLemmas.{refused}
use Rattle.update.proofs.UnsetLemmas.{behind_run, refused_run}
use Rattle.update.proofs.applying.apply_edits.Goals as goal

pub returns-in_err-document : goal.returns-in_err-document
returns-in_err-document c =
    refused (λ d. d) _ c.from_residual.result c.in_err-document.field-0.0 c.from_residual.ensures.1
    (λ known. refused_run c.count_unsets.result c.runs.rest.now c.split_at.result.0.now c.split_at.result.1.now c.runs.document
    (apply_edits (map edit_of c.args.edits.now) c.args.document) c.split_at.ensures.front c.split_at.ensures.back c.runs.invariant
    c.in_err-document.field-0.0 (c.in_err-document.ensures known))

pub returns-in_err-document-2 : goal.returns-in_err-document-2
returns-in_err-document-2 c =
    refused (λ d. d) _ c.from_residual-in_err-document-2.result c.in_err-document-2.field-0.0 c.from_residual-in_err-document-2.ensures.1
    (λ known. refused_run c.count_renames_below.result c.runs.rest.now c.split_at-in-len1-up-2.result.0.now c.split_at-in-len1-up-2.result.1.now
    c.runs.document (apply_edits (map edit_of c.args.edits.now) c.args.document) c.split_at-in-len1-up-2.ensures.front c.split_at-in-len1-up-2.ensures.back
    c.runs.invariant c.in_err-document-2.field-0.0 (c.in_err-document-2.ensures known))

pub returns-in_err-document-3 : goal.returns-in_err-document-3
returns-in_err-document-3 c =
    refused (λ d. d) _ c.from_residual-in_err-document-3.result c.in_err-document-3.field-0.0 c.from_residual-in_err-document-3.ensures.1
    (λ known. refused_run c.count_renames.result c.runs.rest.now c.split_at-in-len1-up.result.0.now c.split_at-in-len1-up.result.1.now c.runs.document
    (apply_edits (map edit_of c.args.edits.now) c.args.document) c.split_at-in-len1-up.ensures.front c.split_at-in-len1-up.ensures.back c.runs.invariant
    c.in_err-document-3.field-0.0 (c.in_err-document-3.ensures known))

pub runs-preserved-then-unsets-ge-MANY : goal.runs-preserved-then-unsets-ge-MANY
runs-preserved-then-unsets-ge-MANY c =
    behind_run c.count_unsets.result c.runs.rest.now c.split_at.result.0.now c.split_at.result.1.now c.runs.document
    (apply_edits (map edit_of c.args.edits.now) c.args.document) c.split_at.ensures.front c.split_at.ensures.back c.runs.invariant
    c.in_ok-document.document c.in_ok-document.ensures

pub runs-preserved-then-not-passes_array : goal.runs-preserved-then-not-passes_array
runs-preserved-then-not-passes_array c =
    behind_run c.count_renames_below.result c.runs.rest.now c.split_at-in-len1-up-2.result.0.now c.split_at-in-len1-up-2.result.1.now c.runs.document
    (apply_edits (map edit_of c.args.edits.now) c.args.document) c.split_at-in-len1-up-2.ensures.front c.split_at-in-len1-up-2.ensures.back c.runs.invariant
    c.in_ok-document-2.document c.in_ok-document-2.ensures

pub runs-preserved-then-renames-ge-MANY : goal.runs-preserved-then-renames-ge-MANY
runs-preserved-then-renames-ge-MANY c =
    behind_run c.count_renames.result c.runs.rest.now c.split_at-in-len1-up.result.0.now c.split_at-in-len1-up.result.1.now c.runs.document
    (apply_edits (map edit_of c.args.edits.now) c.args.document) c.split_at-in-len1-up.ensures.front c.split_at-in-len1-up.ensures.back c.runs.invariant
    c.in_ok-document-3.document c.in_ok-document-3.ensures

pub rename_below-requires-clause-no_array : goal.rename_below-requires-clause-no_array
rename_below-requires-clause-no_array c =
    let many : 16 ≤ length c.split_at-in-len1-up-2.result.0.now = search rules in
    let clear : passes_array c.edit-item.result.path (document c.runs.document) ≡ false = search rules in
    no_array_first _ c.count_renames_below.result c.runs.rest.now c.split_at-in-len1-up-2.result.0.now c.edit-item.result c.runs.document
    c.split_at-in-len1-up-2.ensures.front c.count_renames_below.ensures.renames (omega (arith, many)) c.edit-item.is clear
