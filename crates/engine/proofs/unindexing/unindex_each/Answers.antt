use Rattle.std.proofs.Common.{subst, sym}
use Rattle.std.proofs.lemmas.List.{take_all}
use Rattle.std.proofs.lemmas.Result.{err_from_is_err_and}
use Rattle.entries.specs.IndexBuilding.{HasRemovedEntries}
use Rattle.engine.specs.Unindexing.{HasKeysIn}
use Rattle.engine.proofs.UnindexingLemmas.{removed_next, removed_none}
use Rattle.engine.proofs.unindexing.unindex_each.Goals as goal

pub documents-init : goal.documents-init
documents-init c = removed_none c.args.edits.now c.args.number c.args.index.now

pub documents-preserved : goal.documents-preserved
documents-preserved c =
    removed_next c.args.edits.now c.documents.edits c.unindex_one.new.edits c.args.number c.args.index.now c.args.documents.now c.documents.document-index
    c.document-item.result
    c.documents-test.true c.document-item.is c.documents.invariant c.in_ok-unindex_one.ensures.continues

pub returns-in_err-unindex_one-clause-refuses : goal.returns-in_err-unindex_one-clause-refuses
returns-in_err-unindex_one-clause-refuses c =
    let p = err_from_is_err_and c.from_residual.result c.from_residual.ensures.1 in
    let ds = c.args.documents.now in
    rw (p.1, p.2)
    (λ all. c.in_err-unindex_one.ensures.refuses
    (subst (HasKeysIn c.args.index.now) (sym c.document-item.is) (all c.documents.document-index c.document-item.result c.documents-test.true)))

pub returns-clause-removes : goal.returns-clause-removes
returns-clause-removes c =
    subst (HasRemovedEntries c.args.edits.now c.documents.edits c.args.number c.args.index.now)
    (take_all c.documents.document-index c.args.documents.now c.documents-test.false) c.documents.invariant
