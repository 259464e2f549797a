use Rattle.std.proofs.lemmas.Result.{err_from_is_err_and}
use Rattle.engine.specs.TakingOut.{IsIndexable}
use Rattle.engine.proofs.TakingOutLemmas.{item_all, takes_all, takes_on}
use Rattle.engine.proofs.removing.note_removed.Goals as goal

pub documents-preserved : goal.documents-preserved
documents-preserved g c =
    let home = c.args.home.now in
    takes_on g.T.AsDocument.document c.args.edits.now c.documents.edits home.number home.indexes.items c.args.documents.now c.documents.document-index
    c.note_one.new.edits c.document-item.result c.as_document.result.now
    c.documents-test.true c.document-item.is c.as_document.ensures c.in_ok-note_one.ensures c.documents.invariant

pub returns-in_err-note_one : goal.returns-in_err-note_one
returns-in_err-note_one g c =
    let p = err_from_is_err_and c.from_residual.result c.from_residual.ensures.1 in
    let home = c.args.home.now in
    rw (p.1, p.2) (λ each. c.in_err-note_one.ensures
    (item_all g.T.AsDocument.document c.args.edits.now c.documents.edits home.number home.indexes.items c.args.documents.now c.documents.document-index
    (IsIndexable home.indexes.items) c.document-item.result c.as_document.result.now
    c.documents-test.true c.document-item.is c.as_document.ensures each))

pub returns : goal.returns
returns g c =
    let home = c.args.home.now in
    takes_all g.T.AsDocument.document c.args.edits.now c.documents.edits home.number home.indexes.items c.args.documents.now c.documents.document-index
    c.documents-test.false c.documents.invariant
