use Rattle.std.proofs.lemmas.Result.{err_from_is_err_and}
use Rattle.op_msg.specs.Frame.{part_at, each_in}
use Rattle.op_msg.specs.Request.{array_of}
use Rattle.op_msg.proofs.SectionWalks.{part_shrinks}
use Rattle.op_msg.proofs.Joining.{document_more, document_fails, documents_over}
use Rattle.op_msg.proofs.request.read_array.Goals as goal

pub returns-in_err-push_document : goal.returns-in_err-push_document
returns-in_err-push_document c =
    let p = err_from_is_err_and c.from_residual.result c.from_residual.ensures.1 in
    rw (p.1, p.2)
    (document_fails c.documents.array c.documents.rest.now (c.in-Ok.part.now, c.in-Ok.after.now)
    (array_of (each_in part_at c.args.bytes.now).0) c.documents.invariant c.in-Ok.ensures c.in_err-push_document.field-0.0 c.in_err-push_document.ensures)

pub documents-smaller : goal.documents-smaller
documents-smaller c = part_shrinks c.documents.rest.now (c.in-Ok.part.now, c.in-Ok.after.now) c.in-Ok.ensures

pub documents-preserved : goal.documents-preserved
documents-preserved c =
    document_more c.documents.array c.documents.rest.now (c.in-Ok.part.now, c.in-Ok.after.now)
    (array_of (each_in part_at c.args.bytes.now).0) c.documents.invariant c.in-Ok.ensures c.push_document.new.array c.in_ok-push_document.ensures

pub returns : goal.returns
returns c = documents_over c.documents.array c.documents.rest.now
    (array_of (each_in part_at c.args.bytes.now).0) c.in_default.field-0 c.documents.invariant c.in_default.ensures
