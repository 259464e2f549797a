use Rattle.std.proofs.Common.{◌≡◌, true, Some, sym, ap, subst, ◌∙◌}
use Rattle.bson_bytes.specs.Raw.{document_spelled}
use Rattle.bson.specs.Spelling.{Spells}
use Rattle.bson_bytes.proofs.RawLaws.{document_spelled-is}
use Rattle.bson_bytes.proofs.spelled.SpelledDocument.read.Goals as goal

pub returns-then-not-is_document-clause-reads : goal.returns-then-not-is_document-clause-reads
returns-then-not-is_document-clause-reads c = λ d s.
    let yes = c.is_document.ensures.reads d (subst (λ xs. Spells xs d) (sym c.deref.ensures.value) s) in
    let no = c.if-not-is_document.true in
    absurd cc

pub invariant_of-result : goal.invariant_of-result
invariant_of-result c = subst (λ xs. Spells xs (document_spelled xs)) c.deref.ensures.value (c.is_document.ensures.only c.if-not-is_document.false)

pub returns-clause-reads : goal.returns-clause-reads
returns-clause-reads c = λ d s. ap Some (document_spelled-is c.args.bytes.items d s)

pub returns-clause-only : goal.returns-clause-only
returns-clause-only c = subst (λ xs. Spells xs (document_spelled xs)) c.deref.ensures.value (c.is_document.ensures.only c.if-not-is_document.false)
