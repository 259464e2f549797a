use Rattle.std.proofs.Common.{◌++◌, List, ℕ, ap, ◌∙◌, sym, append-nil}
use Rattle.driver_messages.proofs.WithIntegersLemmas.{document_put, documents_empty, documents_end}
use Rattle.driver_messages.proofs.with_integers.put_documents.Goals as goal

pub returns-then-is_empty : goal.returns-then-is_empty
returns-then-is_empty c =
    sym (append-nil c.documents.out.items)
    ∙ ap (λ (x : List ℕ). c.documents.out.items ++ x)
    (documents_empty c.args.most c.documents.i c.args.name.now c.documents.rest.now c.documents-test.true (sym c.is_empty.ensures ∙ c.if-is_empty.true))
    ∙ c.documents.invariant

pub documents-preserved : goal.documents-preserved
documents-preserved c =
    document_put c.args.most c.documents.i c.args.name.now c.documents.rest.now _ _ _ _ c.documents-test.true
    (sym c.is_empty.ensures ∙ c.if-is_empty.false) c.split_part.ensures.part c.split_part.ensures.rest c.in_ok-put_item.ensures
    ∙ c.documents.invariant

pub returns : goal.returns
returns c =
    c.in_ok-extend_from_slice.ensures.items
    ∙ ap (λ (x : List ℕ). c.documents.out.items ++ x)
    (documents_end c.args.most c.documents.i c.args.name.now c.documents.rest.now c.documents-test.false)
    ∙ c.documents.invariant
