use Rattle.std.proofs.Common.{◌∙◌, sym}
use Rattle.driver_messages.proofs.SectionLemmas.{documents-empty, documents-end, documents-found, documents-next}
use Rattle.driver_messages.proofs.sections.in_documents.Goals as goal

pub returns-then-is_empty : goal.returns-then-is_empty
returns-then-is_empty c =
    documents-empty _ _ c.args.name.now c.documents.rest.now c.documents-test.true (sym c.is_empty.ensures ∙ c.if-is_empty.true) ∙ c.documents.invariant

pub returns-then-is_some : goal.returns-then-is_some
returns-then-is_some c =
    documents-found _ _ c.args.name.now c.documents.rest.now _ _ c.documents-test.true
    (sym c.is_empty.ensures ∙ c.if-is_empty.false) c.split_part.ensures.part c.in_ok-found.ensures (sym c.is_some.ensures ∙ c.if-is_some.true)
    ∙ c.documents.invariant

pub documents-preserved : goal.documents-preserved
documents-preserved c =
    documents-next _ _ c.args.name.now c.documents.rest.now _ _ _ c.documents-test.true
    (sym c.is_empty.ensures ∙ c.if-is_empty.false) c.split_part.ensures.part c.split_part.ensures.rest c.in_ok-found.ensures
    (sym c.is_some.ensures ∙ c.if-is_some.false) ∙ c.documents.invariant

pub returns : goal.returns
returns c = documents-end _ _ c.args.name.now c.documents.rest.now c.documents-test.false ∙ c.documents.invariant
