use Rattle.std.proofs.Common.{◌∙◌, sym}
use Rattle.std.proofs.lemmas.List.{nil_from_length}
use Rattle.driver_messages.proofs.SectionLemmas.{sections-empty, sections-end, sections-found, sections-next}
use Rattle.driver_messages.proofs.sections.foreign_in_sections.Goals as goal

pub returns-in_default : goal.returns-in_default
returns-in_default c =
    sections-empty _ _ c.sections.rest.now c.sections-test.true (nil_from_length c.sections.rest.now c.in_default.ensures.cases) ∙ c.sections.invariant

pub returns-then-is_some : goal.returns-then-is_some
returns-then-is_some c =
    sections-found _ _ c.in-Some.kind.now c.sections.rest.now c.in-Some.after.now _ _ c.sections-test.true c.in-Some.ensures.cases.0 c.split_part.ensures.part
    c.in_ok-found.ensures (sym c.is_some.ensures ∙ c.if-is_some.true) ∙ c.sections.invariant

pub sections-preserved : goal.sections-preserved
sections-preserved c =
    sections-next _ _ c.in-Some.kind.now c.sections.rest.now c.in-Some.after.now _ _ _ c.sections-test.true c.in-Some.ensures.cases.0 c.split_part.ensures.part
    c.split_part.ensures.rest c.in_ok-found.ensures (sym c.is_some.ensures ∙ c.if-is_some.false) ∙ c.sections.invariant

pub returns : goal.returns
returns c = sections-end _ _ c.sections.rest.now c.sections-test.false ∙ c.sections.invariant
