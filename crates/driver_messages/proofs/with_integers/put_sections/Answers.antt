use Rattle.std.proofs.Common.{◌++◌, List, ℕ, ap, ◌∙◌, sym, append-nil}
use Rattle.std.proofs.lemmas.List.{nil_from_length}
use Rattle.driver_messages.proofs.WithIntegersLemmas.{section_put, sections_empty, sections_end}
use Rattle.driver_messages.proofs.with_integers.put_sections.Goals as goal

pub returns-in_default : goal.returns-in_default
returns-in_default c =
    sym (append-nil c.sections.out.items)
    ∙ ap (λ (x : List ℕ). c.sections.out.items ++ x)
    (sections_empty c.args.most c.sections._step c.sections.rest.now c.sections-test.true
    (nil_from_length c.sections.rest.now c.in_default.ensures.cases))
    ∙ c.sections.invariant

pub sections-preserved : goal.sections-preserved
sections-preserved c =
    section_put c.args.most c.sections._step c.in-Some.kind.now c.sections.rest.now c.in-Some.after.now _ _ _ _ _ c.sections-test.true
    c.in-Some.ensures.cases.0 c.split_part.ensures.part c.split_part.ensures.rest c.in_ok-push.ensures.items c.in_ok-put_section.ensures
    ∙ c.sections.invariant

pub returns : goal.returns
returns c =
    c.in_ok-extend_from_slice.ensures.items
    ∙ ap (λ (x : List ℕ). c.sections.out.items ++ x) (sections_end c.args.most c.sections._step c.sections.rest.now c.sections-test.false)
    ∙ c.sections.invariant
