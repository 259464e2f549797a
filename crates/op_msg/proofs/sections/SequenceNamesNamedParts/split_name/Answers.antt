use Rattle.std.proofs.Common.{List, ℕ, ◌∷◌, sym, ap, ◌∙◌, arith}
use Rattle.op_msg.specs.Frame.{Section, sections_in, names_of}
use Rattle.op_msg.specs.View.{section_of}
use Rattle.op_msg.specs.declared.sections.Section.{Section as SectionRead}
use Rattle.op_msg.proofs.SectionWalks.{section_shrinks, names_here, no_names}
use Rattle.op_msg.proofs.sections.SequenceNamesNamedParts.split_name.Goals as goal

pub returns-in-Sequence : goal.returns-in-Sequence
returns-in-Sequence c =
    let x : Section × List ℕ = (section_of c.in-Ok.section, c.in-Ok.after.now) in (
      sym c.sections.invariant.0 ∙ names_here c.sections.rest.now x c.in-Ok.ensures
          ∙ ap (λ (s : SectionRead). names_of (section_of s ∷ (sections_in c.in-Ok.after.now).0)) c.in-Sequence.is
          ∙ ap (λ (name : List ℕ). name ∷ names_of (sections_in c.in-Ok.after.now).0) (sym c.as_bytes.ensures.value),
      omega (arith, section_shrinks c.sections.rest.now x c.in-Ok.ensures, c.sections.invariant.1),
    )

pub sections-smaller : goal.sections-smaller
sections-smaller c = section_shrinks c.sections.rest.now (section_of c.in-Ok.section, c.in-Ok.after.now) c.in-Ok.ensures

pub sections-preserved : goal.sections-preserved
sections-preserved c =
    let x : Section × List ℕ = (section_of c.in-Ok.section, c.in-Ok.after.now) in (
      sym (names_here c.sections.rest.now x c.in-Ok.ensures
          ∙ ap (λ (s : SectionRead). names_of (section_of s ∷ (sections_in c.in-Ok.after.now).0)) c.in-Body.is) ∙ c.sections.invariant.0,
      omega (arith, section_shrinks c.sections.rest.now x c.in-Ok.ensures, c.sections.invariant.1),
    )

pub returns : goal.returns
returns c = sym c.sections.invariant.0 ∙ no_names c.sections.rest.now c.in_default.field-0 c.in_default.ensures
