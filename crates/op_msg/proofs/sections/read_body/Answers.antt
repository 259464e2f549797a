use Rattle.std.proofs.Common.{List, ℕ, refl, sym, ap, subst, ◌∙◌, length, arith}
use Rattle.op_msg.specs.Frame.{Section, section_at, sections_in, names_of, bodies_of}
use Rattle.op_msg.specs.View.{Finds, section_of, body_with}
use Rattle.op_msg.proofs.SectionWalks.{one_more, no_more, all_left, section_shrinks, only_first, names_counted, one_at_most, no_names, wrong_end}
use Rattle.op_msg.proofs.SectionWalks.{right_sections}
use Rattle.op_msg.proofs.sections.read_body.Goals as goal

pub sections-init : goal.sections-init
sections-init c = (only_first (bodies_of (sections_in c.args.bytes.now).0), omega arith, refl, omega arith)

pub sections-smaller : goal.sections-smaller
sections-smaller c = section_shrinks c.sections.rest.now (section_of c.in-Ok.section, c.in-Ok.after.now) c.in-Ok.ensures

pub sections-preserved : goal.sections-preserved
sections-preserved c =
    let x : Section × List ℕ = (section_of c.in-Ok.section, c.in-Ok.after.now) in
    let others = (sections_in c.in-Ok.after.now).0 in
    let more = one_more section_at section_shrinks c.sections.rest.now x c.in-Ok.ensures in
    let counted = c.with_section-found.ensures.sequences in (
      c.with_section-found.ensures.body others ∙ ap (λ (o : List Section × List ℕ). body_with c.sections.found o.0) (sym more) ∙ c.sections.invariant.0,
      omega (arith, counted, names_counted x.0 others, ap (λ (o : List Section × List ℕ). length (names_of o.0)) more, c.sections.invariant.1),
      sym (ap (λ (o : List Section × List ℕ). o.1) more) ∙ c.sections.invariant.2,
      omega (arith, counted, one_at_most x.0, section_shrinks c.sections.rest.now x c.in-Ok.ensures, c.sections.invariant.3),
    )

pub returns-then-not-is_empty : goal.returns-then-not-is_empty
returns-then-not-is_empty c =
    wrong_end (sections_in c.args.bytes.now) c.sections.rest.now c.is_empty.result
    (all_left section_at c.args.bytes.now c.sections.rest.now c.in_default.field-0 c.sections.invariant.2 c.in_default.ensures) c.is_empty.ensures
    c.if-not-is_empty.true

pub has_name_twice-requires : goal.has_name_twice-requires
has_name_twice-requires c = omega (arith, c.sections.invariant.1, ap length (no_names c.sections.rest.now c.in_default.field-0 c.in_default.ensures))

pub returns : goal.returns
returns c =
    let left = all_left section_at c.args.bytes.now c.sections.rest.now c.in_default.field-0 c.sections.invariant.2 c.in_default.ensures in
    let none = ap (λ (o : List Section × List ℕ). body_with c.sections.found o.0)
    (no_more section_at c.sections.rest.now c.in_default.field-0 c.in_default.ensures) in
    let right = right_sections
    (sections_in c.args.bytes.now) c.sections.rest.now c.is_empty.result c.has_name_twice.result left c.is_empty.ensures c.if-not-is_empty.false
    c.has_name_twice.ensures c.if-has_name_twice.false in
    subst (Finds (λ b. b.now) c.only_body.result) (sym none ∙ c.sections.invariant.0 ∙ right) c.only_body.ensures
