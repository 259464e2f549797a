use Rattle.std.proofs.Common.{List, ap, ◌∙◌}
use Rattle.std.proofs.lemmas.Result.{err_from_is_err_and}
use Rattle.bson.specs.EditPlaces.{append-none}
use Rattle.bson.specs.View.{pairs_of}
use Rattle.bson.specs.Tree.{Pairs}
use Rattle.bson.specs.declared.value.Pair.{Pair}
use Rattle.op_msg.specs.Frame.{sections_in, sequences_of}
use Rattle.op_msg.specs.Request.{with_sequences}
use Rattle.op_msg.specs.View.{section_of, joined}
use Rattle.op_msg.proofs.SectionWalks.{section_shrinks, section_named}
use Rattle.op_msg.proofs.Joining.{joining_start, section_more, section_fails, sections_over}
use Rattle.op_msg.proofs.request.read_added.Goals as goal

pub sections-init : goal.sections-init
sections-init c = (
  ap (λ (added : List Pair). with_sequences (joined (pairs_of c.args.fields.now) added) (sequences_of (sections_in c.args.sections.now).0))
      c.new-added.ensures.items
      ∙ ap (λ (ps : Pairs). with_sequences ps (sequences_of (sections_in c.args.sections.now).0)) (append-none (pairs_of c.args.fields.now)),
  joining_start c.args.fields.now c.in-Ok.names c.new-added.result.items c.requires c.in-Ok.ensures c.new-added.ensures.items,
)

pub add_section-requires : goal.add_section-requires
add_section-requires c =
    section_named c.sections.rest.now (section_of c.in-Ok-read_section.section, c.in-Ok-read_section.after.now) c.in-Ok-read_section.ensures

pub returns-in_err-add_section-clause-gives : goal.returns-in_err-add_section-clause-gives
returns-in_err-add_section-clause-gives c =
    let p = err_from_is_err_and c.from_residual.result c.from_residual.ensures.1 in
    rw (p.1, p.2)
    (section_fails (joined (pairs_of c.args.fields.now) c.sections.added.items) c.sections.rest.now
    (section_of c.in-Ok-read_section.section, c.in-Ok-read_section.after.now)
    (with_sequences (pairs_of c.args.fields.now) (sequences_of (sections_in c.args.sections.now).0))
    c.sections.invariant.0 c.in-Ok-read_section.ensures c.in_err-add_section.field-0.0
    (c.in_err-add_section.ensures.does (pairs_of c.args.fields.now) c.sections.invariant.1))

pub sections-smaller : goal.sections-smaller
sections-smaller c = section_shrinks c.sections.rest.now (section_of c.in-Ok-read_section.section, c.in-Ok-read_section.after.now) c.in-Ok-read_section.ensures

pub sections-preserved : goal.sections-preserved
sections-preserved c = (
  section_more (joined (pairs_of c.args.fields.now) c.sections.added.items) c.sections.rest.now
      (section_of c.in-Ok-read_section.section, c.in-Ok-read_section.after.now)
      (with_sequences (pairs_of c.args.fields.now) (sequences_of (sections_in c.args.sections.now).0)) c.sections.invariant.0
      c.in-Ok-read_section.ensures (joined (pairs_of c.args.fields.now) c.add_section.new.added.items)
      (c.in_ok-add_section.ensures.does (pairs_of c.args.fields.now) c.sections.invariant.1),
  c.in_ok-add_section.ensures.joining (pairs_of c.args.fields.now) c.sections.invariant.1,
)

pub returns-clause-gives : goal.returns-clause-gives
returns-clause-gives c =
    sections_over (joined (pairs_of c.args.fields.now) c.sections.added.items) c.sections.rest.now
    (with_sequences (pairs_of c.args.fields.now) (sequences_of (sections_in c.args.sections.now).0)) c.in_default-read_section.field-0 c.sections.invariant.0
    c.in_default-read_section.ensures
