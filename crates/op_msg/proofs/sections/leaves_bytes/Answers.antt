use Rattle.std.proofs.Common.{List, ℕ, sym, ap, ◌∙◌}
use Rattle.std.specs.Prelude.{not}
use Rattle.op_msg.specs.Frame.{part_at, is_more}
use Rattle.op_msg.proofs.SectionWalks.{one_more, all_left, part_shrinks}
use Rattle.op_msg.proofs.sections.leaves_bytes.Goals as goal

pub documents-smaller : goal.documents-smaller
documents-smaller c = part_shrinks c.documents.rest.now (c.in-Ok.field-0-0.now, c.in-Ok.after.now) c.in-Ok.ensures

pub documents-preserved : goal.documents-preserved
documents-preserved c =
    sym (ap (λ (o : List (List ℕ) × List ℕ). o.1)
    (one_more part_at part_shrinks c.documents.rest.now (c.in-Ok.field-0-0.now, c.in-Ok.after.now) c.in-Ok.ensures)) ∙ c.documents.invariant

pub returns : goal.returns
returns c = ap not c.is_empty.ensures
    ∙ ap is_more (sym (all_left part_at c.args.bytes.now c.documents.rest.now c.in_default.field-0 c.documents.invariant c.in_default.ensures))
