use Rattle.std.proofs.Common.{ap, ◌∙◌}
use Rattle.byteorder.specs.Endian.{little_number}
use Rattle.roots.proofs.OpeningRules.{fields_is, behind}
use Rattle.roots.proofs.root.Root.fields.Goals as goal

pub returns : goal.returns
returns c =
    let s = c.args.sector.now in
    fields_is s _ (c.read_u64.ensures ∙ ap (little_number 8) (behind 16 s)) (c.read_u32.ensures ∙ ap (little_number 4) (behind 24 s))
    (c.read_u32-2.ensures ∙ ap (little_number 4) (behind 28 s)) (c.read_u32-3.ensures ∙ ap (little_number 4) (behind 32 s))
    (c.read_u32-4.ensures ∙ ap (little_number 4) (behind 36 s))
