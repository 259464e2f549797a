use Rattle.std.proofs.Common.{sym, ap, ◌∙◌}
use Rattle.byteorder.specs.Endian.{little_number}
use Rattle.page.specs.Format.{are_zeros}
use Rattle.roots.specs.Root.{is_possible}
use Rattle.roots.proofs.OpeningRules.{sound_is, behind}
use Rattle.roots.proofs.root.Root.is_sound.Goals as goal

pub returns : goal.returns
returns c =
    let s = c.args.sector.now in
    sound_is s c.is_all_zero.result (sym (c.read_u32.ensures ∙ ap (little_number 4) (behind 8 s)) ∙ c.if-read_u32-ne-FORMAT.false)
    (sym (c.read_u32-2.ensures ∙ ap (little_number 4) (behind 12 s)) ∙ c.if-read_u32-ne-PAGE_SIZE.false)
    (ap is_possible (sym c.fields.ensures) ∙ sym c.is_possible.ensures ∙ c.if-not-is_possible.false) (c.is_all_zero.ensures ∙ ap are_zeros (behind 40 s))
