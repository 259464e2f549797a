use Rattle.update.proofs.RenameInsideLemmas.{renames_inside}
use Rattle.update.proofs.renaming.rename_below.Goals as goal

pub returns : goal.returns
returns c =
    renames_inside c.args.parent.now c.args.edits.now c.args.source c.in_ok-change_below.field-0 c.requires.below c.requires.no_array
    c.levels-levels.ensures.lawful.depth c.in_ok-change_below.ensures
