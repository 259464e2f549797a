use Rattle.std.proofs.Common.{◌≡◌, true, take}
use Rattle.std.specs.List.{list_all}
use Rattle.update.specs.Renaming.{is_rename_below}
use Rattle.update.specs.View.{edit_of}
use Rattle.update.proofs.renaming.count_renames_below.Given as goal

abbrev pub invariant-edits : goal.invariant-edits
invariant-edits l = list_all (λ e. is_rename_below l.parent (edit_of e)) (take l.count l.edits) ≡ true
