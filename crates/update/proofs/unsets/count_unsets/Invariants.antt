use Rattle.std.proofs.Common.{◌≡◌, true, take}
use Rattle.std.specs.List.{list_all}
use Rattle.update.specs.Unsets.{is_unset}
use Rattle.update.specs.View.{edit_of}
use Rattle.update.proofs.unsets.count_unsets.Given as goal

abbrev pub invariant-edits : goal.invariant-edits
invariant-edits l = list_all (λ e. is_unset (edit_of e)) (take l.count l.edits) ≡ true
