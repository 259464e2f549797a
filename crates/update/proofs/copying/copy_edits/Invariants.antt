use Rattle.std.proofs.Common.{◌≡◌, ◌++◌, drop, map}
use Rattle.update.specs.View.{edit_of}
use Rattle.update.proofs.copying.copy_edits.Given as goal

abbrev pub invariant-edits : goal.invariant-edits
invariant-edits l = map edit_of l.all.items ++ map edit_of (drop l.edit-index l.edits) ≡ map edit_of l.edits
