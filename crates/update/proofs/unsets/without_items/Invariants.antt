use Rattle.std.proofs.Common.{◌≡◌, drop, map}
use Rattle.update.specs.Unsets.{without_items}
use Rattle.update.specs.View.{edit_of}
use Rattle.update.proofs.unsets.without_items.Given as goal

abbrev pub invariant-edits : goal.invariant-edits
invariant-edits l = without_items (map edit_of (drop l.edit-index l.edits)) l.array ≡ without_items (map edit_of l.edits) l.fn.array
