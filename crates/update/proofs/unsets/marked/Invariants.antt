use Rattle.std.proofs.Common.{◌≡◌, drop, map}
use Rattle.bson.specs.Tree.{no_pairs}
use Rattle.update.specs.Unsets.{marked}
use Rattle.update.specs.View.{edit_of}
use Rattle.update.proofs.unsets.marked.Given as goal

abbrev pub invariant-edits : goal.invariant-edits
invariant-edits l = marked (map edit_of (drop l.edit-index l.edits)) l.marks ≡ marked (map edit_of l.edits) no_pairs
