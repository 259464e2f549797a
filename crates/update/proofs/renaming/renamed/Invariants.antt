use Rattle.std.proofs.Common.{◌≡◌, drop, map}
use Rattle.update.specs.Renaming.{renamed}
use Rattle.update.specs.View.{edit_of}
use Rattle.update.proofs.renaming.renamed.Given as goal

abbrev pub invariant-edits : goal.invariant-edits
invariant-edits l = renamed (map edit_of (drop l.edit-index l.edits)) l.renaming ≡ renamed (map edit_of l.edits) l.fn.document
