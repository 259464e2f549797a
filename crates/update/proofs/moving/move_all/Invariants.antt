use Rattle.std.proofs.Common.{◌≡◌, drop, map}
use Rattle.path.specs.Edits.{if_ok}
use Rattle.update_model.specs.Applying.{apply_edits}
use Rattle.update.specs.Moving.{all_moved}
use Rattle.update.specs.View.{edit_of}
use Rattle.update.proofs.moving.move_all.Given as goal

abbrev pub invariant-edits : goal.invariant-edits
invariant-edits l =
    if_ok (all_moved l.moving) (apply_edits (map edit_of (drop l.edit-index l.edits))) ≡ apply_edits (map edit_of l.edits) l.fn.document
