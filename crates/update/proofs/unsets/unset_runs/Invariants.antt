use Rattle.std.proofs.Common.{◌≡◌, length, map}
use Rattle.update_model.specs.Applying.{apply_edits}
use Rattle.update.specs.View.{edit_of}
use Rattle.update.proofs.unsets.unset_runs.Given as goal

abbrev pub decreases-runs : goal.decreases-runs
decreases-runs l = length l.rest

abbrev pub invariant-runs : goal.invariant-runs
invariant-runs l = apply_edits (map edit_of l.rest) l.document ≡ apply_edits (map edit_of l.initial.rest) l.initial.document
