use Rattle.std.proofs.Common.{◌≤◌, map, drop, length}
use Rattle.tree_model.specs.Keys.{Each, IsNotUnder}
use Rattle.tree_model.specs.EditView.{edit_in}
use Rattle.btree.proofs.changing.edits_from.Given as goal

abbrev pub invariant-loop-from : goal.invariant-loop-from
invariant-loop-from l = record {
  within : l.from ≤ length l.edits;
  behind : Each (λ e. IsNotUnder e.key l.key) (drop l.from (map edit_in l.edits));
}

abbrev pub decreases-loop-from : goal.decreases-loop-from
decreases-loop-from l = l.from
