use Rattle.std.proofs.Common.{◌≡◌, map, take}
use Rattle.tree_model.specs.View.{item_in}
use Rattle.btree.proofs.taking_apart.leaf_cells.Given as goal

abbrev pub invariant-loop-i : goal.invariant-loop-i
invariant-loop-i l = map item_in l.cells.items ≡ take l.i l.leaf
