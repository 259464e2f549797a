use Rattle.std.proofs.Common.{◌≡◌, ◌≤◌, drop, length}
use Rattle.path.specs.PathOrder.{path_cmp}
use Rattle.path.proofs.path_order.compare.Given as goal

abbrev pub invariant-parts : goal.invariant-parts
invariant-parts l = record {
  within : l.i ≤ length l.b;
  same : path_cmp (drop l.i l.a) (drop l.i l.b) ≡ path_cmp l.a l.b;
}
