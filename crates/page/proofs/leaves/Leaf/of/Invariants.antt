use Rattle.std.proofs.Common.{◌≡◌, map, take}
use Rattle.std.specs.List.{flat_map}
use Rattle.page.specs.Content.{item_size}
use Rattle.page.specs.Format.{item_bytes}
use Rattle.page.specs.CellView.{item_of}
use Rattle.page.specs.Kept.{starts}
use Rattle.page.proofs.leaves.Leaf.of.Given as goal

abbrev pub invariant-loop-cell : goal.invariant-loop-cell
invariant-loop-cell l = record {
  bytes : l.bytes.items ≡ flat_map item_bytes (take l.cell-index (map item_of l.cells));
  places : l.places.items ≡ starts item_size 0 (take l.cell-index (map item_of l.cells));
}
