use Rattle.std.proofs.Common.{◌≡◌, ◌++◌, length, map, take}
use Rattle.std.specs.List.{flat_map}
use Rattle.page.specs.Content.{pivot_size}
use Rattle.page.specs.Format.{pivot_bytes}
use Rattle.page.specs.CellView.{pivot_of}
use Rattle.page.specs.Kept.{starts}
use Rattle.page.proofs.cells.append_children.Given as goal

abbrev pub invariant-loop-child : goal.invariant-loop-child
invariant-loop-child l = record {
  bytes : l.bytes.items ≡ l.initial.bytes.items ++ flat_map pivot_bytes (take l.child-index (map pivot_of l.children));
  places : l.places.items ≡ l.initial.places.items
      ++ starts pivot_size (length l.initial.bytes.items) (take l.child-index (map pivot_of l.children));
}
