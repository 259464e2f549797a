use Rattle.std.proofs.Common.{◌≡◌, ◌≤◌, ◌-◌}
use Rattle.page.specs.CellView.{size_by}
use Rattle.page.specs.Format.{places_in}
use Rattle.page.proofs.PlaceLemmas.{with_front}
use Rattle.page.proofs.cells.places_of.Given as goal

abbrev pub invariant-loop : goal.invariant-loop
invariant-loop l = record {
  room : l.at ≤ 4080;
  left : places_in (size_by l.form) l.count l.start l.bytes
      ≡ with_front l.places.items (places_in (size_by l.form) (l.count - l.counter) l.at l.bytes);
}
