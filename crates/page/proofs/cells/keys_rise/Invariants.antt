use Rattle.std.proofs.Common.{◌≡◌, map, drop}
use Rattle.page.specs.Content.{rise_above}
use Rattle.page.specs.CellView.{key_by}
use Rattle.page.proofs.cells.keys_rise.Given as goal

abbrev pub invariant-loop-at : goal.invariant-loop-at
invariant-loop-at l =
    rise_above l.fn.above (map (λ at. key_by l.form (drop at l.bytes)) l.places)
    ≡ rise_above l.last (map (λ at. key_by l.form (drop at l.bytes)) (drop l.at-index l.places))
