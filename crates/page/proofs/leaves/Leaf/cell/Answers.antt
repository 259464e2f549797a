use Rattle.std.proofs.Common.{◌≡◌, ◌<◌, ◌-◌, ℕ, List, length, take, drop, get_or, sym, ap, ◌∙◌, arith}
use Rattle.std.specs.Prelude.{Some, slice_get}
use Rattle.std.proofs.lemmas.List.{length-map, get_or_default}
use Rattle.page.specs.Content.{Item}
use Rattle.page.specs.Format.{item_in}
use Rattle.page.specs.CellView.{item_of}
use Rattle.page.proofs.ReadLemmas.{cell_at, slice_same}
use Rattle.page.proofs.leaves.Leaf.cell.Goals as goal

-- the cell at a place, as the code reads it
read_at : (bytes all places : List ℕ) (i at : ℕ) (item : Item) → all ≡ bytes → i < length places → at ≡ get_or places i at
    → item ≡ item_in (take (length all - at) (drop at all))
    → item_in (drop (get_or places i 0) bytes) ≡ item
read_at bytes all places i at item same within is found =
    let place : get_or places i 0 ≡ at = get_or_default places i 0 at within ∙ sym is in
    ap (λ (n : ℕ). item_in (drop n bytes)) place
    ∙ ap (λ (l : List ℕ). item_in (drop at l)) (sym same)
    ∙ ap item_in (sym (slice_same at all)) ∙ sym found

pub returns : goal.returns
returns c =
    let bytes = c.self.inside.bytes.items in
    let places = c.self.inside.places.items in
    let view : ℕ → Item = λ at. item_in (drop at bytes) in
    let within : c.args.i < length places = omega (arith, c.requires, ap (λ (l : List Item). length l) (sym c.self.view_is), length-map places view) in
    ap (λ (l : List Item). slice_get l c.args.i) (sym c.self.view_is)
    ∙ cell_at view places c.args.i within
    ∙ ap (λ (x : Item). Some x)
    (read_at bytes c.deref.result.now places c.args.i c.index.result.now
    (item_of c.leaf_cell.result) c.deref.ensures.value within c.index.ensures c.leaf_cell.ensures)
