use Rattle.std.proofs.Common.{◌≡◌, ◌++◌, ◌∷◌, [], ℕ, List, ◌-◌, length, map, take, get_or, replicate, sym, ap, ◌∙◌, subst, arith, vec_len}
use Rattle.std.specs.List.{flat_map}
use Rattle.page.specs.Content.{Item, IsItem, IsLeaf, item_size, total}
use Rattle.page.specs.Format.{item_bytes, items_at, body_and_zeros}
use Rattle.page.specs.Kept.{KeepsLeaf, starts}
use Rattle.page.specs.CellView.{item_of}
use Rattle.page.specs.declared.cells.Cell.{Cell}
use Rattle.page.specs.declared.cells.Stored.TheVariants.{Inline}
use Rattle.page.proofs.PlaceLemmas.{total_take, length-joined}
use Rattle.page.proofs.CellLemmas.{length-item}
use Rattle.page.proofs.KeptLemmas.{leaf_again, leaf_made}
use Rattle.page.proofs.MakingLemmas.{all_taken, filled, sound_at, bytes_more, places_more}
use Rattle.page.proofs.leaves.Leaf.of.Goals as goal

-- how many bytes there are so far
at_is : (items : List Item) (bytes : List ℕ) (n : ℕ) → bytes ≡ flat_map item_bytes items → n ≡ length bytes → n ≡ total item_size items
at_is items bytes n is len = omega (arith, len, ap (λ (l : List ℕ). length l) is, length-joined item_bytes item_size length-item items)

pub note_place-requires : goal.note_place-requires
note_place-requires c =
    let items = map item_of c.args.cells.now in
    let i = c.loop-cell.cell-index in
    omega (
      arith,
      at_is (take i items) c.loop-cell.bytes.items c.len.result c.loop-cell.invariant.bytes (omega (arith, c.len.ensures, c.loop-cell.bytes.ok)),
      total_take item_size i items,
      c.requires.room,
    )

abbrev none : Cell
none = record { key = record { ref_ptr = (0, 0); now = [] }; stored = Inline (record { ref_ptr = (0, 0); now = [] }) }

pub append_to-requires : goal.append_to-requires
append_to-requires c = sound_at item_of c.args.cells.now c.loop-cell.cell-index _ (omega arith) IsItem c.requires.each

pub loop-cell-preserved : goal.loop-cell-preserved
loop-cell-preserved c =
    let cells = c.args.cells.now in
    let i = c.loop-cell.cell-index in
    let is = at_is (take i (map item_of cells)) c.loop-cell.bytes.items c.len.result c.loop-cell.invariant.bytes
    (omega (arith, c.len.ensures, c.loop-cell.bytes.ok)) in
    record {
      bytes =
          c.in_ok-append_to.ensures ∙ ap (λ (l : List ℕ). l ++ item_bytes (item_of (get_or cells i none))) c.loop-cell.invariant.bytes
          ∙ bytes_more item_of cells i none (omega arith) item_bytes;
      places =
          c.in_ok-note_place.ensures ∙ ap (λ (l : List ℕ). l ++ c.len.result ∷ []) c.loop-cell.invariant.places
          ∙ places_more item_of cells i none (omega arith) item_size 0 c.len.result (omega (arith, is));
    }

module _ (items : List Item) (sound : IsLeaf items) (bytes new places : List ℕ) (n : ℕ) (is : bytes ≡ flat_map item_bytes items)
    (at : places ≡ starts item_size 0 items)
    (len : n ≡ length bytes) (made : new ≡ take 4080 bytes ++ replicate (4080 - n) 0) where
  whole : new ≡ body_and_zeros (flat_map item_bytes items)
  whole = filled bytes (flat_map item_bytes items) new n is len (omega (arith, sound.room, length-joined item_bytes item_size length-item items)) made

  keeps : KeepsLeaf new places
  keeps = subst (KeepsLeaf new) (sym at) (leaf_made items sound new whole)

  gives : items_at new places ≡ items
  gives = ap (items_at new) at ∙ leaf_again items sound new whole

pub invariant_of-result : goal.invariant_of-result
invariant_of-result c =
    let cells = c.args.cells.now in
    let all = all_taken item_of cells c.loop-cell.cell-index (omega arith) in
    keeps (map item_of cells) c.requires c.loop-cell.bytes.items c.resize.new.self.items c.loop-cell.places.items (vec_len c.loop-cell.bytes)
    (c.loop-cell.invariant.bytes ∙ ap (flat_map item_bytes) all) (c.loop-cell.invariant.places ∙ ap (starts item_size 0) all)
    (omega (arith, c.loop-cell.bytes.ok)) c.in_ok-resize.ensures.items

pub returns : goal.returns
returns c =
    let cells = c.args.cells.now in
    let all = all_taken item_of cells c.loop-cell.cell-index (omega arith) in
    gives (map item_of cells) c.requires c.loop-cell.bytes.items c.resize.new.self.items c.loop-cell.places.items (vec_len c.loop-cell.bytes)
    (c.loop-cell.invariant.bytes ∙ ap (flat_map item_bytes) all) (c.loop-cell.invariant.places ∙ ap (starts item_size 0) all)
    (omega (arith, c.loop-cell.bytes.ok)) c.in_ok-resize.ensures.items
