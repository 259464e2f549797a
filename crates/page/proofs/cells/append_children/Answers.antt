use Rattle.std.proofs.Common.{◌≡◌, ◌+◌, ◌++◌, ◌∷◌, [], ℕ, List, length, map, take, get_or, ap, ◌∙◌, arith}
use Rattle.std.proofs.Common.{length-append, append_assoc}
use Rattle.std.specs.List.{flat_map}
use Rattle.page.specs.Content.{Pivot, IsPivot, pivot_size, total}
use Rattle.page.specs.Format.{pivot_bytes}
use Rattle.page.specs.Kept.{starts}
use Rattle.page.specs.CellView.{pivot_of}
use Rattle.page.specs.declared.cells.Child.{Child}
use Rattle.page.proofs.PlaceLemmas.{length-joined, total_take}
use Rattle.page.proofs.CellLemmas.{length-pivot}
use Rattle.page.proofs.MakingLemmas.{all_taken, bytes_more, places_more, sound_at}
use Rattle.page.proofs.cells.append_children.Goals as goal

abbrev none : Child
none = record { key = record { ref_ptr = (0, 0); now = [] }; page = 0 }

at_is : (pivots : List Pivot) (start bytes : List ℕ) (n : ℕ) → bytes ≡ start ++ flat_map pivot_bytes pivots → n ≡ length bytes
    → n ≡ length start + total pivot_size pivots
at_is pivots start bytes n is len =
    omega (
      arith,
      len,
      ap (λ (l : List ℕ). length l) is,
      length-append start (flat_map pivot_bytes pivots),
      length-joined pivot_bytes pivot_size length-pivot
          pivots,
    )

pub note_place-requires : goal.note_place-requires
note_place-requires c =
    let i = c.loop-child.child-index in
    let pivots = map pivot_of c.args.children.now in
    omega (
      arith,
      at_is (take i pivots) c.args.bytes.now.items c.loop-child.bytes.items c.len.result c.loop-child.invariant.bytes
          (omega (arith, c.len.ensures, c.loop-child.bytes.ok)),
      total_take pivot_size i pivots,
      c.requires.room,
    )

pub append_to-requires : goal.append_to-requires
append_to-requires c = sound_at pivot_of c.args.children.now c.loop-child.child-index _ (omega arith) IsPivot c.requires.each

pub loop-child-preserved : goal.loop-child-preserved
loop-child-preserved c =
    let children = c.args.children.now in
    let i = c.loop-child.child-index in
    let pivots = map pivot_of children in
    let start = c.args.bytes.now.items in
    let places = c.args.places.now.items in
    let is = at_is (take i pivots) start c.loop-child.bytes.items c.len.result c.loop-child.invariant.bytes
    (omega (arith, c.len.ensures, c.loop-child.bytes.ok)) in
    record {
      bytes =
          c.in_ok-append_to.ensures ∙ ap (λ (l : List ℕ). l ++ pivot_bytes (pivot_of (get_or children i none))) c.loop-child.invariant.bytes
          ∙ append_assoc start (flat_map pivot_bytes (take i pivots)) (pivot_bytes (pivot_of (get_or children i none)))
          ∙ ap (λ (l : List ℕ). start ++ l) (bytes_more pivot_of children i none (omega arith) pivot_bytes);
      places =
          c.in_ok-note_place.ensures ∙ ap (λ (l : List ℕ). l ++ c.len.result ∷ []) c.loop-child.invariant.places
          ∙ append_assoc places (starts pivot_size (length start) (take i pivots)) (c.len.result ∷ [])
          ∙ ap (λ (l : List ℕ). places ++ l) (places_more pivot_of children i none (omega arith) pivot_size (length start) c.len.result is);
    }

pub returns-clause-bytes : goal.returns-clause-bytes
returns-clause-bytes c =
    c.loop-child.invariant.bytes
    ∙ ap (λ (l : List Pivot). c.args.bytes.now.items ++ flat_map pivot_bytes l) (all_taken pivot_of c.args.children.now c.loop-child.child-index (omega arith))

pub returns-clause-places : goal.returns-clause-places
returns-clause-places c =
    c.loop-child.invariant.places
    ∙ ap (λ (l : List Pivot). c.args.places.now.items ++ starts pivot_size (length c.args.bytes.now.items) l)
    (all_taken pivot_of c.args.children.now c.loop-child.child-index (omega arith))
