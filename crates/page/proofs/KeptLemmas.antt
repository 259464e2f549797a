-- What a leaf and a branch keep, where their bytes were read and where they were written.
use Rattle.std.proofs.Common.{◌≡◌, ℕ, ◌+◌, ◌-◌, ◌*◌, ◌<◌, ◌≤◌, true, List, [], ◌∷◌, ◌++◌, length, map, take, drop, replicate, refl, sym, ap, ◌∙◌, subst, arith}
use Rattle.std.proofs.Common.{append_assoc, length-append, length-drop}
use Rattle.std.specs.Prelude.{Ok}
use Rattle.std.specs.List.{AllByRecursion, flat_map}
use Rattle.std.proofs.lemmas.List.{length-map, length-replicate, take-append-drop}
use Rattle.byteorder.specs.Endian.{little_bytes, little_number}
use Rattle.byteorder.specs.Numbers.{little_number-reads_back, little_from-lt}
use Rattle.page.specs.Content.{Item, Pivot, IsItem, IsPivot, IsLeaf, IsBranch, item_size, pivot_size, pivots_size, total, item_keys, pivot_keys, rise}
use Rattle.page.specs.Format.{item_bytes, pivot_bytes, pivots_bytes, leaf_cell_size, branch_cell_size, item_in, pivot_in, items_at, pivots_at, body_and_zeros}
use Rattle.page.specs.Format.{places_in}
use Rattle.page.specs.Kept.{IsWhole, KeepsLeaf, KeepsBranch, starts}
use Rattle.page.proofs.PlaceLemmas.{AreBytes, Found, found, bytes_drop, length-joined, read_again, whole_again}
use Rattle.page.proofs.CellLemmas.{leaf_spelled, leaf_item, length-item, item_back, item_size_back, pivot_spelled, pivot_sound, length-pivot, pivot_back}
use Rattle.page.proofs.CellLemmas.{pivot_size_back}
use Rattle.page.proofs.CellLemmas.{four_again}

pub zeros_same : (bytes body : List ℕ) (zeros : ℕ) → bytes ≡ body ++ replicate zeros 0 → length bytes ≡ 4080 → bytes ≡ body_and_zeros body
zeros_same bytes body zeros is len =
    let all : length body + zeros ≡ 4080 =
    omega (arith, sym (ap (λ (l : List ℕ). length l) is), len, length-append body (replicate {A = ℕ} zeros 0), length-replicate {A = ℕ} zeros 0) in
    let e : zeros ≡ 4080 - length body = omega arith in
    is ∙ ap (λ (n : ℕ). body ++ replicate n 0) e

body_room : (bytes body : List ℕ) (zeros : ℕ) → bytes ≡ body ++ replicate zeros 0 → length body ≤ length bytes
body_room bytes body zeros is = omega (arith, ap (λ (l : List ℕ). length l) is, length-append body (replicate {A = ℕ} zeros 0))

pub body_len : (body : List ℕ) → length body ≤ 4080 → length (body_and_zeros body) ≡ 4080
body_len body room = omega (arith, length-append body (replicate {A = ℕ} (4080 - length body) 0), length-replicate {A = ℕ} (4080 - length body) 0)

-- ---- leaves

module _ (bytes : List ℕ) (len : length bytes ≡ 4080) (small : AreBytes bytes) where
  leaf_whole : (places : List ℕ)
      → AllByRecursion (λ (p : ℕ). (p + leaf_cell_size (drop p bytes) ≤ length bytes) × (leaf_cell_size (drop p bytes) ≤ 1360)) places
      → AllByRecursion (IsWhole leaf_cell_size bytes) places
  leaf_whole [] all = tt
  leaf_whole (p ∷ ps) ((fits, near), all) = (omega (arith, fits, len), leaf_whole ps all)

  leaf_items : (places : List ℕ)
      → AllByRecursion (λ (p : ℕ). (p + leaf_cell_size (drop p bytes) ≤ length bytes) × (leaf_cell_size (drop p bytes) ≤ 1360)) places
      → AllByRecursion IsItem (items_at bytes places)
  leaf_items [] all = tt
  leaf_items (p ∷ ps) ((fits, near), all) =
      (leaf_item (drop p bytes) (bytes_drop p bytes small) (omega (arith, fits, length-drop p bytes)) near, leaf_items ps all)

  module _ (count : ℕ) (places : List ℕ) (is : places_in leaf_cell_size count 0 bytes ≡ Ok places) where
    leaf_found : Found leaf_cell_size item_in item_bytes bytes count 0 places
    leaf_found = found leaf_cell_size item_in item_bytes (λ b s f. leaf_spelled b s f) (λ b. omega arith) bytes count 0 places small (omega arith) is

    pub leaf_count : length places ≡ count
    leaf_count = leaf_found.count

    pub leaf_all_whole : AllByRecursion (IsWhole leaf_cell_size bytes) places
    leaf_all_whole = leaf_whole places leaf_found.whole

    pub leaf_kept : 0 < count → rise (item_keys (items_at bytes places)) ≡ true → KeepsLeaf bytes places
    leaf_kept some ascending = record {
      len = len;
      whole = leaf_all_whole;
      sound = record {
        some = omega (arith, leaf_count, length-map places (λ (at : ℕ). item_in (drop at bytes)));
        each = leaf_items places leaf_found.whole;
        ascending = ascending;
        room = omega (
          arith,
          len,
          body_room bytes (flat_map item_bytes (items_at bytes places)) leaf_found.zeros leaf_found.spelled,
          length-joined item_bytes item_size length-item (items_at bytes places),
        );
      };
      spelled = zeros_same bytes (flat_map item_bytes (items_at bytes places)) leaf_found.zeros leaf_found.spelled len;
      placed = leaf_found.placed ∙ (λ i. starts (λ x. length-item x i) 0 (items_at bytes places));
    }

module _ (items : List Item) (sound : IsLeaf items) (bytes : List ℕ) (is : bytes ≡ body_and_zeros (flat_map item_bytes items)) where
  pub leaf_again : items_at bytes (starts item_size 0 items) ≡ items
  leaf_again =
      read_again leaf_cell_size item_in item_bytes item_size IsItem length-item (λ x r s. item_back x r s) (λ x r s. item_size_back x r s) bytes 0 items
      (replicate (4080 - length (flat_map item_bytes items)) 0) sound.each is

  pub leaf_made : KeepsLeaf bytes (starts item_size 0 items)
  leaf_made = record {
    len = ap (λ (l : List ℕ). length l) is
        ∙ body_len (flat_map item_bytes items) (omega (arith, sound.room, length-joined item_bytes item_size length-item items));
    whole = whole_again leaf_cell_size item_in item_bytes item_size IsItem length-item (λ x r s. item_back x r s) (λ x r s. item_size_back x r s) bytes 0 items
        (replicate (4080 - length (flat_map item_bytes items)) 0) sound.each is (omega (arith, sound.room));
    sound = subst IsLeaf (sym leaf_again) sound;
    spelled = is ∙ ap (λ (l : List Item). body_and_zeros (flat_map item_bytes l)) (sym leaf_again);
    placed = ap (starts item_size 0) (sym leaf_again);
  }

-- ---- branches

module _ (bytes : List ℕ) (len : length bytes ≡ 4080) (small : AreBytes bytes) where
  branch_whole : (places : List ℕ)
      → AllByRecursion (λ (p : ℕ). (p + branch_cell_size (drop p bytes) ≤ length bytes) × (branch_cell_size (drop p bytes) ≤ 1360)) places
      → AllByRecursion (IsWhole branch_cell_size bytes) places
  branch_whole [] all = tt
  branch_whole (p ∷ ps) ((fits, near), all) = (omega (arith, fits, len), branch_whole ps all)

  branch_pivots : (places : List ℕ)
      → AllByRecursion (λ (p : ℕ). (p + branch_cell_size (drop p bytes) ≤ length bytes) × (branch_cell_size (drop p bytes) ≤ 1360)) places
      → AllByRecursion IsPivot (map (λ at. pivot_in (drop at bytes)) places)
  branch_pivots [] all = tt
  branch_pivots (p ∷ ps) ((fits, near), all) =
      (pivot_sound (drop p bytes) (bytes_drop p bytes small) (omega (arith, fits, length-drop p bytes)) near, branch_pivots ps all)

  module _ (count : ℕ) (places : List ℕ) (is : places_in branch_cell_size count 4 bytes ≡ Ok places) where
    branch_found : Found branch_cell_size pivot_in pivot_bytes bytes count 4 places
    branch_found = found branch_cell_size pivot_in pivot_bytes (λ b s f. pivot_spelled b s f) (λ b. omega arith) bytes count 4 places small
        (omega (arith, len)) is

    pub branch_count : length places ≡ count
    branch_count = branch_found.count

    pub branch_all_whole : AllByRecursion (IsWhole branch_cell_size bytes) places
    branch_all_whole = branch_whole places branch_found.whole

    branch_spelled : bytes ≡ pivots_bytes (pivots_at bytes places) ++ replicate branch_found.zeros 0
    branch_spelled =
        sym (take-append-drop 4 bytes)
        ∙ ap (λ (l : List ℕ). take 4 bytes ++ l) branch_found.spelled
        ∙ ap (λ (l : List ℕ). l ++ (flat_map pivot_bytes (map (λ at. pivot_in (drop at bytes)) places) ++ replicate branch_found.zeros 0))
        (sym (four_again bytes small (omega (arith, len))))
        ∙ sym (append_assoc (little_bytes 4 (little_number 4 bytes)) (flat_map pivot_bytes (map (λ at. pivot_in (drop at bytes)) places))
        (replicate branch_found.zeros 0))

    pub branch_kept : 1 ≤ count → rise (pivot_keys (pivots_at bytes places)) ≡ true → KeepsBranch bytes places
    branch_kept some ascending = record {
      len = len;
      whole = branch_all_whole;
      sound = record {
        some = omega (arith, branch_count, length-map places (λ (at : ℕ). pivot_in (drop at bytes)));
        bare = refl;
        each = (record { size = omega arith; child = omega (arith, little_from-lt 0 4 bytes small) }, branch_pivots places branch_found.whole);
        ascending = ascending;
        room = omega (
          arith,
          len,
          body_room bytes (pivots_bytes (pivots_at bytes places)) branch_found.zeros branch_spelled,
          length-joined pivot_bytes pivot_size length-pivot (map (λ at. pivot_in (drop at bytes)) places),
        );
      };
      spelled = zeros_same bytes (pivots_bytes (pivots_at bytes places)) branch_found.zeros branch_spelled len;
      placed = branch_found.placed ∙ (λ i. starts (λ x. length-pivot x i) 4 (map (λ at. pivot_in (drop at bytes)) places));
    }

pub branch_again : (first : Pivot) (pivots : List Pivot) → IsBranch (first ∷ pivots) → (bytes : List ℕ) → bytes ≡ body_and_zeros (pivots_bytes (first ∷ pivots))
    → pivots_at bytes (starts pivot_size 4 pivots) ≡ first ∷ pivots
branch_again first pivots sound bytes is =
    let rest = replicate {A = ℕ} (4080 - length (pivots_bytes (first ∷ pivots))) 0 in
    let behind : drop 4 bytes ≡ flat_map pivot_bytes pivots ++ rest = ap (λ (l : List ℕ). drop 4 l) is in
    let child : little_number 4 bytes ≡ first.child =
    ap (little_number 4) is ∙ little_number-reads_back 4 first.child (flat_map pivot_bytes pivots ++ rest) (omega (arith, sound.each.0.child)) in
    let others =
    read_again branch_cell_size pivot_in pivot_bytes pivot_size IsPivot length-pivot (λ x r s. pivot_back x r s)
    (λ x r s. pivot_size_back x r s) bytes 4 pivots rest sound.each.1 behind in
    (λ i. record { key = (sym sound.bare) i; child = child i } ∷ others i)

pub branch_made : (first : Pivot) (pivots : List Pivot) → IsBranch (first ∷ pivots) → (bytes : List ℕ) → bytes ≡ body_and_zeros (pivots_bytes (first ∷ pivots))
    → KeepsBranch bytes (starts pivot_size 4 pivots)
branch_made first pivots sound bytes is =
    let rest = replicate {A = ℕ} (4080 - length (pivots_bytes (first ∷ pivots))) 0 in
    let behind : drop 4 bytes ≡ flat_map pivot_bytes pivots ++ rest = ap (λ (l : List ℕ). drop 4 l) is in
    let again = branch_again first pivots sound bytes is in
    let others =
    read_again branch_cell_size pivot_in pivot_bytes pivot_size IsPivot length-pivot (λ x r s. pivot_back x r s)
    (λ x r s. pivot_size_back x r s) bytes 4 pivots rest sound.each.1 behind in
    let long = length-joined pivot_bytes pivot_size length-pivot pivots in
    record {
      len = ap (λ (l : List ℕ). length l) is ∙ body_len (pivots_bytes (first ∷ pivots)) (omega (arith, sound.room, long));
      whole = whole_again branch_cell_size pivot_in pivot_bytes pivot_size IsPivot length-pivot (λ x r s. pivot_back x r s)
          (λ x r s. pivot_size_back x r s) bytes 4 pivots rest sound.each.1 behind (omega (arith, sound.room));
      sound = subst IsBranch (sym again) sound;
      spelled = is ∙ ap (λ (l : List Pivot). body_and_zeros (pivots_bytes l)) (sym again);
      placed = ap (starts pivot_size 4) (sym others);
    }

-- ---- how many cells there are

pub few_items : (items : List Item) → 6 * length items ≤ total item_size items
few_items [] = omega arith
few_items (item ∷ items) = omega (arith, few_items items)

few_behind : (pivots : List Pivot) → 6 * length pivots ≤ total pivot_size pivots
few_behind [] = omega arith
few_behind (pivot ∷ pivots) = omega (arith, few_behind pivots)

pub few_pivots : (pivots : List Pivot) → 6 * length pivots ≤ 2 + pivots_size pivots
few_pivots [] = omega arith
few_pivots (first ∷ pivots) = omega (arith, few_behind pivots)

pub leaf_len : (items : List Item) → IsLeaf items → length (body_and_zeros (flat_map item_bytes items)) ≡ 4080
leaf_len items sound = body_len (flat_map item_bytes items) (omega (arith, sound.room, length-joined item_bytes item_size length-item items))

pub branch_len : (pivots : List Pivot) → IsBranch pivots → length (body_and_zeros (pivots_bytes pivots)) ≡ 4080
branch_len [] sound = absurd (omega (arith, sound.some))
branch_len (first ∷ pivots) sound = body_len (pivots_bytes (first ∷ pivots))
    (omega (arith, sound.room, length-joined pivot_bytes pivot_size length-pivot pivots))
