-- A cell's bytes are read as what was written, and what is read spells the bytes.
use Rattle.std.proofs.Common.{◌≡◌, ℕ, ◌+◌, ◌^◌, ◌<◌, ◌≤◌, Bool, true, false, List, ◌++◌, length, take, drop, refl, sym, ap, ◌∙◌, arith, append_assoc}
use Rattle.std.proofs.Common.{length-append, length-drop, ◌∷◌, [], ◌*◌}
use Rattle.std.specs.Prelude.{nat_lt, if◌then◌else◌}
use Rattle.std.specs.Int.{w16, w32, from_le_bytes}
use Rattle.std.proofs.lemmas.Nat.{le_bytes_2, le_bytes_4}
use Rattle.std.proofs.lemmas.List.{length-take-le, drop-drop}
use Rattle.std.proofs.lemmas.Bool.Decides.{nat_tests}
use Rattle.std.proofs.Math.Seq.{take-add, take-append_seam, drop-append_seam}
use Rattle.byteorder.specs.Endian.{little_bytes, little_number}
use Rattle.byteorder.specs.Numbers.{little_number-reads_back, little_from-take, little_from-lt}
use Rattle.page.specs.Content.{Pivot, IsPivot, IsItem, IsPlace, Item, Place, pivot_size, inline, item_size, place_size, spilled, total}
use Rattle.page.specs.Format.{pivot_bytes, pivot_in, branch_cell_size, item_bytes, item_in, leaf_cell_size, numbers_in, place_bytes, place_in, stored_size}
use Rattle.page.specs.Format.{value_length}
use Rattle.page.proofs.PlaceLemmas.{AreBytes, bytes_drop, bytes_take, length-joined}
use Rattle.std.specs.List.{AllByRecursion, flat_map}

-- ---- numbers

pub two_again : (b : List ℕ) → AreBytes b → 2 ≤ length b → little_bytes 2 (little_number 2 b) ≡ take 2 b
two_again b small long =
    let same : little_number 2 b ≡ from_le_bytes w16 (take 2 b) = omega (arith, little_from-take 0 2 2 b (omega arith)) in
    le_bytes_2 (take 2 b) (little_number 2 b) (length-take-le 2 b long) (bytes_take 2 b small) same

pub four_again : (b : List ℕ) → AreBytes b → 4 ≤ length b → little_bytes 4 (little_number 4 b) ≡ take 4 b
four_again b small long =
    let same : little_number 4 b ≡ from_le_bytes w32 (take 4 b) = omega (arith, little_from-take 0 4 4 b (omega arith)) in
    le_bytes_4 (take 4 b) (little_number 4 b) (length-take-le 4 b long) (bytes_take 4 b small) same

fours : (numbers : List ℕ) → total (λ (n : ℕ). 4) numbers ≡ 4 * length numbers
fours [] = omega arith
fours (n ∷ numbers) = omega (arith, fours numbers)

pub numbers_len : (numbers : List ℕ) → length (flat_map (little_bytes 4) numbers) ≡ 4 * length numbers
numbers_len numbers = length-joined (little_bytes 4) (λ (n : ℕ). 4) (λ n. refl) numbers ∙ fours numbers

pub numbers_back : (numbers rest : List ℕ) → AllByRecursion (λ (n : ℕ). n < 2 ^ 32) numbers
    → numbers_in (length numbers) (flat_map (little_bytes 4) numbers ++ rest) ≡ numbers
numbers_back [] rest small = refl
numbers_back (n ∷ numbers) rest small =
    let one : little_number 4 (little_bytes 4 n ++ (flat_map (little_bytes 4) numbers ++ rest)) ≡ n =
    little_number-reads_back 4 n (flat_map (little_bytes 4) numbers ++ rest) (omega (arith, small.0)) in
    let others = numbers_back numbers rest small.1 in
    (λ i. one i ∷ others i)

-- ---- a value's place

place_length : (t : Bool) (v : ℕ) (b : List ℕ) → (if t then 4 else v) ≤ length b
    → value_length (if t then spilled v (little_number 4 b) else inline (take v b)) ≡ v
place_length true v b long = refl
place_length false v b long = length-take-le v b long

place_again : (t : Bool) (v : ℕ) (b : List ℕ) → AreBytes b → (if t then 4 else v) ≤ length b
    → place_bytes (if t then spilled v (little_number 4 b) else inline (take v b)) ≡ take (if t then 4 else v) b
place_again true v b small long = four_again b small long
place_again false v b small long = refl

place_size_is : (t : Bool) (v : ℕ) (b : List ℕ) → (if t then 4 else v) ≤ length b
    → place_size (if t then spilled v (little_number 4 b) else inline (take v b)) ≡ (if t then 4 else v)
place_size_is true v b long = refl
place_size_is false v b long = length-take-le v b long

place_sound : (t : Bool) (v : ℕ) (b : List ℕ) → AreBytes b → v < 2 ^ 32 → t ≡ nat_lt 330 v → (if t then 4 else v) ≤ length b
    → IsPlace (if t then spilled v (little_number 4 b) else inline (take v b))
place_sound true v b small near is long =
    let above : 330 < v = grind (arith, nat_tests, is) in
    (above, near, omega (arith, little_from-lt 0 4 b small))
place_sound false v b small near is long =
    let below : v ≤ 330 = grind (arith, nat_tests, is) in
    omega (arith, length-take-le v b long)

place_back : (place : Place) (rest : List ℕ) → IsPlace place → place_in (value_length place) (place_bytes place ++ rest) ≡ place
place_back (inline value) rest short =
    let t : nat_lt 330 (length value) ≡ false = grind (arith, nat_tests, short) in
    ap (λ (b : Bool). if b then spilled (length value) (little_number 4 (value ++ rest)) else inline (take (length value) (value ++ rest))) t
    ∙ ap inline (take-append_seam value rest)
place_back (spilled len page) rest (long, near, small) =
    let t : nat_lt 330 len ≡ true = grind (arith, nat_tests, long) in
    ap (λ (b : Bool). if b then spilled len (little_number 4 (little_bytes 4 page ++ rest)) else inline (take len (little_bytes 4 page ++ rest))) t
    ∙ ap (spilled len) (little_number-reads_back 4 page rest (omega arith))

stored_back : (place : Place) → IsPlace place → stored_size (value_length place) ≡ place_size place
stored_back (inline value) short =
    let t : nat_lt 330 (length value) ≡ false = grind (arith, nat_tests, short) in
    ap (λ (b : Bool). if b then 4 else length value) t
stored_back (spilled len page) (long, near, small) =
    let t : nat_lt 330 len ≡ true = grind (arith, nat_tests, long) in
    ap (λ (b : Bool). if b then 4 else len) t

length_near : (place : Place) → IsPlace place → value_length place < 2 ^ 32
length_near (inline value) short = omega arith
length_near (spilled len page) (long, near, small) = near

length_place : (place : Place) → length (place_bytes place) ≡ place_size place
length_place (inline value) = refl
length_place (spilled len page) = refl

-- ---- a cell of a leaf

pub length-item : (item : Item) → length (item_bytes item) ≡ item_size item
length-item item = omega (arith, length-append item.key (place_bytes item.place), length_place item.place)

four_parts : (b : List ℕ) (k s : ℕ) → take (6 + k + s) b ≡ take 2 b ++ take 4 (drop 2 b) ++ take k (drop 6 b) ++ take s (drop k (drop 6 b))
four_parts b k s =
    take-add (6 + k) s b
    ∙ ap (λ (l : List ℕ). l ++ take s (drop (6 + k) b)) (take-add 6 k b ∙ ap (λ (l : List ℕ). l ++ take k (drop 6 b)) (take-add 2 4 b))
    ∙ ap (λ (l : List ℕ). take 2 b ++ take 4 (drop 2 b) ++ take k (drop 6 b) ++ take s l) (sym (drop-drop k 6 b))

three_parts : (b : List ℕ) (k : ℕ) → take (6 + k) b ≡ take 2 b ++ take k (drop 2 b) ++ take 4 (drop k (drop 2 b))
three_parts b k =
    let e : 6 + k ≡ 2 + k + 4 = omega arith in
    ap (λ (n : ℕ). take n b) e ∙ take-add (2 + k) 4 b
    ∙ ap (λ (l : List ℕ). l ++ take 4 (drop (2 + k) b)) (take-add 2 k b)
    ∙ ap (λ (l : List ℕ). take 2 b ++ take k (drop 2 b) ++ take 4 l) (sym (drop-drop k 2 b))

module _ (b : List ℕ) (small : AreBytes b) (fits : leaf_cell_size b ≤ length b) where
  rest_long : stored_size (little_number 4 (drop 2 b)) ≤ length (drop (little_number 2 b) (drop 6 b))
  rest_long = omega (arith, length-drop (little_number 2 b) (drop 6 b), length-drop 6 b)

  key_long : length (take (little_number 2 b) (drop 6 b)) ≡ little_number 2 b
  key_long = length-take-le (little_number 2 b) (drop 6 b) (omega (arith, length-drop 6 b))

  rest_small : AreBytes (drop (little_number 2 b) (drop 6 b))
  rest_small = bytes_drop (little_number 2 b) (drop 6 b) (bytes_drop 6 b small)

  pub leaf_size_is : item_size (item_in b) ≡ leaf_cell_size b
  leaf_size_is =
      let place = place_size_is (nat_lt 330 (little_number 4 (drop 2 b))) (little_number 4 (drop 2 b)) (drop (little_number 2 b) (drop 6 b)) rest_long in
      omega (arith, key_long, place)

  pub leaf_item : leaf_cell_size b ≤ 1360 → IsItem (item_in b)
  leaf_item near = record {
    size = omega (arith, leaf_size_is);
    place = place_sound (nat_lt 330 (little_number 4 (drop 2 b))) (little_number 4 (drop 2 b)) (drop (little_number 2 b) (drop 6 b)) rest_small
        (omega (arith, little_from-lt 0 4 (drop 2 b) (bytes_drop 2 b small))) refl rest_long;
  }

  pub leaf_spelled : item_bytes (item_in b) ≡ take (leaf_cell_size b) b
  leaf_spelled =
      let s = stored_size (little_number 4 (drop 2 b)) in
      let one : little_bytes 2 (length (take (little_number 2 b) (drop 6 b))) ≡ take 2 b = ap (little_bytes 2) key_long ∙ two_again b small (omega arith) in
      let two : little_bytes 4 (value_length (item_in b).place) ≡ take 4 (drop 2 b) =
      ap (little_bytes 4) (place_length (nat_lt 330 (little_number 4 (drop 2 b))) (little_number 4 (drop 2 b)) (drop (little_number 2 b) (drop 6 b)) rest_long)
      ∙ four_again (drop 2 b) (bytes_drop 2 b small) (omega (arith, length-drop 2 b)) in
      let four : place_bytes (item_in b).place ≡ take s (drop (little_number 2 b) (drop 6 b)) =
      place_again (nat_lt 330 (little_number 4 (drop 2 b))) (little_number 4 (drop 2 b)) (drop (little_number 2 b) (drop 6 b)) rest_small rest_long in
      (λ i. one i ++ two i ++ take (little_number 2 b) (drop 6 b) ++ four i)
      ∙ sym (four_parts b (little_number 2 b) s)

module _ (item : Item) (rest : List ℕ) (sound : IsItem item) where
  key_near : length item.key < 256 ^ 2
  key_near = omega (arith, sound.size)

  key_len : little_number 2 (item_bytes item ++ rest) ≡ length item.key
  key_len = little_number-reads_back 2 (length item.key) (little_bytes 4 (value_length item.place) ++ ((item.key ++ place_bytes item.place) ++ rest)) key_near

  value_len : little_number 4 (drop 2 (item_bytes item ++ rest)) ≡ value_length item.place
  value_len = little_number-reads_back 4 (value_length item.place) ((item.key ++ place_bytes item.place) ++ rest)
      (omega (arith, length_near item.place sound.place))

  key_is : take (little_number 2 (item_bytes item ++ rest)) (drop 6 (item_bytes item ++ rest)) ≡ item.key
  key_is =
      ap (λ (n : ℕ). take n ((item.key ++ place_bytes item.place) ++ rest)) key_len
      ∙ ap (λ (l : List ℕ). take (length item.key) l) (append_assoc item.key (place_bytes item.place) rest)
      ∙ take-append_seam item.key (place_bytes item.place ++ rest)

  rest_is : drop (little_number 2 (item_bytes item ++ rest)) (drop 6 (item_bytes item ++ rest)) ≡ place_bytes item.place ++ rest
  rest_is =
      ap (λ (n : ℕ). drop n ((item.key ++ place_bytes item.place) ++ rest)) key_len
      ∙ ap (λ (l : List ℕ). drop (length item.key) l) (append_assoc item.key (place_bytes item.place) rest)
      ∙ drop-append_seam item.key (place_bytes item.place ++ rest)

  place_is : (item_in (item_bytes item ++ rest)).place ≡ item.place
  place_is = (λ i. place_in (value_len i) (rest_is i)) ∙ place_back item.place rest sound.place

  pub item_back : item_in (item_bytes item ++ rest) ≡ item
  item_back i = record { key = key_is i; place = place_is i }

  pub item_size_back : leaf_cell_size (item_bytes item ++ rest) ≡ item_size item
  item_size_back = (λ i. 6 + key_len i + stored_size (value_len i)) ∙ ap (λ (n : ℕ). 6 + length item.key + n) (stored_back item.place sound.place)

-- ---- a child of a branch, behind the first

pub length-pivot : (pivot : Pivot) → length (pivot_bytes pivot) ≡ pivot_size pivot
length-pivot pivot = omega (arith, length-append pivot.key (little_bytes 4 pivot.child))

module _ (b : List ℕ) (small : AreBytes b) (fits : branch_cell_size b ≤ length b) where
  pivot_key_long : length (take (little_number 2 b) (drop 2 b)) ≡ little_number 2 b
  pivot_key_long = length-take-le (little_number 2 b) (drop 2 b) (omega (arith, length-drop 2 b))

  child_small : AreBytes (drop (little_number 2 b) (drop 2 b))
  child_small = bytes_drop (little_number 2 b) (drop 2 b) (bytes_drop 2 b small)

  pub pivot_sound : branch_cell_size b ≤ 1360 → IsPivot (pivot_in b)
  pivot_sound near = record {
    size = omega (arith, pivot_key_long);
    child = omega (arith, little_from-lt 0 4 (drop (little_number 2 b) (drop 2 b)) child_small);
  }

  pub pivot_spelled : pivot_bytes (pivot_in b) ≡ take (branch_cell_size b) b
  pivot_spelled =
      let one : little_bytes 2 (length (take (little_number 2 b) (drop 2 b))) ≡ take 2 b = ap (little_bytes 2) pivot_key_long
      ∙ two_again b small (omega arith) in
      let three : little_bytes 4 (little_number 4 (drop (little_number 2 b) (drop 2 b))) ≡ take 4 (drop (little_number 2 b) (drop 2 b)) =
      four_again (drop (little_number 2 b) (drop 2 b)) child_small (omega (arith, length-drop (little_number 2 b) (drop 2 b), length-drop 2 b)) in
      (λ i. one i ++ take (little_number 2 b) (drop 2 b) ++ three i) ∙ sym (three_parts b (little_number 2 b))

module _ (pivot : Pivot) (rest : List ℕ) (sound : IsPivot pivot) where
  pivot_key_len : little_number 2 (pivot_bytes pivot ++ rest) ≡ length pivot.key
  pivot_key_len = little_number-reads_back 2 (length pivot.key) ((pivot.key ++ little_bytes 4 pivot.child) ++ rest) (omega (arith, sound.size))

  pivot_key_is : take (little_number 2 (pivot_bytes pivot ++ rest)) (drop 2 (pivot_bytes pivot ++ rest)) ≡ pivot.key
  pivot_key_is =
      ap (λ (n : ℕ). take n ((pivot.key ++ little_bytes 4 pivot.child) ++ rest)) pivot_key_len
      ∙ ap (λ (l : List ℕ). take (length pivot.key) l) (append_assoc pivot.key (little_bytes 4 pivot.child) rest)
      ∙ take-append_seam pivot.key (little_bytes 4 pivot.child ++ rest)

  child_is : little_number 4 (drop (little_number 2 (pivot_bytes pivot ++ rest)) (drop 2 (pivot_bytes pivot ++ rest))) ≡ pivot.child
  child_is =
      ap (little_number 4)
      (ap (λ (n : ℕ). drop n ((pivot.key ++ little_bytes 4 pivot.child) ++ rest)) pivot_key_len
      ∙ ap (λ (l : List ℕ). drop (length pivot.key) l) (append_assoc pivot.key (little_bytes 4 pivot.child) rest)
      ∙ drop-append_seam pivot.key (little_bytes 4 pivot.child ++ rest))
      ∙ little_number-reads_back 4 pivot.child rest (omega (arith, sound.child))

  pub pivot_back : pivot_in (pivot_bytes pivot ++ rest) ≡ pivot
  pivot_back i = record { key = pivot_key_is i; child = child_is i }

  pub pivot_size_back : branch_cell_size (pivot_bytes pivot ++ rest) ≡ pivot_size pivot
  pivot_size_back = ap (λ (n : ℕ). 6 + n) pivot_key_len
