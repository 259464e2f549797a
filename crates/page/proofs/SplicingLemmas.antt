-- A leaf with a cell more, or one fewer: what stays is the same runs of bytes and places.
use Rattle.std.proofs.Common.{◌≡◌, ℕ, zero, suc, ◌+◌, ◌-◌, ◌<◌, ◌≤◌, List, [], ◌∷◌, ◌++◌, length, map, take, drop, replicate, get_or, sym, ap, ◌∙◌, subst}
use Rattle.std.proofs.Common.{arith, append_assoc, length-append, length-drop}
use Rattle.std.specs.Prelude.{Option, Some, None, slice_get}
use Rattle.std.proofs.lemmas.Option.{slice_get-get_or}
use Rattle.std.specs.List.{AllByRecursion, flat_map, insert, remove}
use Rattle.std.proofs.lemmas.List.{append-nil, drop_all, length-replicate, length-take-le, replicate-append-replicate, take-append-drop, take-replicate}
use Rattle.std.proofs.lemmas.List.{take_all}
use Rattle.std.proofs.lemmas.Grind.{flat_map-append}
use Rattle.std.proofs.Math.Seq.{drop-append_seam, take-append-add, take-append_seam}
use Rattle.page.specs.Content.{Item, IsItem, IsLeaf, inline, item_size, total}
use Rattle.page.specs.Format.{body_and_zeros, item_bytes, items_at, leaf_cell_size}
use Rattle.page.specs.Kept.{IsWhole, KeepsLeaf, starts}
use Rattle.page.proofs.PlaceLemmas.{drop_starts, each_at, get_starts, length-joined, length-starts, starts_append, starts_earlier, starts_later, take_starts}
use Rattle.page.proofs.PlaceLemmas.{total-append, total_take}
use Rattle.page.proofs.CellLemmas.{length-item}
use Rattle.page.proofs.KeptLemmas.{few_items, leaf_again, leaf_made, zeros_same}

-- ---- runs of bytes

-- what was filled up with zeros
pub filled_up : (bytes front made new : List ℕ) (from to n : ℕ) → length bytes ≡ 4080 → from ≤ to → to ≤ 4080 → front ≡ take from bytes
    → made ≡ front ++ take (length bytes - to) (drop to bytes) → n ≡ length made
    → new ≡ take 4080 made ++ replicate (4080 - n) 0 → new ≡ take from bytes ++ drop to bytes ++ replicate (to - from) 0
filled_up bytes front made new from to n len order room front_is made_is n_is new_is =
    let rest : take (length bytes - to) (drop to bytes) ≡ drop to bytes = take_all (length bytes - to) (drop to bytes) (omega (arith, length-drop to bytes)) in
    let is : made ≡ take from bytes ++ drop to bytes = made_is ∙ (λ i. front_is i ++ rest i) in
    let long : length made ≡ from + (4080 - to) =
    ap (λ (l : List ℕ). length l) is ∙ length-append (take from bytes) (drop to bytes)
    ∙ omega (arith, length-take-le from bytes (omega (arith, len)), length-drop to bytes, len) in
    let zeros : 4080 - n ≡ to - from = omega (arith, n_is, long) in
    new_is ∙ ap (λ (l : List ℕ). l ++ replicate (4080 - n) 0) (take_all 4080 made (omega (arith, long)) ∙ is)
    ∙ ap (λ (k : ℕ). take from bytes ++ drop to bytes ++ replicate k 0) zeros

-- the last places of a loop are the whole list
pub all_places : (f : ℕ → ℕ) (made begin places : List ℕ) (i : ℕ) → length places ≤ i → made ++ map f (drop i places) ≡ begin ++ map f places
    → made ≡ begin ++ map f places
all_places f made begin places i le is =
    let none : drop i places ≡ [] = drop_all i places le in
    sym (append-nil made) ∙ ap (λ (l : List ℕ). made ++ map f l) (sym none) ∙ is

-- ---- the places and bytes of a leaf

from_zero : (n : ℕ) → 0 + n ≡ n
from_zero n = omega arith

pub total_parts : (at : ℕ) (items : List Item) → total item_size (take at items) + total item_size (drop at items) ≡ total item_size items
total_parts at items = sym (total-append item_size (take at items) (drop at items)) ∙ ap (total item_size) (take-append-drop at items)

total_step : (items : List Item) (at : ℕ) (d : Item) → at < length items
    → total item_size (take at items) + item_size (get_or items at d) ≡ total item_size (take (suc at) items)
total_step [] at d lt = absurd (omega arith)
total_step (x ∷ xs) zero d lt = omega arith
total_step (x ∷ xs) (suc at) d lt = omega (arith, total_step xs at d (omega arith))

some_or : Item → Option Item → Item
some_or d None = d
some_or d (Some x) = x

found_is : (xs : List Item) (i : ℕ) (x : Item) → i < length xs → slice_get xs i ≡ Some x → get_or xs i x ≡ x
unfolding some_or
found_is xs i x lt is = ap (some_or x) (sym (slice_get-get_or xs i x lt) ∙ is)

pub each_small : (bytes places : List ℕ) → AllByRecursion (IsWhole leaf_cell_size bytes) places → AllByRecursion (λ (p : ℕ). p ≤ 4080) places
each_small bytes [] all = tt
each_small bytes (p ∷ ps) all = (omega (arith, all.0), each_small bytes ps all.1)

module _ (bytes places : List ℕ) (kept : KeepsLeaf bytes places) where
  abbrev items : List Item
  items = items_at bytes places

  pub long : length places ≡ length items
  long = ap (λ (l : List ℕ). length l) kept.placed ∙ length-starts item_size 0 items

  pub start_is : (i at : ℕ) → i < length items → at ≡ get_or places i at → at ≡ total item_size (take i items)
  start_is i at lt is = is ∙ ap (λ (l : List ℕ). get_or l i at) kept.placed ∙ get_starts item_size 0 i at items lt ∙ from_zero (total item_size (take i items))

  -- where the last cell ends
  pub end_is : (i at last : ℕ) (d : Item) → length items ≤ i → last + 1 ≡ length items → at ≡ get_or places last at
      → at + item_size (get_or items last d) ≡ total item_size (take i items)
  end_is i at last d le one is =
      let more : total item_size (take last items) + item_size (get_or items last d) ≡ total item_size (take (suc last) items) =
      total_step items last d (omega arith) in
      let whole : take (suc last) items ≡ take i items = take_all (suc last) items (omega arith) ∙ sym (take_all i items le) in
      omega (arith, start_is last at (omega arith) is, more, ap (total item_size) whole)

  -- the same of the cells as they are seen
  module _ (now : List Item) (seen : items ≡ now) (last : ℕ) (x : Item) (one : last + 1 ≡ length now) (is : slice_get now last ≡ Some x) where
    pub last_sound : IsItem x
    last_sound = subst IsItem (found_is now last x (omega arith) is) (each_at IsItem now last x (omega arith) (subst IsLeaf seen kept.sound).each)

    pub end_seen : (i at size : ℕ) → length now ≤ i → at ≡ get_or places last at → size ≡ item_size x → at + size ≡ total item_size (take i now)
    end_seen i at size le there is_size =
        let whole = end_is i at last x (omega (arith, ap (λ (l : List Item). length l) seen)) (omega (arith, ap (λ (l : List Item). length l) seen)) there in
        let this : get_or items last x ≡ x = ap (λ (l : List Item). get_or l last x) seen ∙ found_is now last x (omega arith) is in
        omega (arith, is_size, ap item_size this, whole, ap (λ (l : List Item). total item_size (take i l)) seen)

    pub end_small : (i at size : ℕ) → length now ≤ i → at ≡ get_or places last at → size ≡ item_size x → at + size ≤ 4080
    end_small i at size le there is_size = omega (arith, end_seen i at size le there is_size, total_take item_size i now, (subst IsLeaf seen kept.sound).room)

  apart : (at : ℕ)
      → bytes ≡ flat_map item_bytes (take at items) ++ (flat_map item_bytes (drop at items) ++ replicate (4080 - length (flat_map item_bytes items)) 0)
  apart at =
      kept.spelled
      ∙ ap (λ (l : List Item). flat_map item_bytes l ++ replicate (4080 - length (flat_map item_bytes items)) 0) (sym (take-append-drop at items))
      ∙ ap (λ (l : List ℕ). l ++ replicate (4080 - length (flat_map item_bytes items)) 0) (flat_map-append item_bytes (take at items) (drop at items))
      ∙ append_assoc (flat_map item_bytes (take at items)) (flat_map item_bytes (drop at items)) (replicate (4080 - length (flat_map item_bytes items)) 0)

  front_long : (at : ℕ) → length (flat_map item_bytes (take at items)) ≡ total item_size (take at items)
  front_long at = length-joined item_bytes item_size length-item (take at items)

  front_is : (at : ℕ) → take (total item_size (take at items)) bytes ≡ flat_map item_bytes (take at items)
  front_is at =
      (λ i. take (sym (front_long at) i) (apart at i))
      ∙ take-append_seam (flat_map item_bytes (take at items)) (flat_map item_bytes (drop at items) ++ replicate (4080 - length (flat_map item_bytes items)) 0)

  rest_is : (at : ℕ)
      → drop (total item_size (take at items)) bytes ≡ flat_map item_bytes (drop at items) ++ replicate (4080 - length (flat_map item_bytes items)) 0
  rest_is at =
      (λ i. drop (sym (front_long at) i) (apart at i))
      ∙ drop-append_seam (flat_map item_bytes (take at items)) (flat_map item_bytes (drop at items) ++ replicate (4080 - length (flat_map item_bytes items)) 0)

  -- ---- one cell more
  module _ (at : ℕ) (x : Item) (sound : IsLeaf (insert items at x)) where
    room : total item_size items + item_size x ≤ 4080
    room = omega (arith, sound.room, total-append item_size (take at items) (x ∷ drop at items), total_parts at items)

    abbrev from : ℕ
    from = total item_size (take at items)

    pub room_there : from + item_size x ≤ 4080
    room_there = omega (arith, room, total_take item_size at items)

    -- what is left of the bytes behind
    cut : take (4080 - item_size x - from) (drop from bytes) ≡ flat_map item_bytes (drop at items)
        ++ replicate (4080 - item_size x - from - length (flat_map item_bytes (drop at items))) 0
    cut =
        let rest = flat_map item_bytes (drop at items) in
        let len : length rest ≡ total item_size (drop at items) = length-joined item_bytes item_size length-item (drop at items) in
        let all : length (flat_map item_bytes items) ≡ total item_size items = length-joined item_bytes item_size length-item items in
        let zeros : ℕ = 4080 - length (flat_map item_bytes items) in
        let more : ℕ = 4080 - item_size x - from - length rest in
        let count : 4080 - item_size x - from ≡ length rest + more = omega (arith, len, room, total_parts at items) in
        ap (λ (l : List ℕ). take (4080 - item_size x - from) l) (rest_is at)
        ∙ ap (λ (k : ℕ). take k (rest ++ replicate zeros 0)) count
        ∙ take-append-add rest (replicate zeros 0) more
        ∙ ap (λ (l : List ℕ). rest ++ l) (take-replicate {X = ℕ} more zeros 0 (omega (arith, len, all, room, total_parts at items)))

    module _ (made behind : List ℕ)
        (made_is : made ≡ (take from bytes ++ item_bytes x) ++ take (4080 - item_size x - from) (drop from bytes))
        (behind_is : behind ≡ (take at places ++ from ∷ []) ++ map (λ p. p + item_size x) (drop at places)) where
      made_bytes : made ≡ body_and_zeros (flat_map item_bytes (insert items at x))
      made_bytes =
          let front = flat_map item_bytes (take at items) in
          let rest = flat_map item_bytes (drop at items) in
          let more : ℕ = 4080 - item_size x - from - length rest in
          let joined : flat_map item_bytes (insert items at x) ≡ (front ++ item_bytes x) ++ rest =
          flat_map-append item_bytes (take at items) (x ∷ drop at items) ∙ sym (append_assoc front (item_bytes x) rest) in
          let is : made ≡ flat_map item_bytes (insert items at x) ++ replicate more 0 =
          made_is ∙ (λ i. (front_is at i ++ item_bytes x) ++ cut i) ∙ sym (append_assoc (front ++ item_bytes x) rest (replicate more 0))
          ∙ ap (λ (l : List ℕ). l ++ replicate more 0) (sym joined) in
          let all : length (flat_map item_bytes (insert items at x)) ≡ total item_size (insert items at x) =
          length-joined item_bytes item_size length-item (insert items at x) in
          let len : length rest ≡ total item_size (drop at items) = length-joined item_bytes item_size length-item (drop at items) in
          zeros_same made (flat_map item_bytes (insert items at x)) more is
          (ap (λ (l : List ℕ). length l) is ∙ length-append (flat_map item_bytes (insert items at x)) (replicate {A = ℕ} more 0)
          ∙ omega (arith, length-replicate {A = ℕ} more 0, all, len, room, total-append item_size (take at items) (x ∷ drop at items), total_parts at items))

      places_are : behind ≡ starts item_size 0 (insert items at x)
      places_are =
          let front : take at places ≡ starts item_size 0 (take at items) = ap (λ (l : List ℕ). take at l) kept.placed ∙ take_starts item_size 0 at items in
          let rest : map (λ p. p + item_size x) (drop at places) ≡ starts item_size (from + item_size x) (drop at items) =
          ap (λ (l : List ℕ). map (λ p. p + item_size x) (drop at l)) kept.placed
          ∙ ap (λ (l : List ℕ). map (λ p. p + item_size x) l)
          (drop_starts item_size 0 at items ∙ ap (λ (n : ℕ). starts item_size n (drop at items)) (from_zero from))
          ∙ starts_later item_size from (item_size x) (drop at items) in
          behind_is ∙ (λ i. (front i ++ from ∷ []) ++ rest i)
          ∙ append_assoc (starts item_size 0 (take at items)) (from ∷ []) (starts item_size (from + item_size x) (drop at items))
          ∙ ap (λ (n : ℕ). starts item_size 0 (take at items) ++ starts item_size n (x ∷ drop at items)) (sym (from_zero from))
          ∙ sym (starts_append item_size 0 (take at items) (x ∷ drop at items))

      pub with_kept : KeepsLeaf made behind
      with_kept = subst (KeepsLeaf made) (sym places_are) (leaf_made (insert items at x) sound made made_bytes)

      pub with_is : items_at made behind ≡ insert items at x
      with_is = ap (items_at made) places_are ∙ leaf_again (insert items at x) sound made made_bytes

  -- ---- one cell fewer
  module _ (at : ℕ) (within : at < length items) where
    abbrev start : ℕ
    start = total item_size (take at items)

    abbrev stop : ℕ
    stop = total item_size (take (suc at) items)

    pub ordered : start ≤ stop
    ordered = omega (arith, total_step items at (record { key = []; place = inline [] }) within)

    pub stop_small : stop ≤ 4080
    stop_small = omega (arith, kept.sound.room, total_take item_size (suc at) items)

    module _ (made behind : List ℕ) (sound : IsLeaf (remove items at))
        (made_is : made ≡ take start bytes ++ drop stop bytes ++ replicate (stop - start) 0)
        (behind_is : behind ≡ take at places ++ map (λ p. p - (stop - start)) (drop (at + 1) places)) where
      left_bytes : made ≡ body_and_zeros (flat_map item_bytes (remove items at))
      left_bytes =
          let front = flat_map item_bytes (take at items) in
          let rest = flat_map item_bytes (drop (suc at) items) in
          let zeros : ℕ = 4080 - length (flat_map item_bytes items) in
          let joined : flat_map item_bytes (remove items at) ≡ front ++ rest = flat_map-append item_bytes (take at items) (drop (suc at) items) in
          let is : made ≡ flat_map item_bytes (remove items at) ++ replicate (zeros + (stop - start)) 0 =
          made_is ∙ (λ i. (front_is at i ++ rest_is (suc at) i) ++ replicate (stop - start) 0)
          ∙ ap (λ (l : List ℕ). l ++ replicate (stop - start) 0) (sym (append_assoc front rest (replicate zeros 0)))
          ∙ append_assoc (front ++ rest) (replicate zeros 0) (replicate (stop - start) 0)
          ∙ (λ i. sym joined i ++ replicate-append-replicate {A = ℕ} zeros (stop - start) 0 i) in
          let all : length (flat_map item_bytes items) ≡ total item_size items = length-joined item_bytes item_size length-item items in
          let some : length (flat_map item_bytes (remove items at)) ≡ total item_size (remove items at) =
          length-joined item_bytes item_size length-item (remove items at) in
          zeros_same made (flat_map item_bytes (remove items at)) (zeros + (stop - start)) is
          (ap (λ (l : List ℕ). length l) is ∙ length-append (flat_map item_bytes (remove items at)) (replicate {A = ℕ} (zeros + (stop - start)) 0)
          ∙ omega (
            arith,
            length-replicate {A = ℕ} (zeros + (stop - start)) 0,
            all,
            some,
            kept.sound.room,
            ordered,
            total-append item_size (take at items) (drop (suc at) items),
            total_parts (suc at) items,
          ))

      left_places : behind ≡ starts item_size 0 (remove items at)
      left_places =
          let front : take at places ≡ starts item_size 0 (take at items) = ap (λ (l : List ℕ). take at l) kept.placed ∙ take_starts item_size 0 at items in
          let next : at + 1 ≡ suc at = omega arith in
          let from : stop ≡ start + (stop - start) = omega (arith, ordered) in
          let rest : map (λ p. p - (stop - start)) (drop (at + 1) places) ≡ starts item_size start (drop (suc at) items) =
          (λ i. map (λ p. p - (stop - start)) (drop (next i) (kept.placed i)))
          ∙ ap (λ (l : List ℕ). map (λ p. p - (stop - start)) l) (drop_starts item_size 0 (suc at) items)
          ∙ ap (λ (n : ℕ). map (λ p. p - (stop - start)) (starts item_size n (drop (suc at) items))) (from_zero stop ∙ from)
          ∙ starts_earlier item_size start (stop - start) (drop (suc at) items) in
          behind_is ∙ (λ i. front i ++ rest i)
          ∙ ap (λ (n : ℕ). starts item_size 0 (take at items) ++ starts item_size n (drop (suc at) items)) (sym (from_zero start))
          ∙ sym (starts_append item_size 0 (take at items) (drop (suc at) items))

      pub without_kept : KeepsLeaf made behind
      without_kept = subst (KeepsLeaf made) (sym left_places) (leaf_made (remove items at) sound made left_bytes)

      pub without_is : items_at made behind ≡ remove items at
      without_is = ap (items_at made) left_places ∙ leaf_again (remove items at) sound made left_bytes

all_mid : {X : Type 0} (P : X → Type 0) (front : List X) (x : X) (back : List X) → AllByRecursion P (front ++ x ∷ back) → P x
all_mid P [] x back all = all.0
all_mid P (y ∷ ys) x back all = all_mid P ys x back all.1

pub place_near : (now : List Item) (at : ℕ) → at < length now → IsLeaf (remove now at) → at ≤ 680
place_near now at within sound =
    omega (arith, few_items (remove now at), sound.room, length-append (take at now) (drop (suc at) now), length-take-le at now (omega arith))

-- ---- the same of the cells as they are seen

module _ (bytes places : List ℕ) (kept : KeepsLeaf bytes places) (now : List Item) (seen : items_at bytes places ≡ now) where
  module _ (at : ℕ) (x : Item) (sound : IsLeaf (insert now at x)) where
    pub put_sound : IsItem x
    put_sound = all_mid IsItem (take at now) x (drop at now) sound.each

    pub put_room : total item_size (take at now) + item_size x ≤ 4080
    put_room = omega (arith, sound.room, total-append item_size (take at now) (x ∷ drop at now))

    pub put_kept : (from size : ℕ) (made behind : List ℕ) → from ≡ total item_size (take at now) → size ≡ item_size x
        → made ≡ (take from bytes ++ item_bytes x) ++ take (4080 - item_size x - from) (drop from bytes)
        → behind ≡ (take at places ++ from ∷ []) ++ map (λ p. p + size) (drop at places)
        → KeepsLeaf made behind × (items_at made behind ≡ insert now at x)
    put_kept from size made behind from_is size_is made_is behind_is =
        let sound' : IsLeaf (insert (items_at bytes places) at x) = subst (λ (l : List Item). IsLeaf (insert l at x)) (sym seen) sound in
        let from' : from ≡ total item_size (take at (items_at bytes places)) = from_is ∙ ap (λ (l : List Item). total item_size (take at l)) (sym seen) in
        let made' = made_is ∙ (λ i. (take (from' i) bytes ++ item_bytes x) ++ take (4080 - item_size x - from' i) (drop (from' i) bytes)) in
        let behind' = behind_is ∙ (λ i. (take at places ++ from' i ∷ []) ++ map (λ p. p + size_is i) (drop at places)) in (
          with_kept bytes places kept at x sound' made behind made' behind',
          with_is bytes places kept at x sound' made behind made' behind'
              ∙ ap (λ (l : List Item). insert l at x) seen,
        )

  module _ (at : ℕ) (within : at < length now) where
    there : at < length (items_at bytes places)
    there = omega (arith, within, ap (λ (l : List Item). length l) seen)

    next : at + 1 ≡ suc at
    next = omega arith

    start_at : (n : ℕ) → n ≡ total item_size (take at now) → n ≡ total item_size (take at (items_at bytes places))
    start_at n is = is ∙ ap (λ (l : List Item). total item_size (take at l)) (sym seen)

    stop_at : (to : ℕ) → to ≡ total item_size (take (at + 1) now) → to ≡ total item_size (take (suc at) (items_at bytes places))
    stop_at to is = is ∙ (λ i. total item_size (take (next i) (sym seen i)))

    pub cut_order : (from to : ℕ) → from ≡ total item_size (take at now) → to ≡ total item_size (take (at + 1) now) → from ≤ to
    cut_order from to from_is to_is = omega (arith, start_at from from_is, stop_at to to_is, ordered bytes places kept at there)

    pub cut_room : (to : ℕ) → to ≡ total item_size (take (at + 1) now) → to ≤ 4080
    cut_room to to_is = omega (arith, stop_at to to_is, stop_small bytes places kept at there)

    pub cut_kept : (from to : ℕ) (made behind : List ℕ) → IsLeaf (remove now at) → from ≡ total item_size (take at now)
        → to ≡ total item_size (take (at + 1) now)
        → made ≡ take from bytes ++ drop to bytes ++ replicate (to - from) 0 → behind ≡ take at places ++ map (λ p. p - (to - from)) (drop (at + 1) places)
        → KeepsLeaf made behind × (items_at made behind ≡ remove now at)
    cut_kept from to made behind sound from_is to_is made_is behind_is =
        let sound' : IsLeaf (remove (items_at bytes places) at) = subst (λ (l : List Item). IsLeaf (remove l at)) (sym seen) sound in
        let f = start_at from from_is in
        let t = stop_at to to_is in
        let made' = made_is ∙ (λ i. take (f i) bytes ++ drop (t i) bytes ++ replicate (t i - f i) 0) in
        let behind' = behind_is ∙ (λ i. take at places ++ map (λ p. p - (t i - f i)) (drop (at + 1) places)) in (
          without_kept bytes places kept at there made behind sound' made' behind',
          without_is bytes places kept at there made behind sound' made' behind'
              ∙ ap (λ (l : List Item). remove l at) seen,
        )
