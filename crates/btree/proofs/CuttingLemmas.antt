-- Cells and children, cut into pages by bytes.
use Rattle.std.proofs.Common.{◌≡◌, ℕ, zero, suc, ◌+◌, ◌-◌, ◌*◌, ◌<◌, ◌≤◌, List, [], ◌∷◌, length, map, take, drop, get_or, Option, Some, Bool, true, false, refl}
use Rattle.std.proofs.Common.{sym, ap, ◌∙◌, subst, arith, inl, inr}
use Rattle.btree.specs.declared.node.LooseSlot.{LooseSlot}
use Rattle.tree_model.specs.Keys.{Each, Rises}
use Rattle.btree.specs.Loose.{GoBehind, IsOver, IsPart, IsSlot, Slot, slot_keys, slot_size, slots_size}
use Rattle.btree.specs.LooseView.{slot_in}
use Rattle.tree_model.proofs.ListLemmas.{long_map}

-- what stands at a place of a list, and behind it
drop_next : (loose_slots : List LooseSlot) (i : ℕ) (u d : LooseSlot) → i < length loose_slots → u ≡ get_or loose_slots i d
    → drop i (map slot_in loose_slots) ≡ slot_in u ∷ drop (suc i) (map slot_in loose_slots)
drop_next [] i u d lt e = absurd (omega arith)
drop_next (x ∷ xs) zero u d lt e = ap (λ y. slot_in y ∷ map slot_in xs) (sym e)
drop_next (x ∷ xs) (suc i) u d lt e = drop_next xs i u d (omega arith) e

pub drop_at : (loose_slots : List LooseSlot) (i : ℕ) (u d : LooseSlot) → i < length loose_slots → u ≡ get_or loose_slots i d
    → drop i (map slot_in loose_slots) ≡ slot_in u ∷ drop (i + 1) (map slot_in loose_slots)
drop_at loose_slots i u d lt e =
    let n : suc i ≡ i + 1 = omega arith in drop_next loose_slots i u d lt e ∙ ap (λ k. slot_in u ∷ drop k (map slot_in loose_slots)) n

take_next : (loose_slots : List LooseSlot) (i : ℕ) (u d : LooseSlot) → i < length loose_slots → u ≡ get_or loose_slots i d
    → slots_size (take (suc i) (map slot_in loose_slots)) ≡ slots_size (take i (map slot_in loose_slots)) + slot_size (slot_in u)
take_next [] i u d lt e = absurd (omega arith)
take_next (x ∷ xs) zero u d lt e = omega (arith, ap (λ y. slot_size (slot_in y)) e)
take_next (x ∷ xs) (suc i) u d lt e = omega (arith, take_next xs i u d (omega arith) e)

pub take_at : (loose_slots : List LooseSlot) (i : ℕ) (u d : LooseSlot) → i < length loose_slots → u ≡ get_or loose_slots i d
    → slots_size (take (i + 1) (map slot_in loose_slots)) ≡ slots_size (take i (map slot_in loose_slots)) + slot_size (slot_in u)
take_at loose_slots i u d lt e =
    let n : i + 1 ≡ suc i = omega arith in ap (λ k. slots_size (take k (map slot_in loose_slots))) n ∙ take_next loose_slots i u d lt e

pub at_slot : (loose_slots : List LooseSlot) (i : ℕ) (u d : LooseSlot) (s : Slot) → i < length loose_slots → u ≡ get_or loose_slots i d
    → get_or (map slot_in loose_slots) i s ≡ slot_in u
at_slot [] i u d s lt e = absurd (omega arith)
at_slot (x ∷ xs) zero u d s lt e = ap slot_in (sym e)
at_slot (x ∷ xs) (suc i) u d s lt e = at_slot xs i u d s (omega arith) e

-- at the end
pub drop_end : (loose_slots : List LooseSlot) (i : ℕ) → length loose_slots ≤ i → drop i (map slot_in loose_slots) ≡ []
drop_end [] zero le = refl
drop_end [] (suc i) le = refl
drop_end (x ∷ xs) zero le = absurd (omega arith)
drop_end (x ∷ xs) (suc i) le = drop_end xs i (omega arith)

-- ---- what ascends and finds room goes into a page

pub go_all : (last : Option (List ℕ)) (used : ℕ) (slots : List Slot) → Each IsSlot slots → Rises (slot_keys slots) → Each (IsOver last) (slot_keys slots)
    → used + slots_size slots ≤ 4080 → GoBehind last used slots
go_all last used [] h rise over room = tt
go_all last used (s ∷ ss) h rise over room = (h.0, over.0, omega arith, go_all (Some s.key) (used + slot_size s) ss h.1 rise.1 rise.0 (omega arith))

-- ---- parts

pub map_drop : {X Y : Type 0} (f : X → Y) (n : ℕ) (xs : List X) → map f (drop n xs) ≡ drop n (map f xs)
map_drop f zero xs = refl
map_drop f (suc n) [] = refl
map_drop f (suc n) (x ∷ xs) = map_drop f n xs

pub take_over : {X : Type 0} (n : ℕ) (xs : List X) → length xs ≤ n → take n xs ≡ xs
take_over zero [] le = refl
take_over zero (x ∷ xs) le = absurd (omega arith)
take_over (suc n) [] le = refl
take_over (suc n) (x ∷ xs) le = ap (λ zs. x ∷ zs) (take_over n xs (omega arith))

pub behind_long : {X : Type 0} (n : ℕ) (xs : List X) → n ≤ length xs → length (drop n xs) + n ≡ length xs
behind_long zero xs le = omega arith
behind_long (suc n) [] le = absurd (omega arith)
behind_long (suc n) (x ∷ xs) le = omega (arith, behind_long n xs (omega arith))

-- what is behind a place
pub behind_is : (loose_slots : List LooseSlot) (n : ℕ) → n ≤ length loose_slots → map slot_in (take (length loose_slots - n) (drop n loose_slots)) ≡ drop n
    (map slot_in loose_slots)
behind_is loose_slots n le =
    ap (map slot_in) (take_over (length loose_slots - n) (drop n loose_slots) (omega (arith, behind_long n loose_slots le))) ∙ map_drop slot_in n loose_slots

pub size_split : (n : ℕ) (ss : List Slot) → slots_size (take n ss) + slots_size (drop n ss) ≡ slots_size ss
size_split zero ss = omega arith
size_split (suc n) [] = refl
size_split (suc n) (s ∷ ss) = omega (arith, size_split n ss)

small_take : (n : ℕ) (ss : List Slot) → Each IsSlot ss → slots_size (take n ss) ≤ 1360 * n
small_take zero ss h = omega arith
small_take (suc n) [] h = omega arith
small_take (suc n) (s ∷ ss) h = let one : slot_size s ≤ 1360 = h.0.size in omega (arith, small_take n ss h.1)

small_all : (ss : List Slot) → Each IsSlot ss → slots_size ss ≤ 1360 * length ss
small_all [] h = omega arith
small_all (s ∷ ss) h = let one : slot_size s ≤ 1360 = h.0.size in omega (arith, small_all ss h.1)

pub each_drop : (n : ℕ) (ss : List Slot) → Each IsSlot ss → Each IsSlot (drop n ss)
each_drop zero ss h = h
each_drop (suc n) [] h = tt
each_drop (suc n) (s ∷ ss) h = each_drop n ss h.1

pub each_at : (n : ℕ) (ss : List Slot) (d : Slot) → n < length ss → Each IsSlot ss → slot_size (get_or ss n d) ≤ 1360
each_at n [] d lt h = absurd (omega arith)
each_at zero (s ∷ ss) d lt h = h.0.size
each_at (suc n) (s ∷ ss) d lt h = each_at n ss d (omega arith) h.1

drop_long : (n : ℕ) (ss : List Slot) → n ≤ length ss → length (drop n ss) + n ≡ length ss
drop_long zero ss le = omega arith
drop_long (suc n) [] le = absurd (omega arith)
drop_long (suc n) (s ∷ ss) le = omega (arith, drop_long n ss (omega arith))

pub size_next : (n : ℕ) (ss : List Slot) (d : Slot) → n < length ss → slots_size (take n ss) + slot_size (get_or ss n d) ≤ slots_size ss
size_next n [] d lt = absurd (omega arith)
size_next zero (s ∷ ss) d lt = omega arith
size_next (suc n) (s ∷ ss) d lt = omega (arith, size_next n ss d (omega arith))

pub size_all : (n : ℕ) (ss : List Slot) → length ss ≤ n → slots_size (take n ss) ≡ slots_size ss
size_all n [] le = size_none n
  where
    size_none : (n : ℕ) → slots_size (take n []) ≡ 0
    size_none zero = refl
    size_none (suc n) = refl
size_all zero (s ∷ ss) le = absurd (omega arith)
size_all (suc n) (s ∷ ss) le = omega (arith, size_all n ss (omega arith))

take_less : (at whole : ℕ) (ss : List Slot) → at ≤ whole → slots_size (take at ss) ≤ slots_size (take whole ss)
take_less zero whole ss le = omega arith
take_less (suc at) zero ss le = absurd (omega arith)
take_less (suc at) (suc whole) [] le = omega arith
take_less (suc at) (suc whole) (s ∷ ss) le = omega (arith, take_less at whole ss (omega arith))

take_more : (n at : ℕ) (ss : List Slot) (d : Slot) → n < at → n < length ss
    → slots_size (take n ss) + slot_size (get_or ss n d) ≤ slots_size (take at ss)
take_more n zero ss d lt inside = absurd (omega arith)
take_more n (suc at) [] d lt inside = absurd (omega arith)
take_more zero (suc at) (s ∷ ss) d lt inside = omega arith
take_more (suc n) (suc at) (s ∷ ss) d lt inside = omega (arith, take_more n at ss d (omega arith) (omega arith))

-- A part that has more than a limit, and leaves two or more behind it: of all that has more than a page.
pub record IsEven (limit : ℕ) (slots : List Slot) (at : ℕ) : Type 0 where
  pub over : limit < slots_size (take at slots)
  pub part : IsPart false slots at

pub even_part : (slots : List Slot) (d : Slot) (limit n at whole : ℕ) → 1360 ≤ limit → n < at → at ≤ whole → at + 2 ≤ length slots
    → slots_size (take whole slots) ≤ 4080
    → ((s : Slot) → n < length slots → limit < slots_size (take n slots) + slot_size (get_or slots n s)) → Each IsSlot slots → IsEven limit slots at
even_part slots d limit n at whole least lt le two room next h =
    let more = take_more n at slots d lt (omega arith) in
    let over = next d (omega arith) in
    let less = take_less at whole slots le in
    let few = small_take at slots h in
    record { over = omega arith; part = record { room = omega arith; many = λ f long. (omega arith, inr two) } }

-- what is behind a part has little
pub little_behind : (loose_slots : List LooseSlot) (whole behind limit : ℕ) → whole ≤ length loose_slots → length loose_slots ≤ whole + behind
    → slots_size (take behind (map slot_in (take (length loose_slots - whole) (drop whole loose_slots)))) ≤ limit
    → slots_size (map slot_in loose_slots) ≤ slots_size (take whole (map slot_in loose_slots)) + limit
little_behind loose_slots whole behind limit le few room =
    let rest : slots_size (take behind (drop whole (map slot_in loose_slots))) ≤ limit =
    subst (λ ss. slots_size (take behind ss) ≤ limit) (behind_is loose_slots whole le) room in
    let all = size_all behind (drop whole (map slot_in loose_slots)) (omega (
      arith,
      ap length (sym (map_drop slot_in whole loose_slots)),
      long_map slot_in (drop whole loose_slots),
      behind_long whole loose_slots le,
    )) in
    omega (arith, size_split whole (map slot_in loose_slots), all, rest)

module _ (slots : List Slot) (d : Slot) where
  pub part_all : (fills : Bool) (at : ℕ) → at ≤ length slots → length slots ≤ at → slots_size (take at slots) ≤ 4080 → IsPart fills slots at
  part_all fills at le ge room = record { room = room; many = λ f long. (omega arith, inl (omega arith)) }

  pub part_filled : (at : ℕ) → slots_size (take at slots) ≤ 4080 → IsPart true slots at
  part_filled at room = record { room = room; many = λ f. cc }

  pub none_fits : (fills : Bool) (limit : ℕ) → 0 < length slots → 1360 ≤ limit → limit < slots_size (take 0 slots) + slot_size (get_or slots 0 d)
      → Each IsSlot slots → IsPart fills slots 1
  none_fits fills limit some least next h = let one = each_at 0 slots d some h in absurd (omega arith)

  pub part_front : (whole behind : ℕ) → whole < length slots → 4080 < slots_size (take whole slots) + slot_size (get_or slots whole d)
      → slots_size (take whole slots) ≤ 4080 → whole + behind < length slots
      → 1360 < slots_size (take behind (drop whole slots)) + slot_size (get_or (drop whole slots) behind d) → Each IsSlot slots → IsPart false slots whole
  part_front whole behind lt full room more rest h =
      let one = each_at whole slots d lt h in
      let few = small_take whole slots h in
      let long = drop_long whole slots (omega arith) in
      let other = each_at behind (drop whole slots) d (omega arith) (each_drop whole slots h) in
      let fewer = small_take behind (drop whole slots) (each_drop whole slots h) in
      record { room = room; many = λ f two. (omega arith, inr (omega arith)) }

  pub part_half : (whole half : ℕ) → whole < length slots → 4080 < slots_size (take whole slots) + slot_size (get_or slots whole d) → half ≤ length slots
      → slots_size (take half slots) ≤ 2720
      → (half < length slots → 2720 < slots_size (take half slots) + slot_size (get_or slots half d)) → Each IsSlot slots → IsPart false slots half
  part_half whole half lt full le room next h =
      let total = size_next whole slots d lt in
      let rest = size_split half slots in
      let long = drop_long half slots le in
      let many = small_all (drop half slots) (each_drop half slots h) in
      let inside : half < length slots = omega arith in
      let one = each_at half slots d inside h in
      let few = small_take half slots h in
      let over = next inside in
      record { room = omega arith; many = λ f two. (omega arith, inr (omega arith)) }
