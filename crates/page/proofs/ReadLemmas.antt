-- The steps of reading a page: one cell more, one key more, one number more.
use Rattle.std.proofs.Common.{◌≡◌, ◌≢◌, ℕ, zero, suc, ◌+◌, ◌-◌, ◌*◌, ◌<◌, ◌≤◌, Bool, true, false, List, [], ◌∷◌, ◌++◌, length, map, take, drop, get_or, refl}
use Rattle.std.proofs.Common.{sym, ap, ◌∙◌, subst, arith, append_assoc, length-drop}
use Rattle.std.specs.Prelude.{◌==◌, ◌&&◌, ◌||◌, not, nat_lt, Result, Ok, Err, Some, slice_get, slice_index}
use Rattle.std.specs.Option.{option_map}
use Rattle.std.specs.List.{AllByRecursion}
use Rattle.std.specs.Ordering.{is_lt}
use Rattle.std.specs.declared.cmp.Ordering.{Ordering}
use Rattle.std.specs.declared.cmp.Ordering.TheVariants.{Less, Equal, Greater}
use Rattle.std.proofs.lemmas.List.{drop-drop, take_all}
use Rattle.std.proofs.lemmas.Simd.{map-map}
use Rattle.std.proofs.lemmas.Option.{slice_get-map, slice_get-get_or}
use Rattle.std.proofs.lemmas.Bool.Decides.{nat_tests}
use Rattle.std.proofs.Math.Seq.{drop-cons}
use Rattle.byteorder.specs.Endian.{little_number}
use Rattle.outcome.specs.Outcome.{◌>>=◌, unless}
use Rattle.page.specs.Content.{Content, leaf, branch, item_keys, pivot_keys, is_below, rise, rise_above}
use Rattle.page.specs.Format.{item_in, pivot_in, items_at, pivots_at, leaf_cell_size, branch_cell_size, PageModel, generation_in, content_in, model_in}
use Rattle.page.specs.Format.{places_in}
use Rattle.page.specs.Format.{leaf_in, branch_in, numbers_in}
use Rattle.page.specs.declared.page_fault.PageFault.{PageFault}
use Rattle.page.specs.declared.page_fault.PageFault.TheVariants as faults
use Rattle.page.proofs.PlaceLemmas.{with_front, with_one}

-- ---- keys

pub less : (o : Ordering) → o ≡ Less → is_lt o ≡ true
less o is = ap is_lt is

pub not_less : (o : Ordering) → o ≢ Less → is_lt o ≡ false
not_less Less isnt = absurd (isnt refl)
not_less Equal isnt = refl
not_less Greater isnt = refl

next_place : (places : List ℕ) (i : ℕ) → i < length places → drop i places ≡ get_or places i 0 ∷ drop (i + 1) places
next_place places i within =
    let up : suc i ≡ i + 1 = omega arith in
    drop-cons places i 0 within ∙ ap (λ (n : ℕ). get_or places i 0 ∷ drop n places) up

pub rise_step : (key : ℕ → List ℕ) (last : List ℕ) (places : List ℕ) (i : ℕ) → i < length places → is_below last (key (get_or places i 0)) ≡ true
    → rise_above last (map key (drop i places)) ≡ rise_above (key (get_or places i 0)) (map key (drop (i + 1) places))
rise_step key last places i within below =
    ap (λ (l : List ℕ). rise_above last (map key l)) (next_place places i within)
    ∙ ap (λ (b : Bool). b && rise_above (key (get_or places i 0)) (map key (drop (i + 1) places))) below

pub rise_stops : (key : ℕ → List ℕ) (last : List ℕ) (places : List ℕ) (i : ℕ) → i < length places → is_below last (key (get_or places i 0)) ≡ false
    → rise_above last (map key (drop i places)) ≡ false
rise_stops key last places i within below =
    ap (λ (l : List ℕ). rise_above last (map key l)) (next_place places i within)
    ∙ ap (λ (b : Bool). b && rise_above (key (get_or places i 0)) (map key (drop (i + 1) places))) below

-- ---- places

fault_in : Result ℕ PageFault → PageFault
fault_in (Ok n) = faults.Length
fault_in (Err fault) = fault

number_in : Result ℕ PageFault → ℕ
number_in (Ok n) = n
number_in (Err fault) = 0

step_err : (t : Bool) (s : ℕ) (e : PageFault) (r : Result (List ℕ) PageFault) → unless t faults.Length (Ok s) ≡ Err e → unless t faults.Length r ≡ Err e
unfolding fault_in
step_err true s e r is = ap (λ (fault : PageFault). Err fault) (ap fault_in is)
step_err false s e r is = cc

step_ok : (t : Bool) (s found : ℕ) (r : Result (List ℕ) PageFault) → unless t faults.Length (Ok s) ≡ Ok found → unless t faults.Length r ≡ r
step_ok true s found r is = cc
step_ok false s found r is = refl

step_size : (t : Bool) (s found : ℕ) → unless t faults.Length (Ok s) ≡ Ok found → s ≡ found
unfolding number_in
step_size true s found is = cc
step_size false s found is = ap number_in is

step_room : (t : Bool) (most len s found : ℕ) → t ≡ (nat_lt most s || nat_lt len s) → unless t faults.Length (Ok s) ≡ Ok found → s ≤ len
step_room true most len s found test is = cc
step_room false most len s found test is = grind (arith, nat_tests, test)

-- a slice from a place on
pub slice_same : (at : ℕ) (bytes : List ℕ) → take (length bytes - at) (drop at bytes) ≡ drop at bytes
slice_same at bytes = take_all (length bytes - at) (drop at bytes) (omega (arith, length-drop at bytes))

module _ (size : List ℕ → ℕ) (bytes : List ℕ) (count counter at : ℕ) (within : counter < count) where
  next : places_in size (count - counter) at bytes ≡ places_in size (suc (count - (counter + 1))) at bytes
  next = let e : count - counter ≡ suc (count - (counter + 1)) = omega arith in ap (λ (n : ℕ). places_in size n at bytes) e

  -- what a test of the bytes behind the place says
  abbrev Judged : List ℕ → Result ℕ PageFault → Type 0
  Judged b r = unless (nat_lt 1360 (size b) || nat_lt (length b) (size b)) faults.Length (Ok (size b)) ≡ r

  behind : (r : Result ℕ PageFault) → Judged (take (length bytes - at) (drop at bytes)) r → Judged (drop at bytes) r
  behind r is = subst (λ (b : List ℕ). Judged b r) (slice_same at bytes) is

  pub place_refused : (front : List ℕ) (e : PageFault) → Judged (take (length bytes - at) (drop at bytes)) (Err e)
      → with_front front (places_in size (count - counter) at bytes) ≡ Err e
  place_refused front e is =
      ap (with_front front)
      (next ∙ step_err (nat_lt 1360 (size (drop at bytes)) || nat_lt (length (drop at bytes)) (size (drop at bytes))) (size (drop at bytes)) e
      (places_in size (count - (counter + 1)) (at + size (drop at bytes)) bytes >>= λ places. Ok (at ∷ places)) (behind (Err e) is))

  pub place_passed : (front : List ℕ) (found : ℕ) → Judged (take (length bytes - at) (drop at bytes)) (Ok found)
      → with_front front (places_in size (count - counter) at bytes) ≡ with_front (front ++ at ∷ []) (places_in size (count - (counter + 1)) (at + found) bytes)
  place_passed front found is =
      ap (with_front front)
      (next ∙ step_ok (nat_lt 1360 (size (drop at bytes)) || nat_lt (length (drop at bytes)) (size (drop at bytes))) (size (drop at bytes)) found
      (places_in size (count - (counter + 1)) (at + size (drop at bytes)) bytes >>= λ places. Ok (at ∷ places)) (behind (Ok found) is))
      ∙ with_one front at (places_in size (count - (counter + 1)) (at + size (drop at bytes)) bytes)
      ∙ ap (λ (n : ℕ). with_front (front ++ at ∷ []) (places_in size (count - (counter + 1)) (at + n) bytes))
      (step_size (nat_lt 1360 (size (drop at bytes)) || nat_lt (length (drop at bytes)) (size (drop at bytes))) (size (drop at bytes)) found
      (behind (Ok found) is))

  pub place_room : (found : ℕ) → Judged (take (length bytes - at) (drop at bytes)) (Ok found)
      → found ≤ length (drop at bytes)
  place_room found is =
      subst (λ (n : ℕ). n ≤ length (drop at bytes))
      (step_size (nat_lt 1360 (size (drop at bytes)) || nat_lt (length (drop at bytes)) (size (drop at bytes))) (size (drop at bytes)) found
      (behind (Ok found) is))
      (step_room (nat_lt 1360 (size (drop at bytes)) || nat_lt (length (drop at bytes)) (size (drop at bytes))) 1360 (length (drop at bytes))
      (size (drop at bytes)) found refl (behind (Ok found) is))

pub cell_at : {X : Type 0} (f : ℕ → X) (places : List ℕ) (i : ℕ) → i < length places → slice_get (map f places) i ≡ Some (f (get_or places i 0))
cell_at f places i within = slice_get-map f places i ∙ ap (option_map f) (slice_get-get_or places i 0 within)

pub all_drop : (P : ℕ → Type 0) (n : ℕ) (xs : List ℕ) → AllByRecursion P xs → AllByRecursion P (drop n xs)
all_drop P zero xs all = all
all_drop P (suc n) [] all = all
all_drop P (suc n) (x ∷ xs) all = all_drop P n xs all.1

-- ---- a leaf and a branch, by their places

pub leaf_rises : (bytes places : List ℕ) → 0 < length places
    → rise_above (item_in (drop (get_or places 0 0) bytes)).key (map (λ at. (item_in (drop at bytes)).key) (drop 1 places))
    ≡ rise (item_keys (items_at bytes places))
leaf_rises bytes [] some = absurd (omega arith)
leaf_rises bytes (p ∷ ps) some =
    ap (rise_above (item_in (drop p bytes)).key) (sym (map-map (λ item. item.key) (λ at. item_in (drop at bytes)) ps))

pub branch_rises : (bytes places : List ℕ)
    → rise_above [] (map (λ at. (pivot_in (drop at bytes)).key) places) ≡ rise (pivot_keys (pivots_at bytes places))
branch_rises bytes places =
    ap (rise_above []) (sym (map-map (λ pivot. pivot.key) (λ at. pivot_in (drop at bytes)) places))

module _ (count : ℕ) (bytes places : List ℕ) where
  pub leaf_judged : (ascends : Bool) → 0 < count → places_in leaf_cell_size count 0 bytes ≡ Ok places → rise (item_keys (items_at bytes places)) ≡ ascends
      → leaf_in count bytes ≡ unless (not ascends) faults.Order (Ok (leaf (items_at bytes places)))
  leaf_judged ascends some is rises =
      let t : (count == 0) ≡ false = grind (arith, nat_tests, some) in
      rw (t, is, rises) refl

  pub branch_judged : (ascends : Bool) → 2 ≤ count → places_in branch_cell_size (count - 1) 4 bytes ≡ Ok places
      → rise (pivot_keys (pivots_at bytes places)) ≡ ascends
      → branch_in count bytes ≡ unless (not ascends) faults.Order (Ok (branch (pivots_at bytes places)))
  branch_judged ascends some is rises =
      let t : nat_lt count 2 ≡ false = grind (arith, nat_tests, some) in
      rw (t, is, rises) refl

-- ---- numbers

pub numbers_step : (front : List ℕ) (count i : ℕ) (bytes : List ℕ) → i < count
    → front ++ numbers_in (count - i) (drop (4 * i) bytes) ≡ (front ++ little_number 4 (drop (4 * i) bytes) ∷ [])
    ++ numbers_in (count - (i + 1)) (drop (4 * (i + 1)) bytes)
numbers_step front count i bytes within =
    let e : count - i ≡ suc (count - (i + 1)) = omega arith in
    let extends : 4 * i + 4 ≡ 4 * (i + 1) = omega arith in
    ap (λ (n : ℕ). front ++ numbers_in n (drop (4 * i) bytes)) e
    ∙ ap (λ (l : List ℕ). front ++ (little_number 4 (drop (4 * i) bytes) ∷ numbers_in (count - (i + 1)) l))
    (drop-drop 4 (4 * i) bytes ∙ ap (λ (n : ℕ). drop n bytes) extends)
    ∙ sym (append_assoc front (little_number 4 (drop (4 * i) bytes) ∷ []) (numbers_in (count - (i + 1)) (drop (4 * (i + 1)) bytes)))

-- ---- a whole page

abbrev model_by : ℕ → ℕ → Content → Result PageModel PageFault
model_by number born inside = Ok (record { page = number; generation = born; content = inside })

-- what a page gives whose generation was read
pub model_planned : (number generation born count : ℕ) (bytes : List ℕ) (inside : Result Content PageFault) → length bytes ≡ 4096
    → generation_in number generation bytes ≡ Ok born
    → count ≡ little_number 2 (take 4094 (drop 2 bytes)) → content_in (slice_index bytes 0) count (take 4080 (drop 16 bytes)) ≡ inside
    → model_in number generation bytes ≡ (inside >>= model_by number born)
model_planned number generation born count bytes inside len gen is found =
    let two : take 4094 (drop 2 bytes) ≡ drop 2 bytes = take_all 4094 (drop 2 bytes) (omega (arith, len, length-drop 2 bytes)) in
    let body : take 4080 (drop 16 bytes) ≡ drop 16 bytes = take_all 4080 (drop 16 bytes) (omega (arith, len, length-drop 16 bytes)) in
    let same : content_in (slice_index bytes 0) count (take 4080 (drop 16 bytes))
    ≡ content_in (slice_index bytes 0) (little_number 2 (drop 2 bytes)) (drop 16 bytes) =
    (λ i. content_in (slice_index bytes 0) ((is ∙ ap (little_number 2) two) i) (body i)) in
    ap (λ (r : Result ℕ PageFault). r >>= λ born. content_in (slice_index bytes 0) (little_number 2 (drop 2 bytes)) (drop 16 bytes) >>= model_by number born)
    gen
    ∙ ap (λ (r : Result Content PageFault). r >>= model_by number born) (sym same ∙ found)
