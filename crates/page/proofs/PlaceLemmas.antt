-- Where cells begin in a page's bytes: what reading finds there, and what writing leaves there.
use Rattle.std.proofs.Common.{◌≡◌, ℕ, zero, suc, ◌+◌, ◌-◌, ◌<◌, ◌≤◌, Bool, true, false, List, [], ◌∷◌, ◌++◌, length, map, take, drop, replicate, get_or, refl}
use Rattle.std.proofs.Common.{sym, ap, ◌∙◌, subst, arith, append_assoc, length-append, length-drop}
use Rattle.std.specs.Prelude.{◌==◌, ◌&&◌, not, ◌||◌, nat_lt, Result, Ok, Err}
use Rattle.std.specs.List.{AllByRecursion, flat_map}
use Rattle.std.proofs.lemmas.List.{drop-drop, take-append-drop, length-take-le}
use Rattle.std.proofs.lemmas.Bool.Decides.{nat_tests}
use Rattle.std.proofs.Math.Seq.{drop-append_seam}
use Rattle.outcome.specs.Outcome.{◌>>=◌, unless}
use Rattle.page.specs.Content.{total}
use Rattle.page.specs.Format.{are_zeros, places_in}
use Rattle.page.specs.Kept.{starts}
use Rattle.page.specs.declared.page_fault.PageFault.{PageFault}
use Rattle.page.specs.declared.page_fault.PageFault.TheVariants as faults

-- more places behind those found so far
abbrev pub with_front : List ℕ → Result (List ℕ) PageFault → Result (List ℕ) PageFault
with_front front (Ok places) = Ok (front ++ places)
with_front front (Err fault) = Err fault

pub with_one : (front : List ℕ) (at : ℕ) (rest : Result (List ℕ) PageFault)
    → with_front front (rest >>= λ places. Ok (at ∷ places)) ≡ with_front (front ++ at ∷ []) rest
with_one front at (Ok places) = ap (λ (l : List ℕ). Ok l) (sym (append_assoc front (at ∷ []) places))
with_one front at (Err fault) = refl

-- ---- zeros

both : (a b : Bool) → (a && b) ≡ true → (a ≡ true) × (b ≡ true)
both true b is = (refl, is)
both false b is = cc

pub zeros_of : (xs : List ℕ) → are_zeros xs ≡ true → xs ≡ replicate (length xs) 0
zeros_of [] all = refl
zeros_of (x ∷ xs) all =
    let h = both (x == 0) (are_zeros xs) all in
    let is : (x == 0) ≡ true = h.0 in
    let e : x ≡ 0 = grind (arith, nat_tests, is) in
    (λ i. e i ∷ zeros_of xs h.1 i)

pub zeros_are : (n : ℕ) → are_zeros (replicate n 0) ≡ true
zeros_are zero = refl
zeros_are (suc n) = zeros_are n

-- ---- plans that went on

pub passed : {X : Type 0} (test : Bool) (fault : PageFault) (planned : Result X PageFault) (x : X) → unless test fault planned ≡ Ok x → test ≡ false
passed true fault planned x is = cc
passed false fault planned x is = refl

pub went_on : {X : Type 0} (test : Bool) (fault : PageFault) (planned : Result X PageFault) (x : X) → unless test fault planned ≡ Ok x → planned ≡ Ok x
went_on true fault planned x is = cc
went_on false fault planned x is = is

abbrev ok_or : List ℕ → Result (List ℕ) PageFault → List ℕ
ok_or other (Ok places) = places
ok_or other (Err fault) = other

pub record HasRest (at : ℕ) (rest : Result (List ℕ) PageFault) (places : List ℕ) : Type 0 where
  pub behind : List ℕ
  pub found : rest ≡ Ok behind
  pub all : at ∷ behind ≡ places

pub rest_of : (at : ℕ) (rest : Result (List ℕ) PageFault) (places : List ℕ) → (rest >>= λ behind. Ok (at ∷ behind)) ≡ Ok places → HasRest at rest places
rest_of at (Ok behind) places is = record { behind = behind; found = refl; all = ap (ok_or []) is }
rest_of at (Err fault) places is = cc

-- ---- where cells of these sizes begin

pub starts_more : {X : Type 0} (width : X → ℕ) (at : ℕ) (xs : List X) (x : X)
    → starts width at (xs ++ x ∷ []) ≡ starts width at xs ++ (at + total width xs) ∷ []
starts_more width at [] x = let e : at ≡ at + 0 = omega arith in ap (λ (n : ℕ). n ∷ []) e
starts_more width at (y ∷ xs) x =
    let e : at + width y + total width xs ≡ at + (width y + total width xs) = omega arith in
    ap (λ (l : List ℕ). at ∷ l) (starts_more width (at + width y) xs x ∙ ap (λ (n : ℕ). starts width (at + width y) xs ++ n ∷ []) e)

pub length-starts : {X : Type 0} (width : X → ℕ) (at : ℕ) (xs : List X) → length (starts width at xs) ≡ length xs
length-starts width at [] = refl
length-starts width at (x ∷ xs) = ap (λ (n : ℕ). suc n) (length-starts width (at + width x) xs)

pub starts_append : {X : Type 0} (width : X → ℕ) (at : ℕ) (xs ys : List X)
    → starts width at (xs ++ ys) ≡ starts width at xs ++ starts width (at + total width xs) ys
starts_append width at [] ys = ap (λ (n : ℕ). starts width n ys) (omega arith)
starts_append width at (x ∷ xs) ys =
    ap (λ (l : List ℕ). at ∷ l)
    (starts_append width (at + width x) xs ys ∙ ap (λ (n : ℕ). starts width (at + width x) xs ++ starts width n ys) (omega arith))

-- further behind, and further in front
pub starts_later : {X : Type 0} (width : X → ℕ) (at more : ℕ) (xs : List X) → map (λ n. n + more) (starts width at xs) ≡ starts width (at + more) xs
starts_later width at more [] = refl
starts_later width at more (x ∷ xs) =
    ap (λ (l : List ℕ). (at + more) ∷ l) (starts_later width (at + width x) more xs ∙ ap (λ (n : ℕ). starts width n xs) (omega arith))

pub starts_earlier : {X : Type 0} (width : X → ℕ) (at less : ℕ) (xs : List X) → map (λ n. n - less) (starts width (at + less) xs) ≡ starts width at xs
starts_earlier width at less [] = refl
starts_earlier width at less (x ∷ xs) =
    let here : at + less - less ≡ at = omega arith in
    let rest : map (λ n. n - less) (starts width (at + less + width x) xs) ≡ starts width (at + width x) xs =
    ap (λ (n : ℕ). map (λ n. n - less) (starts width n xs)) (omega arith) ∙ starts_earlier width (at + width x) less xs in
    (λ i. here i ∷ rest i)

pub take_starts : {X : Type 0} (width : X → ℕ) (at n : ℕ) (xs : List X) → take n (starts width at xs) ≡ starts width at (take n xs)
take_starts width at zero xs = refl
take_starts width at (suc n) [] = refl
take_starts width at (suc n) (x ∷ xs) = ap (λ (l : List ℕ). at ∷ l) (take_starts width (at + width x) n xs)

pub drop_starts : {X : Type 0} (width : X → ℕ) (at n : ℕ) (xs : List X) → drop n (starts width at xs) ≡ starts width (at + total width (take n xs)) (drop n xs)
drop_starts width at zero xs = ap (λ (n : ℕ). starts width n xs) (omega arith)
drop_starts width at (suc n) [] = refl
drop_starts width at (suc n) (x ∷ xs) = drop_starts width (at + width x) n xs ∙ ap (λ (n' : ℕ). starts width n' (drop n xs)) (omega arith)

pub get_starts : {X : Type 0} (width : X → ℕ) (at n d : ℕ) (xs : List X) → n < length xs → get_or (starts width at xs) n d ≡ at + total width (take n xs)
get_starts width at n d [] lt = absurd (omega arith)
get_starts width at zero d (x ∷ xs) lt = omega arith
get_starts width at (suc n) d (x ∷ xs) lt = omega (arith, get_starts width (at + width x) n d xs (omega arith))

pub total-append : {X : Type 0} (size : X → ℕ) (xs ys : List X) → total size (xs ++ ys) ≡ total size xs + total size ys
total-append size [] ys = omega arith
total-append size (x ∷ xs) ys = omega (arith, total-append size xs ys)

pub length-joined : {X : Type 0} (bytes : X → List ℕ) (width : X → ℕ) → ((x : X) → length (bytes x) ≡ width x) → (xs : List X)
    → length (flat_map bytes xs) ≡ total width xs
length-joined bytes width each [] = refl
length-joined bytes width each (x ∷ xs) = omega (arith, length-append (bytes x) (flat_map bytes xs), each x, length-joined bytes width each xs)

pub total_take : {X : Type 0} (size : X → ℕ) (n : ℕ) (xs : List X) → total size (take n xs) ≤ total size xs
total_take size zero xs = omega arith
total_take size (suc n) [] = omega arith
total_take size (suc n) (x ∷ xs) = omega (arith, total_take size n xs)

pub each_at : {X : Type 0} (P : X → Type 0) (xs : List X) (i : ℕ) (d : X) → i < length xs → AllByRecursion P xs → P (get_or xs i d)
each_at P [] i d within each = absurd (omega arith)
each_at P (x ∷ xs) zero d within each = each.0
each_at P (x ∷ xs) (suc i) d within each = each_at P xs i d (omega arith) each.1

-- ---- bytes

abbrev pub AreBytes : List ℕ → Type 0
AreBytes bytes = (i : ℕ) → get_or bytes i 0 < 256

pub bytes_drop : (n : ℕ) (xs : List ℕ) → AreBytes xs → AreBytes (drop n xs)
bytes_drop zero xs small = small
bytes_drop (suc n) [] small = small
bytes_drop (suc n) (x ∷ xs) small = bytes_drop n xs (λ i. small (suc i))

pub bytes_take : (n : ℕ) (xs : List ℕ) → AreBytes xs → AreBytes (take n xs)
bytes_take zero xs small i = omega arith
bytes_take (suc n) [] small i = small i
bytes_take (suc n) (x ∷ xs) small zero = small 0
bytes_take (suc n) (x ∷ xs) small (suc i) = bytes_take n xs (λ k. small (suc k)) i

-- ---- the tests of a size

not_not : (b : Bool) → not b ≡ false → b ≡ true
not_not true is = refl
not_not false is = cc

pub not_large : (most len s : ℕ) → (nat_lt most s || nat_lt len s) ≡ false → s ≤ most
not_large most len s is = grind (arith, nat_tests, is)

pub not_long : (most len s : ℕ) → (nat_lt most s || nat_lt len s) ≡ false → s ≤ len
not_long most len s is = grind (arith, nat_tests, is)

pub both_pass : (most len s : ℕ) → s ≤ most → s ≤ len → (nat_lt most s || nat_lt len s) ≡ false
both_pass most len s near fits = grind (arith, nat_tests, near, fits)

-- ---- what reading finds, and what writing leaves

module _ {X : Type 0} (size : List ℕ → ℕ) (read : List ℕ → X) (bytes_of : X → List ℕ) where
  -- these many cells from a place on are whole, and with zeros behind them spell the bytes
  pub record Found (bytes : List ℕ) (n at : ℕ) (places : List ℕ) : Type 0 where
    pub count : length places ≡ n
    pub whole : AllByRecursion (λ (p : ℕ). (p + size (drop p bytes) ≤ length bytes) × (size (drop p bytes) ≤ 1360)) places
    pub zeros : ℕ
    pub spelled : drop at bytes ≡ flat_map bytes_of (map (λ p. read (drop p bytes)) places) ++ replicate zeros 0
    pub placed : places ≡ starts (λ x. length (bytes_of x)) at (map (λ p. read (drop p bytes)) places)

  module _ (again : (b : List ℕ) → AreBytes b → size b ≤ length b → bytes_of (read b) ≡ take (size b) b) (some : (b : List ℕ) → 0 < size b) where
    pub found : (bytes : List ℕ) (n at : ℕ) (places : List ℕ) → AreBytes bytes → at ≤ length bytes → places_in size n at bytes ≡ Ok places
        → Found bytes n at places
    found bytes zero at places small room is =
        let none : (not (are_zeros (drop at bytes))) ≡ false = passed (not (are_zeros (drop at bytes))) faults.Length (Ok []) places is in
        let all : are_zeros (drop at bytes) ≡ true = not_not (are_zeros (drop at bytes)) none in
        let e : [] ≡ places = ap (ok_or []) (went_on (not (are_zeros (drop at bytes))) faults.Length (Ok []) places is) in
        subst (Found bytes zero at) e
        (record { count = refl; whole = tt; zeros = length (drop at bytes); spelled = zeros_of (drop at bytes) all; placed = refl })
    found bytes (suc n) at places small room is =
        let b = drop at bytes in
        let s = size b in
        let more : Result (List ℕ) PageFault = places_in size n (at + s) bytes in
        let test : Bool = nat_lt 1360 s || nat_lt (length b) s in
        let passes : test ≡ false = passed test faults.Length (more >>= λ behind. Ok (at ∷ behind)) places is in
        let r = rest_of at more places (went_on test faults.Length (more >>= λ behind. Ok (at ∷ behind)) places is) in
        let small_size : s ≤ 1360 = not_large 1360 (length b) s passes in
        let fits : s ≤ length b = not_long 1360 (length b) s passes in
        let len : length b ≡ length bytes - at = length-drop at bytes in
        let ends : at + s ≤ length bytes = omega (arith, some b) in
        let rest = found bytes n (at + s) r.behind small ends r.found in
        let joined : b ≡ (bytes_of (read b) ++ flat_map bytes_of (map (λ p. read (drop p bytes)) r.behind)) ++ replicate rest.zeros 0 =
        sym (take-append-drop s b)
        ∙ ap (λ (l : List ℕ). take s b ++ l) (drop-drop s at bytes ∙ rest.spelled)
        ∙ ap (λ (l : List ℕ). l ++ (flat_map bytes_of (map (λ p. read (drop p bytes)) r.behind) ++ replicate rest.zeros 0))
        (sym (again b (bytes_drop at bytes small) fits))
        ∙ sym (append_assoc (bytes_of (read b)) (flat_map bytes_of (map (λ p. read (drop p bytes)) r.behind)) (replicate rest.zeros 0)) in
        let long : length (bytes_of (read b)) ≡ s = ap (λ (l : List ℕ). length l) (again b (bytes_drop at bytes small) fits) ∙ length-take-le s b fits in
        let next : r.behind ≡ starts (λ x. length (bytes_of x)) (at + length (bytes_of (read b))) (map (λ p. read (drop p bytes)) r.behind) =
        rest.placed ∙ ap (λ (k : ℕ). starts (λ x. length (bytes_of x)) (at + k) (map (λ p. read (drop p bytes)) r.behind)) (sym long) in
        subst (Found bytes (suc n) at) r.all
        (record {
          count = ap (λ (k : ℕ). suc k) rest.count;
          whole = ((ends, small_size), rest.whole);
          zeros = rest.zeros;
          spelled = joined;
          placed = λ i. at ∷ next i;
        })

  module _ (width : X → ℕ) (Sound : X → Type 0) (len : (x : X) → length (bytes_of x) ≡ width x)
      (back : (x : X) (rest : List ℕ) → Sound x → read (bytes_of x ++ rest) ≡ x)
      (sizes : (x : X) (rest : List ℕ) → Sound x → size (bytes_of x ++ rest) ≡ width x) where
    front : (bytes : List ℕ) (at : ℕ) (x : X) (xs : List X) (rest : List ℕ) → drop at bytes ≡ flat_map bytes_of (x ∷ xs) ++ rest
        → drop at bytes ≡ bytes_of x ++ (flat_map bytes_of xs ++ rest)
    front bytes at x xs rest is = is ∙ append_assoc (bytes_of x) (flat_map bytes_of xs) rest

    behind : (bytes : List ℕ) (at : ℕ) (x : X) (xs : List X) (rest : List ℕ) → drop at bytes ≡ flat_map bytes_of (x ∷ xs) ++ rest
        → drop (at + width x) bytes ≡ flat_map bytes_of xs ++ rest
    behind bytes at x xs rest is =
        sym (drop-drop (width x) at bytes) ∙ ap (λ (l : List ℕ). drop (width x) l) (front bytes at x xs rest is)
        ∙ ap (λ (k : ℕ). drop k (bytes_of x ++ (flat_map bytes_of xs ++ rest))) (sym (len x)) ∙ drop-append_seam (bytes_of x) (flat_map bytes_of xs ++ rest)

    -- cells that were written one behind the other are read again
    pub read_again : (bytes : List ℕ) (at : ℕ) (xs : List X) (rest : List ℕ) → AllByRecursion Sound xs → drop at bytes ≡ flat_map bytes_of xs ++ rest
        → map (λ p. read (drop p bytes)) (starts width at xs) ≡ xs
    read_again bytes at [] rest sound is = refl
    read_again bytes at (x ∷ xs) rest sound is =
        let one : read (drop at bytes) ≡ x = ap read (front bytes at x xs rest is) ∙ back x (flat_map bytes_of xs ++ rest) sound.0 in
        let others = read_again bytes (at + width x) xs rest sound.1 (behind bytes at x xs rest is) in
        (λ i. one i ∷ others i)

    size_is : (bytes : List ℕ) (at : ℕ) (x : X) (xs : List X) (rest : List ℕ) → Sound x → drop at bytes ≡ flat_map bytes_of (x ∷ xs) ++ rest
        → size (drop at bytes) ≡ width x
    size_is bytes at x xs rest sound is = ap size (front bytes at x xs rest is) ∙ sizes x (flat_map bytes_of xs ++ rest) sound

    -- they are whole
    pub whole_again : (bytes : List ℕ) (at : ℕ) (xs : List X) (rest : List ℕ) → AllByRecursion Sound xs → drop at bytes ≡ flat_map bytes_of xs ++ rest
        → at + total width xs ≤ 4080 → AllByRecursion (λ (p : ℕ). p + size (drop p bytes) ≤ 4080) (starts width at xs)
    whole_again bytes at [] rest sound is room = tt
    whole_again bytes at (x ∷ xs) rest sound is room =
        let e : size (drop at bytes) ≡ width x = size_is bytes at x xs rest sound.0 is in
        (omega (arith, e), whole_again bytes (at + width x) xs rest sound.1 (behind bytes at x xs rest is) (omega arith))

    -- and their places are found
    pub found_again : ((x : X) → Sound x → width x ≤ 1360) → (bytes : List ℕ) (at : ℕ) (xs : List X) (zeros : ℕ) → AllByRecursion Sound xs
        → drop at bytes ≡ flat_map bytes_of xs ++ replicate zeros 0
        → places_in size (length xs) at bytes ≡ Ok (starts width at xs)
    found_again most bytes at [] zeros sound is =
        let all : are_zeros (drop at bytes) ≡ true = ap are_zeros is ∙ zeros_are zeros in
        let none : not (are_zeros (drop at bytes)) ≡ false = ap not all in
        ap (λ (t : Bool). unless t faults.Length (Ok [])) none
    found_again most bytes at (x ∷ xs) zeros sound is =
        let e : size (drop at bytes) ≡ width x = size_is bytes at x xs (replicate zeros 0) sound.0 is in
        let near : width x ≤ 1360 = most x sound.0 in
        let long : length (drop at bytes) ≡ width x + length (flat_map bytes_of xs ++ replicate zeros 0) =
        ap (λ (l : List ℕ). length l) (front bytes at x xs (replicate zeros 0) is) ∙ length-append (bytes_of x) (flat_map bytes_of xs ++ replicate zeros 0)
        ∙ ap (λ (k : ℕ). k + length (flat_map bytes_of xs ++ replicate zeros 0)) (len x) in
        let passes : (nat_lt 1360 (size (drop at bytes)) || nat_lt (length (drop at bytes)) (size (drop at bytes))) ≡ false =
        both_pass 1360 (length (drop at bytes)) (size (drop at bytes)) (omega (arith, e)) (omega (arith, e, long)) in
        let rest : places_in size (length xs) (at + size (drop at bytes)) bytes ≡ Ok (starts width (at + width x) xs) =
        ap (λ (k : ℕ). places_in size (length xs) (at + k) bytes) e
        ∙ found_again most bytes (at + width x) xs zeros sound.1 (behind bytes at x xs (replicate zeros 0) is) in
        ap (λ (t : Bool). unless t faults.Length (places_in size (length xs) (at + size (drop at bytes)) bytes >>= λ places. Ok (at ∷ places))) passes
        ∙ ap (λ (r : Result (List ℕ) PageFault). r >>= λ places. Ok (at ∷ places)) rest
