-- Whole messages, and what isn't whole yet.
use Rattle.std.proofs.Common.{◌≡◌, ◌⊎◌, inl, inr, ℕ, ◌≤◌, ◌<◌, ◌+◌, ◌-◌, List, [], ◌∷◌, ◌++◌, length, take, drop, refl, sym, ◌∙◌, ap, subst, arith}
use Rattle.std.proofs.Common.{length-append}
use Rattle.std.specs.Prelude.{Bool, true, false, ◌||◌, nat_lt, Result, Ok, Err, Option, Some, None, OnOk, IfSome, is_ok, option_map, if◌then◌else◌}
use Rattle.std.specs.Global.{Vec}
use Rattle.std.specs.List.{flat_map}
use Rattle.std.specs.Prelude.{slice_index_or, slice_set}
use Rattle.std.proofs.lemmas.List.Concat.{flat_map-append}
use Rattle.std.proofs.lemmas.List.{append_assoc, append-nil, take_more, set_at, take-append-drop, take-append-le, length-take-le, length-drop, take-take}
use Rattle.std.proofs.lemmas.List.{take_all, take_at, drop_all}
use Rattle.std.specs.Int.{w32, from_le_bytes}
use Rattle.outcome.specs.Outcome.{◌>>=◌}
use Rattle.op_msg.specs.Frame.{Frame, front, frame_of, number_at, is_no_length}
use Rattle.op_msg.specs.Request.{head_of, is_waiting}
use Rattle.op_msg.specs.Stream.{Begins}
use Rattle.op_msg.specs.Whole.{AreWhole, IsBegun, EndsAt, EndsIn}
use Rattle.op_msg.specs.declared.fault.FrameFault.{FrameFault}
use Rattle.op_msg.specs.declared.fault.FrameFault.TheVariants as faults
use Rattle.op_msg.specs.declared.request.Head.{Head}
use Rattle.op_msg.proofs.Streams.{Front, front_by, found, with_more, IsThere, there, stays, begins_on, one_found}

-- ---- lists

pub take_further : (a b : List ℕ) (n : ℕ) → length a ≤ n → n ≤ length (a ++ b) → take n (a ++ b) ≡ a ++ take (n - length a) b
take_further a b n past fits =
    let m = n - length a in
    let all = length-append a b in
    let len : length (take m b) ≡ m = length-take-le m b (omega (arith, all, past, fits)) in
    let parts : (a ++ take m b) ++ drop m b ≡ a ++ b = append_assoc a (take m b) (drop m b) ∙ ap (λ (xs : List ℕ). a ++ xs) (take-append-drop m b) in
    ap (λ (xs : List ℕ). take n xs) (sym parts) ∙ take_at (a ++ take m b) (drop m b) n (omega (arith, length-append a (take m b), len, past))

pub take_both : (xs : List ℕ) (i j : ℕ) → i ≤ length xs → j ≤ length (drop i xs) → take (i + j) xs ≡ take i xs ++ take j (drop i xs)
take_both xs i j within rest =
    let front_len = length-take-le i xs within in
    let all : take i xs ++ drop i xs ≡ xs = take-append-drop i xs in
    ap (λ (ys : List ℕ). take (i + j) ys) (sym all)
    ∙ take_further (take i xs) (drop i xs) (i + j) (omega (arith, front_len)) (omega (arith, front_len, rest, length-append (take i xs) (drop i xs)))
    ∙ ap (λ (m : ℕ). take i xs ++ take m (drop i xs)) (omega (arith, front_len))

-- ---- the front, by what its length says

below : (a b : ℕ) → a < b → nat_lt a b ≡ true
below a b e = grind arith

not_below : (a b : ℕ) → b ≤ a → nat_lt a b ≡ false
not_below a b e = grind arith

at_least : (a b : ℕ) → nat_lt a b ≡ false → b ≤ a
at_least a b e = grind arith

neither : (a b : Bool) → (a || b) ≡ false → (a ≡ false) × (b ≡ false)
neither true b e = absurd cc
neither false b e = (refl, e)

pub lengths : (n : ℕ) → is_no_length n ≡ false → (26 ≤ n) × (n ≤ 1048576)
lengths n e =
    let both = neither (nat_lt n 26) (nat_lt 1048576 n) e in
    (at_least n 26 both.0, at_least 1048576 n both.1)

front_is : (bytes : List ℕ)
    → front bytes ≡ front_by (nat_lt (length bytes) 4) (is_no_length (number_at 0 bytes)) (nat_lt (length bytes) (number_at 0 bytes))
    (frame_of (take (number_at 0 bytes) bytes)) (drop (number_at 0 bytes) bytes)
unfolding front
front_is bytes = refl

pub too_few : (bytes : List ℕ) → length bytes < 4 → IsBegun bytes
too_few bytes few =
    let n = number_at 0 bytes in
    front_is bytes
    ∙ ap (λ (s : Bool). front_by s (is_no_length n) (nat_lt (length bytes) n) (frame_of (take n bytes)) (drop n bytes)) (below (length bytes) 4 few)

long_front : (bytes : List ℕ) (w p : Bool) → 4 ≤ length bytes → is_no_length (number_at 0 bytes) ≡ w → nat_lt (length bytes) (number_at 0 bytes) ≡ p
    → front bytes ≡ front_by false w p (frame_of (take (number_at 0 bytes) bytes)) (drop (number_at 0 bytes) bytes)
long_front bytes w p long e f =
    let n = number_at 0 bytes in
    front_is bytes
    ∙ ap (λ (s : Bool). front_by s (is_no_length n) (nat_lt (length bytes) n) (frame_of (take n bytes)) (drop n bytes)) (not_below (length bytes) 4 long)
    ∙ ap (λ (s : Bool). front_by false s (nat_lt (length bytes) n) (frame_of (take n bytes)) (drop n bytes)) e
    ∙ ap (λ (s : Bool). front_by false w s (frame_of (take n bytes)) (drop n bytes)) f

faulty : (bytes : List ℕ) (fault : FrameFault) → front bytes ≡ Err fault → AreWhole bytes
faulty bytes fault e = ([], bytes, refl, inr (fault, e))

alone_by : (bytes rest : List ℕ) (r : Result Frame FrameFault) → rest ≡ [] → front bytes ≡ (r >>= λ f. found f rest) → AreWhole bytes
alone_by bytes rest (Ok f) none e = (f ∷ [], [], (rest, e, sym none), inl refl)
alone_by bytes rest (Err fault) none e = faulty bytes fault e

one_whole : (bytes : List ℕ) → 4 ≤ length bytes → is_no_length (number_at 0 bytes) ≡ false → number_at 0 bytes ≤ length bytes
    → AreWhole (take (number_at 0 bytes) bytes)
one_whole bytes long right fits =
    let n = number_at 0 bytes in
    let first = take n bytes in
    let len : length first ≡ n = length-take-le n bytes fits in
    let least = (lengths n right).0 in
    let same : number_at 0 first ≡ n = ap (λ (xs : List ℕ). from_le_bytes w32 xs) (take-take 4 n bytes (omega (arith, least))) in
    let is = long_front first false false (omega (arith, len, least)) (ap is_no_length same ∙ right)
    (not_below (length first) (number_at 0 first) (omega (arith, len, same))) in
    alone_by first (drop (number_at 0 first) first) (frame_of (take (number_at 0 first) first))
    (drop_all (number_at 0 first) first (omega (arith, len, same))) is

pub no_message : (bytes : List ℕ) (count : ℕ) → 4 ≤ length bytes → is_no_length (number_at 0 bytes) ≡ true → length bytes ≡ count → EndsAt (Some count) bytes
no_message bytes count long wrong is = (
  omega (arith, long, is),
  omega (arith, is),
  subst AreWhole (sym (take_all count bytes (omega (arith, is))))
      (faulty bytes faults.Length (long_front bytes true (nat_lt (length bytes) (number_at 0 bytes)) long wrong refl)),
)

pub not_whole : (bytes : List ℕ) → 4 ≤ length bytes → is_no_length (number_at 0 bytes) ≡ false → length bytes < number_at 0 bytes → IsBegun bytes
not_whole bytes long right part = long_front bytes false true long right (below (length bytes) (number_at 0 bytes) part)

pub is_whole : (bytes : List ℕ) (len : ℕ) → 4 ≤ length bytes → is_no_length (number_at 0 bytes) ≡ false → number_at 0 bytes ≡ len → len ≤ length bytes
    → EndsAt (Some len) bytes
is_whole bytes len long right same fits = (
  omega (arith, (lengths (number_at 0 bytes) right).0, same),
  fits,
  subst (λ (n : ℕ). AreWhole (take n bytes)) same (one_whole bytes long right (omega (arith, same, fits))),
)

-- ---- whole messages

pub none_whole : AreWhole []
none_whole = ([], [], refl, inl refl)

there_by : (w : List ℕ) (frames : List Frame) (rest : List ℕ) → Begins w frames rest → (rest ≡ []) ⊎ ((fault : FrameFault) × (front rest ≡ Err fault))
    → (w ≡ []) ⊎ IsThere (front w)
there_by w [] rest begins (inl none) = inl (sym begins ∙ none)
there_by w [] rest begins (inr fault) = inr (subst IsThere (sym (ap front (sym begins) ∙ fault.1)) tt)
there_by w (f ∷ fs) rest begins end = inr (subst IsThere (sym begins.1) tt)

is_there : (w : List ℕ) → AreWhole w → (w ≡ []) ⊎ IsThere (front w)
is_there w whole = there_by w whole.0 whole.1 whole.2 whole.3

on_by : (w p : List ℕ) → (w ≡ []) ⊎ IsThere (front w) → IsBegun p → front (w ++ p) ≡ with_more (front w) p
on_by w p (inl none) begun =
    ap (λ (xs : List ℕ). front (xs ++ p)) none ∙ begun
    ∙ sym (ap (λ (f : Front). with_more f p) (ap front none ∙ too_few [] (omega arith)))
on_by w p (inr is) begun = there w p is

-- What stands at the front is told by the whole messages alone.
pub front_on : (w p : List ℕ) → AreWhole w → IsBegun p → front (w ++ p) ≡ with_more (front w) p
front_on w p whole begun = on_by w p (is_there w whole) begun

joined_by : (a b : List ℕ) → (h : AreWhole a) → AreWhole b → (h.1 ≡ []) ⊎ ((fault : FrameFault) × (front h.1 ≡ Err fault)) → AreWhole (a ++ b)
joined_by a b h k (inl none) =
    (_, k.1, begins_on a b h.0 k.0 h.1 k.1 h.2 (subst (λ (xs : List ℕ). Begins (xs ++ b) k.0 k.1) (sym none) k.2), k.3)
joined_by a b h k (inr fault) =
    (_, h.1 ++ b, begins_on a b h.0 [] h.1 (h.1 ++ b) h.2 refl, inr (fault.0, (stays h.1 b).1 fault.0 fault.1))

pub both_whole : (a b : List ℕ) → AreWhole a → AreWhole b → AreWhole (a ++ b)
both_whole a b h k = joined_by a b h k h.3

nothing_is_none : (f : Frame) (rest : List ℕ) → found f rest ≡ Ok None → ⊥
nothing_is_none f rest e = absurd cc

found_is_no_fault : (f : Frame) (rest : List ℕ) (fault : FrameFault) → found f rest ≡ Err fault → ⊥
found_is_no_fault f rest fault e = absurd cc

left_by : (w : List ℕ) (frames : List Frame) (rest after : List ℕ) (f : Frame) → Begins w frames rest
    → (rest ≡ []) ⊎ ((fault : FrameFault) × (front rest ≡ Err fault)) → front w ≡ Ok (Some (f, after)) → AreWhole after
left_by w [] rest after f begins (inl none) e =
    absurd (nothing_is_none f after (sym e ∙ ap front (sym begins ∙ none) ∙ too_few [] (omega arith)))
left_by w [] rest after f begins (inr fault) e =
    absurd (found_is_no_fault f after fault.0 (sym e ∙ ap front (sym begins) ∙ fault.1))
left_by w (g ∷ gs) rest after f begins end e =
    let same = one_found g f begins.0 after (sym begins.1 ∙ e) in
    (gs, rest, subst (λ (xs : List ℕ). Begins xs gs rest) same.1 begins.2, end)

-- What the first message leaves.
pub left_whole : (w after : List ℕ) (f : Frame) → AreWhole w → front w ≡ Ok (Some (f, after)) → AreWhole after
left_whole w after f whole e = left_by w whole.0 whole.1 after f whole.2 whole.3 e

-- ---- what isn't whole yet

short_by : (len : ℕ) (n : ℕ) (s w p : Bool) (frame : Result Frame FrameFault) (rest : List ℕ) → nat_lt len 4 ≡ s → is_no_length n ≡ w → nat_lt len n ≡ p
    → front_by s w p frame rest ≡ Ok None → len < 1048576
short_by len n true w p frame rest a b c e = grind arith
short_by len n false true p frame rest a b c e = absurd cc
short_by len n false false true frame rest a b c e =
    let most = (lengths n b).1 in
    let less : len < n = grind arith in
    omega (arith, most, less)
short_by len n false false false (Ok f) rest a b c e = absurd cc
short_by len n false false false (Err fault) rest a b c e = absurd cc

pub begun_is_short : (bytes : List ℕ) → IsBegun bytes → length bytes < 1048576
begun_is_short bytes begun =
    let n = number_at 0 bytes in
    short_by (length bytes) n _ _ _ (frame_of (take n bytes)) (drop n bytes) refl refl refl (sym (front_is bytes) ∙ begun)

not_there : (f : Front) (more : List ℕ) → IsThere f → with_more f more ≡ Ok None → ⊥
not_there (Ok None) more is e = is
not_there (Ok (Some x)) more is e = absurd cc
not_there (Err fault) more is e = absurd cc

ends_before : (p c : List ℕ) (n : ℕ) → IsBegun p → 4 ≤ n → n ≤ length p → AreWhole (take n (p ++ c)) → ⊥
ends_before p c n begun least within whole =
    let first = take n p in
    let is : AreWhole first = subst AreWhole (take-append-le n p c within) whole in
    let all : first ++ drop n p ≡ p = take-append-drop n p in
    by (is_there first is)
  where
    by : (take n p ≡ []) ⊎ IsThere (front (take n p)) → ⊥
    by (inl none) = absurd (omega (arith, least, ap (λ (xs : List ℕ). length xs) none, length-take-le n p within))
    by (inr is) = not_there (front (take n p)) (drop n p) is (sym (there (take n p) (drop n p) is) ∙ ap front (take-append-drop n p) ∙ begun)

compare_by : (n len : ℕ) (b : Bool) → nat_lt len n ≡ b → (len ≤ n) ⊎ (n ≤ len)
compare_by n len true e = inl (grind arith)
compare_by n len false e = inr (grind arith)

-- The message ends in what is added.
pub ends_behind : (p c : List ℕ) (n : ℕ) → IsBegun p → EndsAt (Some n) (p ++ c) → length p ≤ n
ends_behind p c n begun ends = by (compare_by n (length p) _ refl)
  where
    by : (length p ≤ n) ⊎ (n ≤ length p) → length p ≤ n
    by (inl past) = past
    by (inr within) = absurd (ends_before p c n begun ends.0 within ends.2)

pub ends_in : (p c : List ℕ) (n : ℕ) → IsBegun p → EndsAt (Some n) (p ++ c) → EndsIn p (Some (n - length p)) c
ends_in p c n begun ends =
    let past = ends_behind p c n begun ends in (
      omega (arith, ends.1, past, length-append p c),
      subst AreWhole (take_further p c n past ends.1) ends.2,
    )

-- ---- what calls answer

pub head_on : (f : Front) (more : List ℕ) → head_of (with_more f more) ≡ head_of f
head_on (Ok None) more = refl
head_on (Ok (Some x)) more = refl
head_on (Err fault) more = refl

pub waiting_on : (f : Front) (more : List ℕ) → is_waiting (with_more f more) ≡ is_waiting f
waiting_on (Ok None) more = refl
waiting_on (Ok (Some x)) more = refl
waiting_on (Err fault) more = refl

pub told : (w p all d : List ℕ) → w ≡ d → AreWhole d → IsBegun p → d ++ p ≡ all → front all ≡ with_more (front w) p
told w p all d same whole begun is = sym (ap front is) ∙ front_on d p whole begun ∙ ap (λ (xs : List ℕ). with_more (front xs) p) (sym same)

-- ---- pieces

abbrev all_of : List (Vec ℕ) → List ℕ
all_of pieces = flat_map (λ p. p.items) pieces

-- a chunk behind the last piece stands behind all of them
pub longer_last : (xs : List (Vec ℕ)) (x y : Vec ℕ) (chunk : List ℕ) (i : ℕ) → i + 1 ≡ length xs → x ≡ slice_index_or xs i x → y.items ≡ x.items ++ chunk
    → all_of (slice_set xs i y) ≡ all_of xs ++ chunk
longer_last xs x y chunk i last at more =
    let split : take i xs ++ x ∷ [] ≡ xs =
    ap (λ (z : Vec ℕ). take i xs ++ z ∷ []) at ∙ sym (take_more xs i x (omega (arith, last))) ∙ take_all (i + 1) xs (omega (arith, last)) in
    let changed : slice_set xs i y ≡ take i xs ++ y ∷ [] =
    ap (λ (zs : List (Vec ℕ)). slice_set zs i y) (sym split) ∙ set_at (take i xs) x [] y i (length-take-le i xs (omega (arith, last))) in
    ap all_of changed ∙ flat_map-append (λ p. p.items) (take i xs) (y ∷ [])
    ∙ ap (λ (zs : List ℕ). all_of (take i xs) ++ (zs ++ [])) more
    ∙ ap (λ (zs : List ℕ). all_of (take i xs) ++ zs) (append_assoc x.items chunk [] ∙ ap (λ (zs : List ℕ). x.items ++ zs) (append-nil chunk)
    ∙ ap (λ (zs : List ℕ). zs ++ chunk) (sym (append-nil x.items)))
    ∙ sym (append_assoc (all_of (take i xs)) (x.items ++ []) chunk)
    ∙ ap (λ (zs : List ℕ). zs ++ chunk) (sym (flat_map-append (λ p. p.items) (take i xs) (x ∷ [])) ∙ ap all_of split)

pub on_ok : {A E : Type 0} {X : Type 0} {Q : Type 0} → (r : Result A E) (xs ys zs : X) → (xs ≡ ys → Q) → xs ≡ (if is_ok r then ys else zs) → OnOk r Q
on_ok (Ok x) xs ys zs f e = f e
on_ok (Err fault) xs ys zs f e = tt

pub some_of : {X Y E : Type 0} (f : X → Y) (o : Option X) (x : X) (r : Result (Option Y) E) → r ≡ Ok (option_map f o) → o ≡ Some x → r ≡ Ok (Some (f x))
some_of {X = X} f o x r e is = e ∙ ap (λ (p : Option X). Ok (option_map f p)) is

-- ---- the length, across pieces

pub front_number : (bytes four : List ℕ) (n number : ℕ) → take 4 bytes ≡ take n four → length four ≡ 4 → 4 ≤ n → number ≡ from_le_bytes w32 four
    → number_at 0 bytes ≡ number
front_number bytes four n number e len least is =
    ap (λ (xs : List ℕ). from_le_bytes w32 xs) (e ∙ take_all n four (omega (arith, len, least))) ∙ sym is

pub within_of : {X : Type 0} (P : X → Type 0) (o : Option X) (x : X) → IfSome o P → o ≡ Some x → P x
within_of P o x p is = subst (λ (q : Option _). IfSome q P) is p
