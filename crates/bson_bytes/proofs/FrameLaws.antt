-- A count, a text, a name or a frame that is read is what was written, and what was written is read again.
use Rattle.std.proofs.Common.{◌≡◌, ◌⊎◌, ℕ, ℤ, zero, suc, ◌+◌, ◌-◌, ◌^◌, ◌<◌, ◌≤◌, Bool, true, false, not, ◌||◌, ◌&&◌, cond, ltb, eqb, List, [], ◌∷◌, ◌++◌}
use Rattle.std.proofs.Common.{length, get_or, take, drop, Result, Ok, Err, refl, sym, ap, subst, ◌∙◌, append_assoc, arith, inl, inr}
use Rattle.std.specs.Prelude.{IsUtf8, FitsSigned, nat_le}
use Rattle.std.specs.Str.{is_utf8}
use Rattle.std.specs.Int.{Width, w32, w64, byte_len, from_le_bytes, to_le_bytes, cast_signed, cast_unsigned}
use Rattle.std.proofs.lemmas.Grind.{common_steps}
use Rattle.std.proofs.lemmas.Bool.{cases_lt, ltb-false, le-ltb, eqb-true}
use Rattle.std.proofs.lemmas.Int.{ints}
use Rattle.std.proofs.lemmas.List.{take_at, drop_at, take-append-drop, length-append, length-take, get_or-drop, get_or-take, get_or_past, get_or_at, drop_more}
use Rattle.std.proofs.lemmas.List.Sums.{fails_before_first, passes_at_first}
use Rattle.std.proofs.lemmas.Nat.{le_bytes_4, le_bytes_8, from_le_bytes-to_le_bytes_4, from_le_bytes-to_le_bytes_8}
use Rattle.std.proofs.lemmas.Str.{IsUtf8-from_is_utf8, is_utf8-from_IsUtf8}
use Rattle.bson.proofs.PushLaws.{or_false, NoZero-take}
use Rattle.bson_bytes.specs.declared.fault.BsonFault.{BsonFault}
use Rattle.bson_bytes.specs.declared.fault.BsonFault.TheVariants as faults
use Rattle.bson.specs.declared.kind.Kind.{Kind}
use Rattle.bson.specs.declared.kind.Kind.TheVariants as kinds
use Rattle.bson.specs.Tree.{text}
use Rattle.bson.specs.Kinds.{kind_byte}
use Rattle.bson.specs.Lawful.{IsBytes, NoZero, IsName}
use Rattle.bson.specs.Spelling.{scalar_bytes, frame_of}
use Rattle.outcome.specs.Outcome.{◌>>=◌, unless}
use Rattle.bson_bytes.specs.Decoding.{is_below, fixed_at, count_at, ended_at, text_at, content_at, kind_of, zero_at, name_at}

pub IsBytes-drop : (n : ℕ) (bytes : List ℕ) → IsBytes bytes → IsBytes (drop n bytes)
IsBytes-drop n bytes h i = rw get_or-drop (h (n + i))

pub IsBytes-take : (n : ℕ) (bytes : List ℕ) → IsBytes bytes → IsBytes (take n bytes)
IsBytes-take n bytes h i =
    elim (cases_lt i n) [
      | inl lt ↦ rw (get_or-take n bytes i 0 lt) (h i)
      | inr le ↦ rw (get_or_past (take n bytes) i 0 (omega (arith, length-take n bytes))) (omega arith)
    ]

-- the value of a step that did not fail
pub bind_ok : {A B : Type 0} (r : Result A BsonFault) (f : A → Result B BsonFault) (y : B) → (r >>= f) ≡ Ok y → (x : A) × (r ≡ Ok x) × (f x ≡ Ok y)
bind_ok (Ok x) f y e = (x, refl, e)
bind_ok (Err d) f y e = absurd cc

-- what a test let pass
pub unless_ok : {X : Type 0} (test : Bool) (fault : BsonFault) (read : Result X BsonFault) (x : X) → unless test fault read ≡ Ok x
    → (test ≡ false) × (read ≡ Ok x)
unless_ok true fault read x e = absurd cc
unless_ok false fault read x e = (refl, e)

pub unless_not_ok : {X : Type 0} (test : Bool) (fault : BsonFault) (read : Result X BsonFault) (x : X) → unless (not test) fault read ≡ Ok x
    → (test ≡ true) × (read ≡ Ok x)
unless_not_ok true fault read x e = (refl, e)
unless_not_ok false fault read x e = absurd cc

abbrev pub done : {A : Type 0} → A → Result A BsonFault
done x = Ok x

pub ok_is : {A : Type 0} (x y : A) → done x ≡ done y → x ≡ y
ok_is x y e = cc

and_true : (a b : Bool) → (a && b) ≡ true → (a ≡ true) × (b ≡ true)
and_true true true e = (refl, refl)
and_true true false e = absurd cc
and_true false b e = absurd cc

-- what a reader took from the front
pub record Takes (bytes text rest : List ℕ) : Type 0 where
  pub parts : bytes ≡ text ++ rest
  pub rest_fits : IsBytes rest

pub Takes-then : (a x b y c : List ℕ) → Takes a x b → Takes b y c → Takes a (x ++ y) c
Takes-then a x b y c p q = record { parts = p.parts ∙ ap (λ (t : List ℕ). x ++ t) q.parts ∙ sym (append_assoc x y c); rest_fits = q.rest_fits }

-- ---- numbers

pub record IsWide (w : Width) (limit : ℕ) : Type 0 where
  pub len : (n : ℕ) → length (to_le_bytes w n) ≡ byte_len w
  pub back : (bytes : List ℕ) → length bytes ≡ byte_len w → IsBytes bytes → to_le_bytes w (from_le_bytes w bytes) ≡ bytes
  pub again : (n : ℕ) → n < limit → from_le_bytes w (to_le_bytes w n) ≡ n
  pub below : (bytes : List ℕ) → IsBytes bytes → from_le_bytes w bytes < limit

pub wide32 : IsWide w32 (2 ^ 32)
wide32 = record {
  len = λ n. refl;
  back = λ bytes len fits. le_bytes_4 bytes _ len fits refl;
  again = λ n lt. from_le_bytes-to_le_bytes_4 n lt;
  below = λ bytes fits. omega (arith, fits 0, fits 1, fits 2, fits 3);
}

pub wide64 : IsWide w64 (2 ^ 64)
wide64 = record {
  len = λ n. refl;
  back = λ bytes len fits. le_bytes_8 bytes _ len fits refl;
  again = λ n lt. from_le_bytes-to_le_bytes_8 n lt;
  below = λ bytes fits. omega (arith, fits 0, fits 1, fits 2, fits 3, fits 4, fits 5, fits 6, fits 7);
}

-- the four bytes at the front
pub front32 : (bytes : List ℕ) → IsBytes bytes → 4 ≤ length bytes → Takes bytes (to_le_bytes w32 (from_le_bytes w32 (take 4 bytes))) (drop 4 bytes)
front32 bytes fits long =
    let front = wide32.back (take 4 bytes) (omega (arith, length-take 4 bytes)) (IsBytes-take 4 bytes fits) in
    record { parts = sym (take-append-drop 4 bytes) ∙ ap (λ (x : List ℕ). x ++ drop 4 bytes) (sym front); rest_fits = IsBytes-drop 4 bytes fits }

pub fixed_takes : (len : ℕ) (bytes : List ℕ) (x : List ℕ × List ℕ) → IsBytes bytes → fixed_at len bytes ≡ Ok x
    → Takes bytes x.0 x.1 × IsBytes x.0 × (length x.0 ≡ len)
unfolding fixed_at
fixed_takes len bytes x fits e =
    let made : List ℕ × List ℕ = (take len bytes, drop len bytes) in
    let a = unless_ok (ltb (length bytes) len) faults.Length (Ok made) x e in
    let long : len ≤ length bytes = ltb-false _ _ a.0 in
    subst (λ (y : List ℕ × List ℕ). Takes bytes y.0 y.1 × IsBytes y.0 × (length y.0 ≡ len)) (ok_is made x a.1) (
      record { parts = sym (take-append-drop len bytes); rest_fits = IsBytes-drop len bytes fits },
      IsBytes-take len bytes fits,
      omega (arith, length-take len bytes),
    )

pub fixed_again : (len : ℕ) (front rest : List ℕ) → length front ≡ len → fixed_at len (front ++ rest) ≡ Ok (front, rest)
unfolding fixed_at
fixed_again len front rest size =
    let long : ltb (length (front ++ rest)) len ≡ false = le-ltb _ _ (omega (arith, length-append front rest)) in
    rw (long, take_at front rest len size, drop_at front rest len size) refl

-- a number of so many bytes at the front
pub number_takes : (w : Width) (limit : ℕ) → IsWide w limit → (bytes : List ℕ) (x : List ℕ × List ℕ) → IsBytes bytes → fixed_at (byte_len w) bytes ≡ Ok x
    → Takes bytes (to_le_bytes w (from_le_bytes w x.0)) x.1 × (from_le_bytes w x.0 < limit)
number_takes w limit wide bytes x fits e =
    let f = fixed_takes (byte_len w) bytes x fits e in
    (subst (λ (text : List ℕ). Takes bytes text x.1) (sym (wide.back x.0 f.2 f.1)) f.0, wide.below x.0 f.1)

pub cases_bool : (b : Bool) → (b ≡ true) ⊎ (b ≡ false)
cases_bool true = inl refl
cases_bool false = inr refl

pub signed_fits32 : (n : ℕ) → n < 2 ^ 32 → FitsSigned w32 (cast_signed w32 n)
signed_fits32 n h = omega (arith, ints)

pub signed_fits64 : (n : ℕ) → n < 2 ^ 64 → FitsSigned w64 (cast_signed w64 n)
signed_fits64 n h = omega (arith, ints)

pub unsigned_fits32 : (z : ℤ) → FitsSigned w32 z → cast_unsigned w32 z < 2 ^ 32
unsigned_fits32 z h = omega (arith, ints)

pub unsigned_fits64 : (z : ℤ) → FitsSigned w64 z → cast_unsigned w64 z < 2 ^ 64
unsigned_fits64 z h = omega (arith, ints)

pub is_below-false : (least n : ℕ) → is_below least n ≡ false → (least ≤ n) × (n < 2 ^ 31)
is_below-false least n e =
    let p = or_false (ltb n least) (nat_le (2 ^ 31) n) e in
    (grind (arith, p.0), grind (arith, p.1))

pub not_below : (least n : ℕ) → least ≤ n → n < 2 ^ 31 → is_below least n ≡ false
not_below least n low high = grind arith

pub count_takes : (least : ℕ) (bytes : List ℕ) (x : ℕ × List ℕ) → IsBytes bytes → count_at least bytes ≡ Ok x
    → Takes bytes (to_le_bytes w32 x.0) x.1 × (least ≤ x.0) × (x.0 < 2 ^ 31)
unfolding count_at
count_takes least bytes x fits e =
    let f = λ (four : List ℕ × List ℕ). unless (is_below least (from_le_bytes w32 four.0)) faults.Length (Ok (from_le_bytes w32 four.0, four.1)) in
    let a = bind_ok (fixed_at 4 bytes) f x e in
    let n = from_le_bytes w32 a.0.0 in
    let made : ℕ × List ℕ = (n, a.0.1) in
    let b = unless_ok (is_below least n) faults.Length (Ok made) x a.2 in
    let low = is_below-false least n b.0 in
    subst (λ (y : ℕ × List ℕ). Takes bytes (to_le_bytes w32 y.0) y.1 × (least ≤ y.0) × (y.0 < 2 ^ 31)) (ok_is made x b.1)
    ((number_takes w32 (2 ^ 32) wide32 bytes a.0 fits a.1).0, low.0, low.1)

pub count_again : (least n : ℕ) (rest : List ℕ) → least ≤ n → n < 2 ^ 31 → count_at least (to_le_bytes w32 n ++ rest) ≡ Ok (n, rest)
unfolding count_at
count_again least n rest low high =
    let back = wide32.again n (omega arith) in
    let four = fixed_again 4 (to_le_bytes w32 n) rest refl in
    rw (four, back, not_below least n low high) refl

-- ---- bytes that a zero ends

split_zero : (m : ℕ) (bytes : List ℕ) → m < length bytes → get_or bytes m 0 ≡ 0 → bytes ≡ (take m bytes ++ 0 ∷ []) ++ drop (m + 1) bytes
split_zero m bytes lt zero-there =
    sym (take-append-drop m bytes) ∙ ap (λ (t : List ℕ). take m bytes ++ t) (drop_more bytes m 0 lt ∙ ap (λ (b : ℕ). b ∷ drop (m + 1) bytes) zero-there)
    ∙ sym (append_assoc (take m bytes) (0 ∷ []) (drop (m + 1) bytes))

-- Bytes that a zero ends, and what comes after.
regroup_zero : (s rest : List ℕ) → (s ++ 0 ∷ []) ++ rest ≡ s ++ 0 ∷ rest
regroup_zero s rest = append_assoc s (0 ∷ []) rest

drop_zero : (m : ℕ) (s rest : List ℕ) → length s ≡ m → drop (m + 1) (s ++ 0 ∷ rest) ≡ rest
drop_zero m s rest len = ap (drop (m + 1)) (sym (regroup_zero s rest)) ∙ drop_at (s ++ 0 ∷ []) rest (m + 1) (omega (arith, length-append s (0 ∷ [])))

pub ended_takes : (fault : BsonFault) (m : ℕ) (bytes : List ℕ) (x : List ℕ × List ℕ) → IsBytes bytes → ended_at fault m bytes ≡ Ok x
    → Takes bytes (x.0 ++ 0 ∷ []) x.1 × IsBytes x.0 × (length x.0 ≡ m)
unfolding ended_at
ended_takes fault m bytes x fits e =
    let made : List ℕ × List ℕ = (take m bytes, drop (m + 1) bytes) in
    let a = unless_ok (nat_le (length bytes) m) faults.Length (unless (not (eqb (get_or bytes m 0) 0)) fault (Ok made)) x e in
    let b = unless_not_ok (eqb (get_or bytes m 0) 0) fault (Ok made) x a.1 in
    let lt : m < length bytes = grind (arith, a.0) in
    subst (λ (y : List ℕ × List ℕ). Takes bytes (y.0 ++ 0 ∷ []) y.1 × IsBytes y.0 × (length y.0 ≡ m)) (ok_is made x b.1) (
      record { parts = split_zero m bytes lt (eqb-true (get_or bytes m 0) 0 b.0); rest_fits = IsBytes-drop (m + 1) bytes fits },
      IsBytes-take m bytes fits,
      omega (arith, length-take m bytes),
    )

pub ended_again : (fault : BsonFault) (m : ℕ) (s rest : List ℕ) → length s ≡ m → ended_at fault m (s ++ 0 ∷ rest) ≡ Ok (s, rest)
unfolding ended_at
ended_again fault m s rest len =
    let long : nat_le (length (s ++ 0 ∷ rest)) m ≡ false = grind (arith, length-append s (0 ∷ rest)) in
    rw (long, get_or_at s 0 rest 0 m len, take_at s (0 ∷ rest) m len, drop_zero m s rest len) refl

-- ---- texts

pub text_takes : (bytes : List ℕ) (x : List ℕ × List ℕ) → IsBytes bytes → text_at bytes ≡ Ok x → Takes bytes (scalar_bytes (text x.0)) x.1 × IsUtf8 x.0
unfolding text_at
text_takes bytes x fits e =
    let a = bind_ok (count_at 1 bytes) (λ n. ended_at faults.Text (n.0 - 1) n.1 >>= λ s. unless (not (is_utf8 s.0)) faults.Text (Ok s)) x e in
    let n = a.0 in
    let b = bind_ok (ended_at faults.Text (n.0 - 1) n.1) (λ s. unless (not (is_utf8 s.0)) faults.Text (Ok s)) x a.2 in
    let c = unless_not_ok (is_utf8 b.0.0) faults.Text (Ok b.0) x b.2 in
    let first = count_takes 1 bytes n fits a.1 in
    let second = ended_takes faults.Text (n.0 - 1) n.1 b.0 first.0.rest_fits b.1 in
    let len : n.0 ≡ length b.0.0 + 1 = omega (arith, second.2, first.1) in
    let both = Takes-then bytes (to_le_bytes w32 n.0) n.1 (b.0.0 ++ 0 ∷ []) b.0.1 first.0 second.0 in
    let whole : Takes bytes (scalar_bytes (text b.0.0)) b.0.1 = subst (λ (k : ℕ). Takes bytes (to_le_bytes w32 k ++ (b.0.0 ++ 0 ∷ [])) b.0.1) len both in
    subst (λ (y : List ℕ × List ℕ). Takes bytes (scalar_bytes (text y.0)) y.1 × IsUtf8 y.0) (ok_is b.0 x c.1) (whole, IsUtf8-from_is_utf8 b.0.0 c.0)

pub text_again : (s rest : List ℕ) → IsUtf8 s → length s + 1 < 2 ^ 31 → text_at (scalar_bytes (text s) ++ rest) ≡ Ok (s, rest)
unfolding text_at
text_again s rest utf8 short =
    let regrouped : scalar_bytes (text s) ++ rest ≡ to_le_bytes w32 (length s + 1) ++ (s ++ 0 ∷ rest) =
    ap (λ (t : List ℕ). to_le_bytes w32 (length s + 1) ++ t) (regroup_zero s rest) in
    let valid = is_utf8-from_IsUtf8 s utf8 in
    ap text_at regrouped
    ∙ rw (count_again 1 (length s + 1) (s ++ 0 ∷ rest) (omega arith) short, ended_again faults.Text (length s + 1 - 1) s rest (omega arith), valid) refl

-- ---- a document's frame

pub content_takes : (bytes : List ℕ) (x : List ℕ × List ℕ) → IsBytes bytes → content_at bytes ≡ Ok x → Takes bytes (frame_of x.0) x.1 × IsBytes x.0
unfolding content_at
content_takes bytes x fits e =
    let a = bind_ok (count_at 5 bytes) (λ n. ended_at faults.Length (n.0 - 5) n.1) x e in
    let n = a.0 in
    let first = count_takes 5 bytes n fits a.1 in
    let second = ended_takes faults.Length (n.0 - 5) n.1 x first.0.rest_fits a.2 in
    let len : n.0 ≡ length x.0 + 5 = omega (arith, second.2, first.1) in
    let both = Takes-then bytes (to_le_bytes w32 n.0) n.1 (x.0 ++ 0 ∷ []) x.1 first.0 second.0 in
    (subst (λ (k : ℕ). Takes bytes (to_le_bytes w32 k ++ (x.0 ++ 0 ∷ [])) x.1) len both, second.1)

pub content_again : (content rest : List ℕ) → length content + 5 < 2 ^ 31 → content_at (frame_of content ++ rest) ≡ Ok (content, rest)
unfolding content_at
content_again content rest short =
    let regrouped : frame_of content ++ rest ≡ to_le_bytes w32 (length content + 5) ++ (content ++ 0 ∷ rest) =
    ap (λ (t : List ℕ). to_le_bytes w32 (length content + 5) ++ t) (regroup_zero content rest) in
    ap content_at regrouped
    ∙ rw (
      count_again 5 (length content + 5) (content ++ 0 ∷ rest) (omega arith) short,
      ended_again faults.Length (length content + 5 - 5) content rest (omega arith),
    ) refl

-- ---- names

eqb-suc : (b : ℕ) → eqb (suc b) 0 ≡ false
eqb-suc b = grind arith

zero_at-NoZero : (name rest : List ℕ) → NoZero name → zero_at (name ++ 0 ∷ rest) ≡ length name
zero_at-NoZero [] rest h = refl
zero_at-NoZero (zero ∷ bs) rest h = absurd (h.0 refl)
zero_at-NoZero (suc b ∷ bs) rest h =
    let test : eqb (suc b) 0 ≡ false = eqb-suc b in
    let step : zero_at ((suc b ∷ bs) ++ 0 ∷ rest) ≡ 1 + zero_at (bs ++ 0 ∷ rest) = ap (λ (t : Bool). cond (not t) (1 + zero_at (bs ++ 0 ∷ rest)) 0) test in
    omega (arith, step, zero_at-NoZero bs rest h.1)

pub zero_later : (b : ℕ) (bytes : List ℕ) → zero_at (suc b ∷ bytes) ≡ suc (zero_at bytes)
zero_later b bytes = grind (arith, common_steps)

pub name_takes : (bytes : List ℕ) (x : List ℕ × List ℕ) → IsBytes bytes → name_at bytes ≡ Ok x → Takes bytes (x.0 ++ 0 ∷ []) x.1 × IsName x.0
unfolding name_at
name_takes bytes x fits e =
    let z = zero_at bytes in
    let made : List ℕ × List ℕ = (take z bytes, drop (z + 1) bytes) in
    let a = unless_ok (nat_le (length bytes) z) faults.Name (unless (not (is_utf8 (take z bytes))) faults.Name (Ok made)) x e in
    let b = unless_not_ok (is_utf8 (take z bytes)) faults.Name (Ok made) x a.1 in
    let lt : z < length bytes = grind (arith, a.0) in
    let there : get_or bytes z 0 ≡ 0 = eqb-true _ _ (passes_at_first (λ b. eqb b 0) bytes 0 lt) in
    subst (λ (y : List ℕ × List ℕ). Takes bytes (y.0 ++ 0 ∷ []) y.1 × IsName y.0) (ok_is made x b.1) (
      record { parts = split_zero z bytes lt there; rest_fits = IsBytes-drop (z + 1) bytes fits },
      record { is_text = IsUtf8-from_is_utf8 (take z bytes) b.0; no_zero = NoZero-take z bytes (λ k below. fails_before_first (λ b. eqb b 0) bytes k 0 below) },
    )

pub name_again : (name rest : List ℕ) → IsName name → name_at (name ++ 0 ∷ rest) ≡ Ok (name, rest)
unfolding name_at
name_again name rest lawful =
    let at = zero_at-NoZero name rest lawful.no_zero in
    let long : nat_le (length (name ++ 0 ∷ rest)) (length name) ≡ false = grind (arith, length-append name (0 ∷ rest)) in
    let valid = is_utf8-from_IsUtf8 name lawful.is_text in
    rw (at, long, take_at name (0 ∷ rest) (length name) refl, valid, drop_zero (length name) name rest refl) refl

-- ---- kinds

pub kind_again : (k : Kind) → kind_of (kind_byte k) ≡ Ok k
unfolding kind_of
kind_again kinds.String = refl
kind_again kinds.Document = refl
kind_again kinds.Array = refl
kind_again kinds.Binary = refl
kind_again kinds.ObjectId = refl
kind_again kinds.Bool = refl
kind_again kinds.Date = refl
kind_again kinds.Null = refl
kind_again kinds.Int32 = refl
kind_again kinds.Timestamp = refl
kind_again kinds.Int64 = refl
kind_again kinds.MinKey = refl
kind_again kinds.MaxKey = refl

chosen : (b n : ℕ) (k x : Kind) (others : Result Kind BsonFault) → n ≡ kind_byte k → (others ≡ Ok x → b ≡ kind_byte x) → cond (eqb b n) (Ok k) others ≡ Ok x
    → b ≡ kind_byte x
chosen b n k x others same more e =
    elim (cases_bool (eqb b n)) [
      | inl here ↦ eqb-true b n here ∙ same ∙ ap kind_byte (ok_is k x (subst (λ (t : Bool). cond t (Ok k) others ≡ Ok x) here e))
      | inr other ↦ more (subst (λ (t : Bool). cond t (Ok k) others ≡ Ok x) other e)
    ]

pub kind_takes : (b : ℕ) (k : Kind) → kind_of b ≡ Ok k → b ≡ kind_byte k
unfolding kind_of
kind_takes b k e =
    chosen b 0x02 kinds.String k _ refl
    (chosen b 0x03 kinds.Document k _ refl
    (chosen b 0x04 kinds.Array k _ refl
    (chosen b 0x05 kinds.Binary k _ refl
    (chosen b 0x07 kinds.ObjectId k _ refl
    (chosen b 0x08 kinds.Bool k _ refl
    (chosen b 0x09 kinds.Date k _ refl
    (chosen b 0x0a kinds.Null k _ refl
    (chosen b 0x10 kinds.Int32 k _ refl
    (chosen b 0x11 kinds.Timestamp k _ refl
    (chosen b 0x12 kinds.Int64 k _ refl
    (chosen b 0xff kinds.MinKey k _ refl
    (chosen b 0x7f kinds.MaxKey k _ refl (λ none. absurd cc))))))))))))) e
