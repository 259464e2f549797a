-- What std's `parse` gives of a whole number, in the words of the definitions here.
use Rattle.std.proofs.Common.{◌≡◌, ℕ, zero, suc, ℤ, pos, neg_ℤ, ◌<◌, ◌≤◌, ◌^◌, Bool, true, false, cond, ◌&&◌, List, [], ◌∷◌, length, Result, Ok, Err, refl, sym}
use Rattle.std.proofs.Common.{ap, arith, rules}
use Rattle.std.specs.Prelude.{◌==◌, MatchResult}
use Rattle.std.specs.Result.{OkIff}
use Rattle.std.specs.List.{list_all}
use Rattle.std.specs.Char.{is_ascii_digit}
use Rattle.std.specs.Str.Parse.{digits_value, ParsesUnsigned, ParsesSigned}
use Rattle.std.proofs.lemmas.Bool.{lt-ltb, le-ltb, eqb-true}
use Rattle.std.proofs.lemmas.Str.Parse.{IsNumeralModel, IsDigitsTest, numerals_by_value, parse_digits, parse_signed_digits, parse_signed_minus}
use mir.Syntax.{Width}
use mir.Val.{hbits}
use Rattle.ext_json.specs.Written.{is_within}
use Rattle.ext_json.specs.Numbers.{are_digits, is_whole, whole_value, whole_in, half_in}
use Rattle.ext_json.specs.declared.fault.ExtJsonFault.{ExtJsonFault}
use Rattle.ext_json.specs.declared.fault.ExtJsonFault.TheVariants as faults

digits_only : IsDigitsTest (λ ds. list_all is_ascii_digit ds ≡ true)
digits_only = search rules

pub own : IsNumeralModel (λ ds. list_all is_ascii_digit ds ≡ true) (digits_value 10)
own = numerals_by_value (λ ds. list_all is_ascii_digit ds ≡ true) digits_only

parts : (a b : Bool) → (a && b) ≡ true → (a ≡ true) × (b ≡ true)
parts true b e = (refl, e)
parts false b e = absurd cc

pub are_digits-parts : (s : List ℕ) → are_digits s ≡ true → (0 < length s) × (list_all is_ascii_digit s ≡ true)
are_digits-parts [] e = absurd cc
are_digits-parts (c ∷ cs) e = (omega arith, (parts _ _ e).1)

-- ---- halves

pub half_fails : {E : Type 0} (s : List ℕ) (e : E) → are_digits s ≡ true → ParsesUnsigned 32 10 s (Err e) → half_in s ≡ Err faults.Range
unfolding half_in
half_fails s e is h =
    let p = are_digits-parts s is in
    let no = parse_digits own 32 s (Err e) h p.1 in
    let small_not : digits_value 10 s < 2 ^ 32 → ⊥ = λ lt. no (p.0, lt) in
    let big : 2 ^ 32 ≤ digits_value 10 s = omega arith in
    rw (is, le-ltb (digits_value 10 s) (2 ^ 32) big) refl

-- ---- whole numbers

within_neg : (k n : ℕ) → 0 < k → n ≤ k → is_within k (neg_ℤ (pos n)) ≡ true
within_neg k zero some le = lt-ltb 0 k some
within_neg k (suc n) some le = lt-ltb n k (omega arith)

not_within_neg : (k n : ℕ) → k < n → is_within k (neg_ℤ (pos n)) ≡ false
not_within_neg k zero lt = absurd (omega arith)
not_within_neg k (suc n) lt = le-ltb n k (omega arith)

abbrev Tells : {E : Type 0} → Result ℤ E → ℕ → ℤ → Type 0
Tells r most v = MatchResult r (λ z. (is_within most v ≡ true) × (z ≡ v)) (λ _. is_within most v ≡ false)

minus_tells : {E : Type 0} (most : ℕ) (cs : List ℕ) (r : Result ℤ E) → 0 < most → are_digits cs ≡ true
    → OkIff r ((list_all is_ascii_digit cs ≡ true) × (0 < length cs) × (digits_value 10 cs ≤ most)) (neg_ℤ (pos (digits_value 10 cs)))
    → Tells r most (neg_ℤ (pos (digits_value 10 cs)))
minus_tells most cs (Ok z) some is h = (within_neg most (digits_value 10 cs) some h.0.2, h.1)
minus_tells most cs (Err e) some is h =
    let p = are_digits-parts cs is in
    let not_le : digits_value 10 cs ≤ most → ⊥ = λ le. h (p.1, p.0, le) in
    let big : most < digits_value 10 cs = omega arith in
    not_within_neg most (digits_value 10 cs) big

plain_tells : {E : Type 0} (most : ℕ) (s : List ℕ) (r : Result ℤ E) → are_digits s ≡ true
    → OkIff r ((0 < length s) × (digits_value 10 s < most)) (pos (digits_value 10 s)) → Tells r most (pos (digits_value 10 s))
plain_tells most s (Ok z) is h = (lt-ltb (digits_value 10 s) most h.0.1, h.1)
plain_tells most s (Err e) is h =
    let p = are_digits-parts s is in
    let not_lt : digits_value 10 s < most → ⊥ = λ lt. h (p.0, lt) in
    let big : most ≤ digits_value 10 s = omega arith in
    le-ltb (digits_value 10 s) most big

tells : {E : Type 0} (w : Width) → 0 < 2 ^ hbits w → (s : List ℕ) (r : Result ℤ E) → ParsesSigned w 10 s r → is_whole s ≡ true
    → Tells r (2 ^ hbits w) (whole_value s)
unfolding is_whole whole_value
tells w some [] r h is = absurd cc
tells w some (c ∷ cs) r h is = by (c == 45) refl is
  where
    by : (b : Bool) → (c == 45) ≡ b → cond b (are_digits cs) (are_digits (c ∷ cs)) ≡ true
        → Tells r (2 ^ hbits w) (cond b (neg_ℤ (pos (digits_value 10 cs))) (pos (digits_value 10 (c ∷ cs))))
    by true e d = minus_tells (2 ^ hbits w) cs r some d (parse_signed_minus own w (c ∷ cs) r h (eqb-true c 45 e))
    by false e d = plain_tells (2 ^ hbits w) (c ∷ cs) r d (parse_signed_digits own w (c ∷ cs) r h (are_digits-parts (c ∷ cs) d).1)

pub whole_ok : (E : Type 0) (w : Width) → 0 < 2 ^ hbits w → (fault : ExtJsonFault) (s : List ℕ) (z : ℤ) → ParsesSigned {E = E} w 10 s (Ok z)
    → is_whole s ≡ true → whole_in (is_within (2 ^ hbits w)) fault s ≡ Ok z
whole_ok E w some fault s z h is =
    let t = tells {E = E} w some s (Ok z) h is in
    rw (is, t.0) (ap Ok (sym t.1))

pub whole_fails : (E : Type 0) (w : Width) → 0 < 2 ^ hbits w → (fault : ExtJsonFault) (s : List ℕ) (e : E) → ParsesSigned {E = E} w 10 s (Err e)
    → is_whole s ≡ true → whole_in (is_within (2 ^ hbits w)) fault s ≡ Err faults.Range
whole_fails E w some fault s e h is =
    let t = tells {E = E} w some s (Err e) h is in
    rw (is, t) refl
