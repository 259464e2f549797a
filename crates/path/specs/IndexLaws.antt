-- Two parts that number one element are one.
use Rattle.std.specs.Prelude.{◌≡◌, ◌≢◌, ℕ, ◌+◌, ◌*◌, ◌-◌, ◌<◌, ◌≤◌, ◌==◌, nat_le, ◌&&◌, Bool, true}
use Rattle.std.specs.Prelude.{false, if◌then◌else◌, Some, None, List, [], ◌∷◌, ◌++◌, ◌⊎◌, refl}
use Rattle.std.proofs.Common.{sym, ap, subst, ◌∙◌, inl, inr, arith}
use Rattle.std.proofs.lemmas.Bool.{leb-true, eqb-true, eqb-false}
use Rattle.path.specs.Parts.{index_of, is_digits, leads_with_zero, number, is_empty}

-- the number that digits write, the last one first
from_last : ℕ → List ℕ → ℕ
from_last n [] = n
from_last n (d ∷ ds) = from_last n ds * 10 + (d - 48)

from_last-end : (n : ℕ) (ds : List ℕ) (d : ℕ)
    → from_last n (ds ++ d ∷ []) ≡ from_last (n * 10 + (d - 48)) ds
unfolding from_last
from_last-end n [] d = refl
from_last-end n (e ∷ ds) d = ap (λ (k : ℕ). k * 10 + (e - 48)) (from_last-end n ds d)

-- the list the other way round, an element behind those before it
back : List ℕ → List ℕ
back [] = []
back (x ∷ xs) = back xs ++ x ∷ []

number-back : (n : ℕ) (xs : List ℕ) → number n xs ≡ from_last n (back xs)
unfolding from_last back
number-back n [] = refl
number-back n (x ∷ xs) = number-back (n * 10 + (x - 48)) xs ∙ sym (from_last-end n (back xs) x)

Digits : List ℕ → Type 0
Digits [] = Unit {0}
Digits (d ∷ ds) = (48 ≤ d) × (d ≤ 57) × Digits ds

-- the last of them is no zero
NoZeroLast : List ℕ → Type 0
NoZeroLast [] = Unit {0}
NoZeroLast (d ∷ []) = 48 < d
NoZeroLast (d ∷ e ∷ ds) = NoZeroLast (e ∷ ds)

NoZeroLast-tail : (d : ℕ) (ds : List ℕ) → NoZeroLast (d ∷ ds) → NoZeroLast ds
unfolding NoZeroLast
NoZeroLast-tail d [] h = tt
NoZeroLast-tail d (e ∷ ds) h = h

from_last-some : (d : ℕ) (ds : List ℕ) → NoZeroLast (d ∷ ds) → 0 < from_last 0 (d ∷ ds)
unfolding from_last NoZeroLast
from_last-some d [] h = omega (arith, h)
from_last-some d (e ∷ ds) h = omega (arith, from_last-some e ds h)

one_list : (ds es : List ℕ) → Digits ds → Digits es → NoZeroLast ds → NoZeroLast es
    → from_last 0 ds ≡ from_last 0 es → ds ≡ es
unfolding from_last Digits
one_list [] [] a b h k same = refl
one_list [] (e ∷ es) a b h k same = let some = from_last-some e es k in
    absurd (omega (arith, same, some))
one_list (d ∷ ds) [] a b h k same = let some = from_last-some d ds h in
    absurd (omega (arith, same, some))
one_list (d ∷ ds) (e ∷ es) a b h k same =
    let low : 48 ≤ d = a.0 in
    let high : d ≤ 57 = a.1 in
    let low_too : 48 ≤ e = b.0 in
    let high_too : e ≤ 57 = b.1 in
    let first : d ≡ e = omega (arith, same) in
    let others : from_last 0 ds ≡ from_last 0 es = omega (arith, same) in
    let rest = one_list ds es a.2 b.2 (NoZeroLast-tail d ds h) (NoZeroLast-tail e es k) others in
    λ i. first i ∷ rest i

-- ---- the same of parts

and_true : (a b : Bool) → (a && b) ≡ true → (a ≡ true) × (b ≡ true)
and_true true b e = (refl, e)
and_true false b e = absurd cc

Digits-end : (ds : List ℕ) (d : ℕ) → Digits ds → 48 ≤ d → d ≤ 57 → Digits (ds ++ d ∷ [])
unfolding Digits
Digits-end [] d h low high = (low, high, tt)
Digits-end (e ∷ ds) d h low high = (h.0, h.1, Digits-end ds d h.2 low high)

digits_back : (xs : List ℕ) → is_digits xs ≡ true → Digits (back xs)
unfolding Digits back
digits_back [] e = tt
digits_back (x ∷ xs) e =
    let both = and_true (nat_le 48 x && nat_le x 57) (is_digits xs) e in
    let range = and_true (nat_le 48 x) (nat_le x 57) both.0 in
    Digits-end (back xs) x (digits_back xs both.1) (leb-true 48 x range.0) (leb-true x 57 range.1)

NoZeroLast-end : (ds : List ℕ) (d : ℕ) → 48 < d → NoZeroLast (ds ++ d ∷ [])
unfolding NoZeroLast
NoZeroLast-end [] d h = h
NoZeroLast-end (e ∷ []) d h = h
NoZeroLast-end (e ∷ f ∷ ds) d h = NoZeroLast-end (f ∷ ds) d h

back-end : (xs : List ℕ) (y : ℕ) → back (xs ++ y ∷ []) ≡ y ∷ back xs
unfolding back
back-end [] y = refl
back-end (x ∷ xs) y = ap (λ (l : List ℕ). l ++ x ∷ []) (back-end xs y)

back-back : (xs : List ℕ) → back (back xs) ≡ xs
unfolding back
back-back [] = refl
back-back (x ∷ xs) = back-end (back xs) x ∙ ap (λ (l : List ℕ). x ∷ l) (back-back xs)

-- a part that is an index
record IsIndex (name : List ℕ) (n : ℕ) : Type 0 where
  no_lead : leads_with_zero name ≡ false
  digits : is_digits name ≡ true
  is : number 0 name ≡ n

index_facts : (name : List ℕ) (n : ℕ) → index_of name ≡ Some n → IsIndex name n
index_facts name n e = by (leads_with_zero name) refl (is_digits name) refl e
  where
    by : (a : Bool) → leads_with_zero name ≡ a → (b : Bool) → is_digits name ≡ b
        → (if a then None else if b then Some (number 0 name) else None) ≡ Some n → IsIndex name n
    by true p b q e = absurd cc
    by false p true q e = record { no_lead = p; digits = q; is = cc }
    by false p false q e = absurd cc

shape : (name : List ℕ) → is_empty name ≡ false → leads_with_zero name ≡ false
    → is_digits name ≡ true → (name ≡ 48 ∷ []) ⊎ NoZeroLast (back name)
unfolding NoZeroLast back
shape [] e l d = absurd cc
shape (b ∷ []) e l d = by (b == 48) refl
  where
    low : 48 ≤ b
    low = leb-true 48 b
        (and_true (nat_le 48 b) (nat_le b 57) (and_true (nat_le 48 b && nat_le b 57) true d).0).0

    by : (c : Bool) → (b == 48) ≡ c → (b ∷ [] ≡ 48 ∷ []) ⊎ (48 < b)
    by true p = inl (ap (λ (k : ℕ). k ∷ []) (eqb-true b 48 p))
    by false p = let ne : b ≢ 48 = eqb-false b 48 p in inr (omega (arith, low))
shape (b ∷ c ∷ bs) e l d =
    let low : 48 ≤ b =
    leb-true 48 b
    (and_true (nat_le 48 b) (nat_le b 57)
    (and_true (nat_le 48 b && nat_le b 57) (is_digits (c ∷ bs)) d).0).0 in
    let ne : b ≢ 48 = eqb-false b 48 l in
    inr (NoZeroLast-end (back (c ∷ bs)) b (omega arith))

some_number : (name : List ℕ) → is_empty name ≡ false → NoZeroLast (back name) → 0 < number 0 name
unfolding back
some_number name e h = by (back name) refl
  where
    empty : back name ≡ [] → name ≡ []
    empty p = sym (back-back name) ∙ ap back p

    by : (ds : List ℕ) → back name ≡ ds → 0 < number 0 name
    by [] p = absurd (let q = ap is_empty (empty p) in cc)
    by (d ∷ ds) p =
        omega (
          arith,
          number-back 0 name,
          ap (from_last 0) p,
          from_last-some d ds (subst NoZeroLast p h),
        )

pub one_index : (a b : List ℕ) (n : ℕ) → is_empty a ≡ false → is_empty b ≡ false
    → index_of a ≡ Some n → index_of b ≡ Some n → a ≡ b
one_index a b n ea eb ia ib = by (shape a ea fa.no_lead fa.digits) (shape b eb fb.no_lead fb.digits)
  where
    fa : IsIndex a n
    fa = index_facts a n ia

    fb : IsIndex b n
    fb = index_facts b n ib

    by : (a ≡ 48 ∷ []) ⊎ NoZeroLast (back a) → (b ≡ 48 ∷ []) ⊎ NoZeroLast (back b) → a ≡ b
    by (inl x) (inl y) = x ∙ sym y
    by (inl x) (inr y) = let none : number 0 a ≡ 0 = ap (number 0) x in
        absurd (omega (arith, none, fa.is, fb.is, some_number b eb y))
    by (inr x) (inl y) = let none : number 0 b ≡ 0 = ap (number 0) y in
        absurd (omega (arith, none, fa.is, fb.is, some_number a ea x))
    by (inr x) (inr y) =
        let same = one_list (back a) (back b) (digits_back a fa.digits)
        (digits_back b fb.digits) x y
        (sym (number-back 0 a) ∙ fa.is ∙ sym fb.is ∙ number-back 0 b) in
        sym (back-back a) ∙ ap back same ∙ back-back b
