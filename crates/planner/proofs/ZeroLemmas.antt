-- What a search for the next zero says of where a string ends, in an ascending text.
use Rattle.std.proofs.Common.{◌≡◌, ℕ, zero, suc, ◌-◌, ◌≢◌, Bool, true, false, List, [], ◌∷◌, length, take, drop, Some, None}
use Rattle.std.proofs.Common.{refl, sym, ap, ◌∙◌, arith, length-drop}
use Rattle.std.proofs.lemmas.List.{take_all}
use Rattle.memchr.specs.Find.{is_byte, IsFirstByte, Nowhere, Passes}
use Rattle.value_order.specs.declared.texts.Direction.TheVariants.{Ascending}
use Rattle.std.specs.Prelude.{◌==◌, if◌then◌else◌}
use Rattle.planner.specs.KeyScan.{behind_string}
use Rattle.planner.proofs.KeyScanLemmas.{not_equal}

more_than_zero : (b : ℕ) → (suc b == 0) ≡ false
more_than_zero b = not_equal (suc b) (omega arith)

-- what a byte that is no zero leads to
goes_on : (after_zero : Bool) (b : ℕ) (bs : List ℕ) → behind_string Ascending after_zero (suc b ∷ bs) ≡ behind_string Ascending false bs
goes_on after_zero b bs =
    ap (λ (c : Bool). if c then (if after_zero then Some bs else behind_string Ascending true bs) else behind_string Ascending false bs) (more_than_zero b)

not_both : (x : Bool) → x ≡ false → x ≡ true → ⊥
not_both x is isnt = absurd cc

is_no_zero : (b : ℕ) → (suc b == 0) ≡ true → ⊥
is_no_zero b here = not_both (suc b == 0) (more_than_zero b) here

nowhere_open : (after_zero : Bool) (bs : List ℕ) → Nowhere (Passes (is_byte 0) bs) 0 (length bs) → behind_string Ascending after_zero bs ≡ None
nowhere_open after_zero [] none = refl
nowhere_open after_zero (zero ∷ bs) none = absurd (none 0 (omega arith) (omega arith) refl)
nowhere_open after_zero (suc b ∷ bs) none =
    goes_on after_zero b bs ∙ nowhere_open false bs (λ k low high. none (suc k) (omega arith) (omega (arith, high)))

tail_is : (x y : ℕ) (xs ys : List ℕ) → x ∷ xs ≡ y ∷ ys → xs ≡ ys
tail_is x y xs ys e = cc

onwards_from : (k : ℕ) (bs : List ℕ) (x : ℕ) (ys : List ℕ) → drop k bs ≡ x ∷ ys → Nowhere (Passes (is_byte 0) bs) 0 k → Passes (is_byte 0) bs k
    → behind_string Ascending false bs ≡ behind_string Ascending true ys
onwards_from zero [] x ys e none here = absurd cc
onwards_from (suc k) [] x ys e none here = absurd cc
onwards_from zero (zero ∷ bs) x ys e none here = ap (behind_string Ascending true) (tail_is zero x bs ys e)
onwards_from zero (suc b ∷ bs) x ys e none here = absurd (is_no_zero b here)
onwards_from (suc k) (zero ∷ bs) x ys e none here = absurd (none 0 (omega arith) (omega arith) refl)
onwards_from (suc k) (suc b ∷ bs) x ys e none here =
    goes_on false b bs ∙ onwards_from k bs x ys e (λ j low below. none (suc j) (omega arith) (omega (arith, below))) here

-- where no zero is, no string ends
pub string_open : (bs : List ℕ) → IsFirstByte (is_byte 0) bs None → behind_string Ascending false bs ≡ None
string_open bs none = nowhere_open false bs none

-- the string goes on behind the first zero
pub string_onwards : (k : ℕ) (bs : List ℕ) (x : ℕ) (ys : List ℕ) → IsFirstByte (is_byte 0) bs (Some k) → take (length bs - k) (drop k bs) ≡ x ∷ ys
    → behind_string Ascending false bs ≡ behind_string Ascending true ys
string_onwards k bs x ys first e =
    onwards_from k bs x ys (sym (take_all (length bs - k) (drop k bs) (omega (arith, length-drop k bs))) ∙ e) first.0.before first.1

-- behind a zero: the end, another zero, or a byte of the string
pub string_broken : (bs : List ℕ) → length bs ≡ 0 → behind_string Ascending true bs ≡ None
string_broken [] e = refl
string_broken (b ∷ bs) e = absurd (omega (arith, e))

pub string_ends : (bs : List ℕ) (b : ℕ) (ys : List ℕ) → bs ≡ b ∷ ys → b ≡ 0 → behind_string Ascending true bs ≡ Some ys
string_ends bs b ys e is = ap (behind_string Ascending true) (e ∙ ap (λ x. x ∷ ys) is)

pub string_stays : (bs : List ℕ) (b : ℕ) (ys : List ℕ) → bs ≡ b ∷ ys → b ≢ 0 → behind_string Ascending true bs ≡ behind_string Ascending false ys
string_stays bs zero ys e more = absurd (more refl)
string_stays bs (suc b) ys e more = ap (behind_string Ascending true) e ∙ goes_on true b ys
