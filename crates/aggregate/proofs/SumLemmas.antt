-- A sum is the same in every order.
use Rattle.std.proofs.Common.{◌≡◌, ℤ, pos, ◌+ℤ◌, Bool, true, false, Option, Some, None, List, [], ◌∷◌, ◌++◌, fold, refl, sym, ap, ◌∙◌, arith}
use Rattle.std.proofs.lemmas.Int.{ints}
use Rattle.std.specs.Prelude.{◌&&◌}
use Rattle.bson.specs.Tree.{Tree, scalar, text, binary, object_id, boolean, date, null, int32, timestamp, int64, min_key, max_key, document, array}
use Rattle.aggregate_model.specs.Accumulators.{State, total, take, outcome}
use Rattle.aggregate_model.specs.Laws.{SumsInAnyOrder}

-- whether a value leaves an int32 what it is, and what it adds
abbrev narrows : Option Tree → Bool
narrows None = true
narrows (Some (scalar (int64 n))) = false
narrows (Some t) = true

abbrev summand : Option Tree → ℤ
summand None = pos 0
summand (Some (scalar (int32 n))) = n
summand (Some (scalar (int64 n))) = n
summand (Some t) = pos 0

and_true : (n : Bool) → n ≡ (n && true)
and_true true = refl
and_true false = refl

and_false : (n : Bool) → false ≡ (n && false)
and_false true = refl
and_false false = refl

and_swap : (n a b : Bool) → ((n && a) && b) ≡ ((n && b) && a)
and_swap true true true = refl
and_swap true true false = refl
and_swap true false true = refl
and_swap true false false = refl
and_swap false a b = refl

plus_none : (z : ℤ) → z ≡ z +ℤ pos 0
plus_none z = omega (arith, ints)

plus_swap : (z a b : ℤ) → (z +ℤ a) +ℤ b ≡ (z +ℤ b) +ℤ a
plus_swap z a b = omega (arith, ints)

abbrev after : Bool → ℤ → Option Tree → State
after n z o = total (n && narrows o) (z +ℤ summand o)

kept : (n : Bool) (z : ℤ) → total n z ≡ total (n && true) (z +ℤ pos 0)
kept n z = λ i. total (and_true n i) (plus_none z i)

is_total : (n : Bool) (z : ℤ) (o : Option Tree) → take (total n z) o ≡ after n z o
is_total n z None = kept n z
is_total n z (Some (scalar (text s))) = kept n z
is_total n z (Some (scalar (binary k b))) = kept n z
is_total n z (Some (scalar (object_id b))) = kept n z
is_total n z (Some (scalar (boolean b))) = kept n z
is_total n z (Some (scalar (date d))) = kept n z
is_total n z (Some (scalar null)) = kept n z
is_total n z (Some (scalar (int32 m))) = ap (λ (b : Bool). total b (z +ℤ m)) (and_true n)
is_total n z (Some (scalar (timestamp t))) = kept n z
is_total n z (Some (scalar (int64 m))) = ap (λ (b : Bool). total b (z +ℤ m)) (and_false n)
is_total n z (Some (scalar min_key)) = kept n z
is_total n z (Some (scalar max_key)) = kept n z
is_total n z (Some (document ps)) = kept n z
is_total n z (Some (array ts)) = kept n z

both : (n : Bool) (z : ℤ) (a b : Option Tree) → take (take (total n z) a) b ≡ total ((n && narrows a) && narrows b) ((z +ℤ summand a) +ℤ summand b)
both n z a b = ap (λ (s : State). take s b) (is_total n z a) ∙ is_total (n && narrows a) (z +ℤ summand a) b

swapped : (before behind : List (Option Tree)) (a b : Option Tree) (n : Bool) (z : ℤ)
    → fold take (total n z) (before ++ a ∷ b ∷ behind) ≡ fold take (total n z) (before ++ b ∷ a ∷ behind)
swapped [] behind a b n z =
    ap (λ (s : State). fold take s behind)
    (both n z a b ∙ (λ i. total (and_swap n (narrows a) (narrows b) i) (plus_swap z (summand a) (summand b) i)) ∙ sym (both n z b a))
swapped (x ∷ before) behind a b n z =
    ap (λ (s : State). fold take s (before ++ a ∷ b ∷ behind)) (is_total n z x)
    ∙ swapped before behind a b (n && narrows x) (z +ℤ summand x)
    ∙ sym (ap (λ (s : State). fold take s (before ++ b ∷ a ∷ behind)) (is_total n z x))

pub sums_in_any_order : SumsInAnyOrder
sums_in_any_order before behind a b = ap outcome (swapped before behind a b true (pos 0))
