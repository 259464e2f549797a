-- The parts of a path are names.
use Rattle.std.proofs.Common.{◌≡◌, ◌≤◌, ◌<◌, ℕ, zero, suc, ◌+◌, Bool, true, false, List, [], ◌∷◌, length, get_or, drop, length-drop, Option, Some}
use Rattle.std.proofs.Common.{None, refl, sym, ap, subst, ◌∙◌, arith}
use Rattle.std.proofs.Common.{IsUtf8}
use Rattle.std.specs.Prelude.{◌||◌, ◌==◌, nat_lt, if◌then◌else◌}
use Rattle.std.specs.List.{list_any, position_or_len, slice_split}
use Rattle.std.proofs.lemmas.Bool.Decides.{nat_tests}
use Rattle.std.proofs.lemmas.List.Splits.{slice_split_first, slice_split_none}
use Rattle.std.proofs.lemmas.List.Sums.{fails_before_first, passes_at_first}
use Rattle.std.proofs.lemmas.Str.{IsCharBoundary-after_ascii, IsCharBoundary-before_ascii, IsUtf8-drop, IsUtf8-take}
use Rattle.bson.specs.Lawful.{NoZero}
use Rattle.filter.specs.Parsing.{or_refusal, path_in}
use Rattle.outcome.specs.Outcome.{fault_or}
use Rattle.path.specs.declared.fault.PathFault.{PathFault}
use Rattle.path.specs.declared.fault.PathFault.TheVariants as faults
use Rattle.path.specs.Parts.{has_zero, parts_of, path_fault}
use Rattle.bulk_writes.proofs.Values.{AreNames, IfGiven}

abbrev AreTexts : List (List ℕ) → Type 0
AreTexts [] = Unit {0}
AreTexts (x ∷ xs) = IsUtf8 x × AreTexts xs

abbrev is_dot : ℕ → Bool
is_dot b = b == 46

dot_is : (n : ℕ) → is_dot n ≡ true → n ≡ 46
dot_is n e = grind (arith, nat_tests, e)

-- what stands between the dots of a text is text, if that is so of what stands behind the first dot
module _ (bs : List ℕ) (text : IsUtf8 bs) (later : (ds : List ℕ) → length ds < length bs → IsUtf8 ds → AreTexts (slice_split is_dot ds)) where
  abbrev first_dot : ℕ
  first_dot = position_or_len is_dot bs

  one_part : (b : Bool) → nat_lt first_dot (length bs) ≡ b → AreTexts (slice_split is_dot bs)
  one_part false e =
      let past : length bs ≤ first_dot = grind (arith, nat_tests, e) in
      subst AreTexts (sym (slice_split_none is_dot bs (λ k d below. fails_before_first is_dot bs k d (omega (arith, past, below))))) (text, tt)
  one_part true e =
      let below : first_dot < length bs = grind (arith, nat_tests, e) in
      let dot : get_or bs first_dot 0 ≡ 46 = dot_is (get_or bs first_dot 0) (passes_at_first is_dot bs 0 below) in
      let small : get_or bs first_dot 0 < 128 = omega (arith, dot) in
      subst AreTexts (sym (slice_split_first is_dot bs 0 below)) (
        IsUtf8-take bs first_dot text (IsCharBoundary-before_ascii bs first_dot below small),
        later (drop (first_dot + 1) bs) (omega (arith, below, length-drop (first_dot + 1) bs))
            (IsUtf8-drop bs (first_dot + 1) text (IsCharBoundary-after_ascii bs first_dot text below small)),
      )

parts_are : (n : ℕ) (bs : List ℕ) → length bs ≤ n → IsUtf8 bs → AreTexts (slice_split is_dot bs)
parts_are zero bs fits text =
    one_part bs text (λ ds less u. absurd (omega (arith, fits, less))) (nat_lt (position_or_len is_dot bs) (length bs)) refl
parts_are (suc n) bs fits text =
    one_part bs text (λ ds less u. parts_are n ds (omega (arith, fits, less)) u) (nat_lt (position_or_len is_dot bs) (length bs)) refl

no_zero : (bs : List ℕ) → has_zero bs ≡ false → NoZero bs
no_zero [] e = tt
no_zero (b ∷ bs) e = by (b == 0) refl e (no_zero bs)
  where
    by : (c : Bool) → (b == 0) ≡ c → (c || list_any (λ x. x == 0) bs) ≡ false → (has_zero bs ≡ false → NoZero bs) → NoZero (b ∷ bs)
    by true is f later = absurd cc
    by false is f later = (λ same. let not : (0 == 0) ≡ false = ap (λ x. x == 0) (sym same) ∙ is in absurd cc, later f)

are_names : (parts : List (List ℕ)) → AreTexts parts → list_any has_zero parts ≡ false → AreNames parts
are_names [] texts e = tt
are_names (x ∷ xs) texts e = by (has_zero x) refl e (are_names xs texts.1)
  where
    by : (c : Bool) → has_zero x ≡ c → (c || list_any has_zero xs) ≡ false → (list_any has_zero xs ≡ false → AreNames xs) → AreNames (x ∷ xs)
    by true is f later = absurd cc
    by false is f later = (record { is_text = texts.0; no_zero = no_zero x is }, later f)

-- the last of the tests
none_zero : (a b c d z : Bool)
    → (if a then Some faults.Empty else if b then Some faults.EmptyPart else if c then Some faults.Dollar else if d then Some faults.TooLong else
    if z then Some faults.Zero else None) ≡ None → z ≡ false
none_zero true b c d z e = absurd cc
none_zero false true c d z e = absurd cc
none_zero false false true d z e = absurd cc
none_zero false false false true z e = absurd cc
none_zero false false false false true e = absurd cc
none_zero false false false false false e = refl

pub path_given : (name : List ℕ) → IsUtf8 name → IfGiven AreNames (path_in name)
path_given name text = at (path_fault name (parts_of name)) refl
  where
    at : (o : Option PathFault) → path_fault name (parts_of name) ≡ o → IfGiven AreNames (or_refusal (fault_or o (parts_of name)))
    at (Some f) e = tt
    at None e = are_names (parts_of name) (parts_are (length name) name (omega arith) text) (none_zero _ _ _ _ (list_any has_zero (parts_of name)) e)
