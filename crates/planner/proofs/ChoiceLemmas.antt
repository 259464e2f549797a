-- The first range of the greatest rank is the first that none outranks.
use Rattle.std.proofs.Common.{◌≡◌, ℕ, ◌+◌, ◌*◌, ◌<◌, ◌≤◌, Bool, true, false, List, [], ◌∷◌, ◌++◌, length, map, Some, None, inl, inr, ◌⊎◌, refl, sym, ap, subst}
use Rattle.std.proofs.Common.{arith, append_assoc}
use Rattle.std.specs.Prelude.{nat_lt, ◌==◌, if◌then◌else◌}
use Rattle.std.specs.List.{AllByRecursion}
use Rattle.bson.specs.Tree.{Tree}
use Rattle.std.proofs.lemmas.Bool.{ltb-true, ltb-false, eqb-true, eqb-false}
use Rattle.planner.specs.ChoiceLaws.{Outranks, IsNoHelp, IsFirstBest, IsChosen, ChoosesFirstBest}
use Rattle.plan_model.specs.Plan.{Range, scan, by_index, range_in, has_end, rank, best, plan_of}

-- ---- ranks

abbrev number : Bool → ℕ → ℕ
number b n = if b then n else 0

small : (b : Bool) (n : ℕ) → number b n ≤ n
small true n = omega arith
small false n = omega arith

-- of numbers with these parts
abbrev IsAbove : ℕ → ℕ → Bool → Bool → Bool → Bool → Type 0
IsAbove e f a b c d = (f < e) ⊎ ((f ≡ e) × (((b ≡ false) × (a ≡ true)) ⊎ ((b ≡ a) × (d ≡ false) × (c ≡ true))))

above : (e f : ℕ) (a b c d : Bool) → IsAbove e f a b c d → 4 * f + (number b 2 + number d 1) < 4 * e + (number a 2 + number c 1)
above e f a b c d (inl less) = omega (arith, small b 2, small d 1, less)
above e f a true c d (inr (same, inl (x, y))) = absurd cc
above e f false b c d (inr (same, inl (x, y))) = absurd cc
above e f true false c true (inr (same, inl (x, y))) = omega (arith, same)
above e f true false c false (inr (same, inl (x, y))) = omega (arith, same)
above e f a b true false (inr (same, inr (x, y, z))) = omega (arith, same, ap (λ (t : Bool). number t 2) x)
above e f a b true true (inr (same, inr (x, y, z))) = absurd cc
above e f a b false d (inr (same, inr (x, y, z))) = absurd cc

same_level : (a b c d : Bool) → number b 2 + number d 1 < number a 2 + number c 1 → ((b ≡ false) × (a ≡ true)) ⊎ ((b ≡ a) × (d ≡ false) × (c ≡ true))
same_level true false c d less = inl (refl, refl)
same_level true true true false less = inr (refl, refl, refl)
same_level true true true true less = absurd (omega (arith, less))
same_level true true false true less = absurd (omega (arith, less))
same_level true true false false less = absurd (omega (arith, less))
same_level false false true false less = inr (refl, refl, refl)
same_level false false true true less = absurd (omega (arith, less))
same_level false false false true less = absurd (omega (arith, less))
same_level false false false false less = absurd (omega (arith, less))
same_level false true true true less = absurd (omega (arith, less))
same_level false true true false less = absurd (omega (arith, less))
same_level false true false true less = absurd (omega (arith, less))
same_level false true false false less = absurd (omega (arith, less))

from_above : (e f : ℕ) (a b c d : Bool) → 4 * f + (number b 2 + number d 1) < 4 * e + (number a 2 + number c 1) → IsAbove e f a b c d
from_above e f a b c d less = by (nat_lt f e) refl
  where
    by : (t : Bool) → nat_lt f e ≡ t → IsAbove e f a b c d
    by true h = inl (ltb-true f e h)
    by false h =
        let least : e ≤ f = ltb-false f e h in
        let same : f ≡ e = omega (arith, less, least, small a 2, small c 1) in
        inr (same, same_level a b c d (omega (arith, less, same)))

pub outranks_of : (r s : Range) → rank s < rank r → Outranks r s
outranks_of r s less = from_above (length r.equal) (length s.equal) (has_end r) (has_end s) r.is_sorted s.is_sorted less

pub rank_of : (r s : Range) → Outranks r s → rank s < rank r
rank_of r s h = above (length r.equal) (length s.equal) (has_end r) (has_end s) r.is_sorted s.is_sorted h

-- ---- the first of the greatest rank

abbrev Lower : Range → List Range → Type 0
Lower r ss = AllByRecursion (λ s. rank s < rank r) ss

abbrev NoHigher : Range → List Range → Type 0
NoHigher r ss = AllByRecursion (λ s. rank s ≤ rank r) ss

all_append : {X : Type 0} (P : X → Type 0) (xs ys : List X) → AllByRecursion P xs → AllByRecursion P ys → AllByRecursion P (xs ++ ys)
all_append P [] ys h g = g
all_append P (x ∷ xs) ys h g = (h.0, all_append P xs ys h.1 g)

all_more : {X : Type 0} (P Q : X → Type 0) → ((x : X) → P x → Q x) → (xs : List X) → AllByRecursion P xs → AllByRecursion Q xs
all_more P Q more [] h = tt
all_more P Q more (x ∷ xs) h = (more x h.0, all_more P Q more xs h.1)

record IsGreatest (ranges : List Range) (r : Range) : Type 0 where
  front : List Range
  back : List Range
  split : ranges ≡ front ++ r ∷ back
  lower : Lower r front
  no_higher : NoHigher r back

-- r is the first of the greatest rank among those before
best_of : (front middle : List Range) (r : Range) (ss : List Range) → Lower r front → NoHigher r middle → IsGreatest (front ++ r ∷ (middle ++ ss)) (best r ss)
best_of front middle r [] low high = record
    { front = front; back = middle ++ []; split = refl; lower = low; no_higher = all_append (λ s. rank s ≤ rank r) middle [] high tt }
best_of front middle r (s ∷ ss) low high = by (nat_lt (rank r) (rank s)) refl
    (λ less. best_of (front ++ r ∷ middle) [] s ss (lower_all less) tt)
    (λ no_less. best_of front (middle ++ s ∷ []) r ss low (all_append (λ x. rank x ≤ rank r) middle (s ∷ []) high (no_less, tt)))
  where
    lower_all : rank r < rank s → Lower s (front ++ r ∷ middle)
    lower_all less =
        all_append (λ x. rank x < rank s) front (r ∷ middle) (all_more (λ x. rank x < rank r) (λ x. rank x < rank s) (λ x h. omega (arith, h, less)) front low)
        (less, all_more (λ x. rank x ≤ rank r) (λ x. rank x < rank s) (λ x h. omega (arith, h, less)) middle high)

    by : (t : Bool) → nat_lt (rank r) (rank s) ≡ t
        → (rank r < rank s → IsGreatest ((front ++ r ∷ middle) ++ s ∷ ss) (best s ss))
        → (rank s ≤ rank r → IsGreatest (front ++ r ∷ ((middle ++ s ∷ []) ++ ss)) (best r ss))
        → IsGreatest (front ++ r ∷ (middle ++ s ∷ ss)) (best (if t then s else r) ss)
    by true h first second =
        subst (λ (xs : List Range). IsGreatest xs (best s ss)) (append_assoc front (r ∷ middle) (s ∷ ss)) (first (ltb-true (rank r) (rank s) h))
    by false h first second =
        subst (λ (xs : List Range). IsGreatest (front ++ r ∷ xs) (best r ss)) (append_assoc middle (s ∷ []) ss) (second (ltb-false (rank r) (rank s) h))

-- ---- the choice

no_values : (ts : List Tree) → length ts ≡ 0 → ts ≡ []
no_values [] e = refl
no_values (t ∷ ts) e = absurd (omega (arith, e))

no_help_parts : (r : Range) (n : ℕ) (a c : Bool) → length r.equal ≡ n → 4 * n + (number a 2 + number c 1) ≡ 0 → (r.equal ≡ []) × (a ≡ false) × (c ≡ false)
no_help_parts r n true c e none = absurd (omega (arith, none))
no_help_parts r n false true e none = absurd (omega (arith, none))
no_help_parts r n false false e none = (no_values r.equal (omega (arith, e, none)), refl, refl)

no_help_of : (r : Range) → rank r ≡ 0 → IsNoHelp r
no_help_of r e = no_help_parts r (length r.equal) (has_end r) r.is_sorted refl e

rank_of_none : (r : Range) → IsNoHelp r → rank r ≡ 0
rank_of_none r (e, a, c) = λ i. 4 * length (e i) + (number (a i) 2 + number (c i) 1)

none_helps : (r : Range) (ranges : List Range) → IsGreatest ranges r → rank r ≡ 0 → AllByRecursion IsNoHelp ranges
none_helps r ranges g e =
    subst (λ (xs : List Range). AllByRecursion IsNoHelp xs) (sym g.split)
    (all_append IsNoHelp g.front (r ∷ g.back) (all_more (λ s. rank s < rank r) IsNoHelp (λ s h. no_help_of s (omega (arith, h, e))) g.front g.lower)
    (no_help_of r e, all_more (λ s. rank s ≤ rank r) IsNoHelp (λ s h. no_help_of s (omega (arith, h, e))) g.back g.no_higher))

first_best : (r : Range) (ranges : List Range) → IsGreatest ranges r → IsFirstBest ranges r
first_best r ranges g = record {
  before = g.front;
  behind = g.back;
  stands_there = g.split;
  above_those = all_more (λ s. rank s < rank r) (λ s. Outranks r s) (λ s h. outranks_of r s h) g.front g.lower;
  not_below = all_more (λ s. rank s ≤ rank r) (λ s. ¬ Outranks s r) (λ s h o. absurd (let less = rank_of s r o in omega (arith, h, less))) g.back g.no_higher;
}

chosen : (r : Range) (ranges : List Range) → IsGreatest ranges r → IsChosen ranges (plan_of r)
chosen r ranges g = by (rank r == 0) refl
  where
    by : (t : Bool) → (rank r == 0) ≡ t → IsChosen ranges (if t then scan else by_index r)
    by true h = none_helps r ranges g (eqb-true (rank r) 0 h)
    by false h = (first_best r ranges g, λ none. eqb-false (rank r) 0 h (rank_of_none r none))

pub chooses_first_best : ChoosesFirstBest
chooses_first_best rs sort indexes =
    let first = range_in rs sort None in
    let others = map (λ d. range_in rs sort (Some d)) indexes in
    chosen (best first others) (first ∷ others) (best_of [] [] first others tt tt)
