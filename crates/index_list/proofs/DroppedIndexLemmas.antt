-- Which indexes are dropped, and what that makes of a collection.
use Rattle.std.proofs.Common.{◌≡◌, ◌+◌, ◌<◌, ◌≤◌, ℕ, zero, suc, Bool, true, false, cond, List, [], ◌∷◌, ◌++◌, length, get_or, take, drop, Some, None, Result}
use Rattle.std.proofs.Common.{Ok, refl, sym, ap, subst, ◌∙◌, arith}
use Rattle.std.specs.Prelude.{nat_lt, not}
use Rattle.std.specs.List.{filter, position, position_or_len, remove}
use Rattle.std.proofs.lemmas.Bool.Decides.{nat_tests}
use Rattle.std.proofs.lemmas.List.Edits.{length-remove}
use Rattle.std.proofs.lemmas.List.Elements.{filter-append}
use Rattle.std.proofs.lemmas.List.Quantifiers.{position-Some}
use Rattle.std.proofs.lemmas.List.Sums.{count_by-le-length, length-filter}
use Rattle.outcome.specs.Outcome.{◌>>=◌}
use Rattle.path.specs.declared.refusal.Refusal.{Refusal}
use Rattle.command_model.specs.DropIndexes.{DroppedIndexes, all}
use Rattle.index.specs.Definition.{Definition}
use Rattle.entry_model.specs.State.{Collection, find_collection, put_collection}
use Rattle.entry_model.proofs.KeptSteps.{cut_at}
use Rattle.database_model.specs.DropIndexes.{dropped_in, index_dropped, is_dropped, left_by, remaining}

-- ---- the first that passes a test

module _ {X : Type 0} (p : X → Bool) where
  fails_all : (xs : List X) → length xs ≤ position_or_len p xs → filter (λ x. not (p x)) xs ≡ xs
  fails_all [] past = refl
  fails_all (x ∷ xs) past = by (p x) past (fails_all xs)
    where
      by : (b : Bool) → suc (length xs) ≤ cond (not b) (1 + position_or_len p xs) 0 → (length xs ≤ position_or_len p xs → filter (λ x. not (p x)) xs ≡ xs)
          → cond (not b) (x ∷ filter (λ x. not (p x)) xs) (filter (λ x. not (p x)) xs) ≡ x ∷ xs
      by true past rest = absurd (omega (arith, past))
      by false past rest = ap (λ (ys : List X). x ∷ ys) (rest (omega (arith, past)))

  past_all : (xs : List X) → position p xs ≡ None → length xs ≤ position_or_len p xs
  past_all xs is =
      let outside = by (nat_lt (position_or_len p xs) (length xs)) (position_or_len p xs) is in
      grind (arith, nat_tests, outside)
    where
      by : (b : Bool) (n : ℕ) → cond b (Some n) None ≡ None → b ≡ false
      by true n e = absurd cc
      by false n e = refl

  pub nothing_passes : (xs : List X) → position p xs ≡ None → filter (λ x. not (p x)) xs ≡ xs
  nothing_passes xs is = fails_all xs (past_all xs is)

  -- what passes is filtered out, whether it stands there or not
  pub left_without : (xs : List X) (i : ℕ) (x : X) → i < length xs → x ≡ get_or xs i x → p x ≡ true
      → filter (λ y. not (p y)) (remove xs i) ≡ filter (λ y. not (p y)) xs
  left_without xs i x within here passes =
      let q : X → Bool = λ y. not (p y) in
      let front = take i xs in
      let back = drop (suc i) xs in
      let gone : filter q (x ∷ back) ≡ filter q back = ap (λ (b : Bool). cond (not b) (x ∷ filter q back) (filter q back)) passes in
      filter-append q front back ∙ ap (λ (ys : List X). filter q front ++ ys) (sym gone) ∙ sym (filter-append q front (x ∷ back))
      ∙ ap (filter q) (sym (cut_at xs i x within here))

element_at : {X : Type 0} (xs : List X) (i : ℕ) → i < length xs → (x : X) × (x ≡ get_or xs i x)
element_at [] i below = absurd (omega (arith, below))
element_at (x ∷ xs) zero below = (x, refl)
element_at (x ∷ xs) (suc i) below = element_at xs i (omega (arith, below))

-- ---- indexes

module _ (away : DroppedIndexes) (is : List Definition) where
  abbrev continues : Definition → Bool
  continues = is_dropped away

  pub all_remain : position continues is ≡ None → remaining away is ≡ is
  all_remain none = nothing_passes continues is none

  module _ (at : ℕ) (found : position continues is ≡ Some at) where
    pub within_them : at < length is
    within_them = some_length is found
      where
        some_length : (js : List Definition) → position continues js ≡ Some at → at < length js
        some_length [] e = absurd cc
        some_length (j ∷ js) e = (position-Some continues (j ∷ js) at j e).0

    pub remain_without : remaining away (remove is at) ≡ remaining away is
    remain_without =
        let e = element_at is at within_them in
        left_without continues is at e.0 within_them e.1 (ap continues e.1 ∙ (position-Some continues is at e.0 found).1)

    pub fewer_remain : length (remaining away is) < length is
    fewer_remain =
        let stays : length (remaining away (remove is at)) ≤ length (remove is at) =
        subst (λ (n : ℕ). n ≤ length (remove is at)) (sym (length-filter (λ k. not (continues k)) (remove is at)))
        (count_by-le-length (λ k. not (continues k)) (remove is at)) in
        omega (arith, stays, ap length remain_without, length-remove is at within_them)

-- ---- refusals

none_remain : (is : List Definition) → remaining all is ≡ []
none_remain [] = refl
none_remain (i ∷ is) = none_remain is

pub left_all : (away : DroppedIndexes) (is : List Definition) → away ≡ all → left_by away is ≡ Ok (remaining away is)
left_all away is every =
    subst (λ (d : DroppedIndexes). left_by d is ≡ Ok (remaining d is)) (sym every)
    (ap (λ (js : List Definition). let r : Result (List Definition) Refusal = Ok js in r) (sym (none_remain is)))

-- ---- a collection of the name

pub dropped_there : (cs : List Collection) (name : List ℕ) (away : DroppedIndexes) (c : Collection) → find_collection cs name ≡ Some c
    → (r : Result (List Definition) Refusal) → left_by away c.indexes ≡ r
    → index_dropped cs name away
    ≡ ((r >>= (λ left. let x : Result Collection Refusal = Ok (record c { indexes = left }) in x)) >>=
    (λ next. let x : Result (List Collection) Refusal = Ok (put_collection next cs) in x))
dropped_there cs name away c found r is =
    ap (dropped_in away cs) found
    ∙ ap (λ (q : Result (List Definition) Refusal). (q >>= (λ left. let x : Result Collection Refusal = Ok (record c { indexes = left }) in x)) >>=
    (λ next. let x : Result (List Collection) Refusal = Ok (put_collection next cs) in x)) is
