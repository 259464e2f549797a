-- The first documents that stages need.
use Rattle.std.proofs.Common.{◌≡◌, ℕ, zero, suc, ◌+◌, ◌≤◌, Bool, true, List, [], ◌∷◌, ◌++◌, length, take, drop, Option, Some, None, Result, Ok, refl, sym, ap}
use Rattle.std.proofs.Common.{subst, ◌∙◌, arith}
use Rattle.std.specs.Prelude.{SomeIff, IfSome}
use Rattle.std.specs.List.{filter, AllByRecursion}
use Rattle.std.proofs.lemmas.List.{take-take, drop-take}
use Rattle.bson.specs.Tree.{Pairs}
use Rattle.outcome.specs.Outcome.{◌>>=◌}
use Rattle.path.specs.declared.refusal.Refusal.{Refusal}
use Rattle.filter.specs.Matches.{matches}
use Rattle.sort.specs.Sort.{SortField, order, compare_by}
use Rattle.sort.specs.SortLaws.{SortsInParts, All-sorted, sorted-permuted}
use Rattle.std.proofs.lemmas.List.Sorted.{length_permutation}
use Rattle.std.proofs.lemmas.List.Elements.{filter-append}
use Rattle.aggregate_model.specs.EnoughLaws.{All-filter, All-append, All-front, All-back, Pass, filter-passes, passed-filter, Within, fault-within}
use Rattle.aggregate_model.specs.EnoughLaws.{within-fault}
use Rattle.aggregate_model.specs.Limits.{limit_fault, first_fault, if_faultless, within_limits}
use Rattle.aggregate_model.specs.Pipeline.{run}
use Rattle.aggregate_model.specs.Group.{Grouping}
use Rattle.aggregate_model.specs.Stage.{Stage, match_stage, group_stage, sort_stage, skip_stage, limit_stage}
use Rattle.aggregate_model.specs.Stages.{apply_stage}
use Rattle.aggregate_model.specs.Taking.{takes_by, takes, behind_if_match, behind_match, run_behind_groups, FirstAreEnough, SufficesTaken, IsEnough}
use Rattle.aggregate_model.specs.TakingLaws.{all_pass}

-- ---- fronts and backs of lists

module _ {X : Type 0} (P : X → Type 0) where
  All-take : (n : ℕ) (xs : List X) → AllByRecursion P xs → AllByRecursion P (take n xs)
  All-take zero xs h = tt
  All-take (suc n) [] h = tt
  All-take (suc n) (x ∷ xs) h = (h.0, All-take n xs h.1)

  All-drop : (n : ℕ) (xs : List X) → AllByRecursion P xs → AllByRecursion P (drop n xs)
  All-drop zero xs h = h
  All-drop (suc n) [] h = tt
  All-drop (suc n) (x ∷ xs) h = All-drop n xs h.1

module _ {X : Type 0} where
  length-take-within : (n : ℕ) (xs : List X) → length (take n xs) ≤ length xs
  length-take-within zero xs = omega arith
  length-take-within (suc n) [] = omega arith
  length-take-within (suc n) (x ∷ xs) = omega (arith, length-take-within n xs)

-- a stage that is done, and leaves documents within the limits, is passed
passes : (s : Stage) (stages : List Stage) (limit : ℕ) (ds xs : List Pairs) → apply_stage s ds ≡ Ok xs → Within limit xs
    → run (s ∷ stages) limit ds ≡ run stages limit xs
passes s stages limit ds xs e h =
    ap (λ (r : Result (List Pairs) Refusal). (r >>= within_limits limit) >>= run stages limit) e
    ∙ ap (λ (o : Option Refusal). if_faultless o xs >>= run stages limit) (within-fault limit xs h)

-- ---- how many are enough

pub limit_suffices : (stages : List Stage) (n : ℕ) → FirstAreEnough (limit_stage n ∷ stages) n
limit_suffices stages n limit ds e =
    ap (λ (xs : List Pairs). (Ok xs >>= within_limits limit) >>= run stages limit) (take-take n n ds (omega arith))

pub skip_suffices : (stages : List Stage) (n m : ℕ) → FirstAreEnough stages m → FirstAreEnough (skip_stage n ∷ stages) (n + m)
skip_suffices stages n m behind limit ds e =
    let rest = All-drop (λ d. limit_fault limit d ≡ None) n ds (fault-within limit ds e) in
    let first = passes (skip_stage n) stages limit (take (n + m) ds) (take m (drop n ds)) (ap (λ (xs : List Pairs). Ok xs) (drop-take n m ds))
    (All-take (λ d. limit_fault limit d ≡ None) m (drop n ds) rest) in
    let second = passes (skip_stage n) stages limit ds (drop n ds) refl rest in
    first ∙ behind limit (drop n ds) (within-fault limit (drop n ds) rest) ∙ sym second

pub skip_enough : (stages behind : List Stage) (skipped most : ℕ) (total : Option ℕ) (P : Type 0) → stages ≡ skip_stage skipped ∷ behind
    → FirstAreEnough behind most
    → SomeIff total P (most + skipped) → IfSome total (λ n. FirstAreEnough stages n)
skip_enough stages behind skipped most None P is enough sum = tt
skip_enough stages behind skipped most (Some n) P is enough sum =
    let same : skipped + most ≡ n = omega (arith, sum.1) in
    subst (λ (k : ℕ). FirstAreEnough stages k) same
    (subst (λ (ss : List Stage). FirstAreEnough ss (skipped + most)) (sym is) (skip_suffices behind skipped most enough))

-- ---- of those that a pipeline takes

by_match : (s : Stage) (stages : List Stage) (most : ℕ) → FirstAreEnough (behind_if_match s stages) most → SufficesTaken (s ∷ stages) most
by_match (match_stage rules) stages most behind limit ds e =
    let found = filter (matches rules) ds in
    let all = All-filter (λ d. limit_fault limit d ≡ None) (matches rules) ds (fault-within limit ds e) in
    let front = take most found in
    let same : filter (matches rules) front ≡ front =
    passed-filter (matches rules) front (All-take (λ d. matches rules d ≡ true) most found (filter-passes (matches rules) ds)) in
    let first = passes (match_stage rules) stages limit front front (ap (λ (xs : List Pairs). Ok xs) same)
    (All-take (λ d. limit_fault limit d ≡ None) most found all) in
    let second = passes (match_stage rules) stages limit ds found refl all in
    first ∙ behind limit found (within-fault limit found all) ∙ sym second
by_match other stages most behind limit ds e =
    ap (λ (xs : List Pairs). run (other ∷ stages) limit (take most xs)) (all_pass ds) ∙ behind limit ds e

pub suffices_taken : (stages : List Stage) (most : ℕ) → FirstAreEnough (behind_match stages) most → SufficesTaken stages most
suffices_taken [] most behind = λ limit ds e. ap (λ (xs : List Pairs). run [] limit (take most xs)) (all_pass ds) ∙ behind limit ds e
suffices_taken (s ∷ stages) most behind = by_match s stages most behind

pub most_taken : (stages behind : List Stage) (most : Option ℕ) → behind ≡ behind_match stages → IfSome most (λ n. FirstAreEnough behind n)
    → IfSome most (λ n. SufficesTaken stages n)
most_taken stages behind None is h = tt
most_taken stages behind (Some n) is h = suffices_taken stages n (subst (λ (ss : List Stage). FirstAreEnough ss n) is h)

-- ---- a `$group` in front

by_group : (s : Stage) (stages behind : List Stage) (g : Grouping) → behind_if_match s stages ≡ group_stage g ∷ behind → (limit : ℕ) (ds : List Pairs)
    → first_fault limit ds ≡ None
    → run_behind_groups g behind limit (filter (takes_by s) ds) ≡ run (s ∷ stages) limit ds
by_group (match_stage rules) stages behind g is limit ds e =
    let found = filter (matches rules) ds in
    let all = All-filter (λ d. limit_fault limit d ≡ None) (matches rules) ds (fault-within limit ds e) in
    ap (λ (ss : List Stage). run ss limit found) (sym is) ∙ sym (passes (match_stage rules) stages limit ds found refl all)
by_group other stages behind g is limit ds e =
    ap (λ (xs : List Pairs). run (group_stage g ∷ behind) limit xs) (all_pass ds) ∙ ap (λ (ss : List Stage). run ss limit ds) (sym is)

pub groups_taken : (stages behind : List Stage) (g : Grouping) → behind_match stages ≡ group_stage g ∷ behind → (limit : ℕ) (ds : List Pairs)
    → first_fault limit ds ≡ None
    → run_behind_groups g behind limit (filter (takes stages) ds) ≡ run stages limit ds
groups_taken [] behind g is limit ds e = absurd cc
groups_taken (s ∷ stages) behind g is limit ds e = by_group s stages behind g is limit ds e

-- ---- the first ones in the order of a sort

module _ (in_parts : SortsInParts) (fields : List SortField) (behind : List Stage) (most : ℕ) (enough : FirstAreEnough behind most) where
  abbrev first_of : List Pairs → List Pairs
  first_of these = take most (order fields these)

  abbrev ordering : List Stage
  ordering = sort_stage fields ∷ behind

  All-first : (P : Pairs → Type 0) (these : List Pairs) → AllByRecursion P these → AllByRecursion P (first_of these)
  All-first P these h = All-take P most (order fields these) (All-sorted (compare_by fields) P these h)

  within-first : (limit : ℕ) (these rest : List Pairs) → Within limit (these ++ rest) → Within limit (first_of these ++ rest)
  within-first limit these rest h =
      All-append (λ d. limit_fault limit d ≡ None) (first_of these) rest
      (All-first (λ d. limit_fault limit d ≡ None) these (All-front (λ d. limit_fault limit d ≡ None) these rest h))
      (All-back (λ d. limit_fault limit d ≡ None) these rest h)

  ordered : (limit : ℕ) (ds : List Pairs) → Within limit ds → run ordering limit ds ≡ run behind limit (take most (order fields ds))
  ordered limit ds h =
      let all = All-sorted (compare_by fields) (λ d. limit_fault limit d ≡ None) ds h in
      passes (sort_stage fields) behind limit ds (order fields ds) refl all ∙ sym (enough limit (order fields ds) (within-fault limit (order fields ds) all))

  first-enough : (limit : ℕ) (these rest : List Pairs) → Within limit (these ++ rest)
      → run ordering limit (first_of these ++ rest) ≡ run ordering limit (these ++ rest)
  first-enough limit these rest h =
      ordered limit (first_of these ++ rest) (within-first limit these rest h) ∙ ap (run behind limit) (in_parts fields most these rest)
      ∙ sym (ordered limit (these ++ rest) h)

  filter-front : (p : Pairs → Bool) (xs rest : List Pairs) → Pass p xs → filter p (xs ++ rest) ≡ xs ++ filter p rest
  filter-front p xs rest h = filter-append p xs rest ∙ ap (λ (ys : List Pairs). ys ++ filter p rest) (passed-filter p xs h)

  by_match-sorted : (s : Stage) (stages : List Stage) → behind_if_match s stages ≡ ordering → (these : List Pairs) → Pass (takes_by s) these
      → (limit : ℕ) (rest : List Pairs) → Within limit (these ++ rest)
      → run (s ∷ stages) limit (first_of these ++ rest) ≡ run (s ∷ stages) limit (these ++ rest)
  by_match-sorted (match_stage rules) stages is these pass limit rest h =
      let few = first_of these in
      let found = filter (matches rules) rest in
      let found_within : Within limit (these ++ found) =
      All-append (λ d. limit_fault limit d ≡ None) these found (All-front (λ d. limit_fault limit d ≡ None) these rest h)
      (All-filter (λ d. limit_fault limit d ≡ None) (matches rules) rest (All-back (λ d. limit_fault limit d ≡ None) these rest h)) in
      let few_pass = All-first (λ d. matches rules d ≡ true) these pass in
      let first = passes (match_stage rules) stages limit (few ++ rest) (few ++ found)
      (ap (λ (xs : List Pairs). Ok xs) (filter-front (matches rules) few rest few_pass)) (within-first limit these found found_within) in
      let second =
      passes (match_stage rules) stages limit (these ++ rest) (these ++ found)
      (ap (λ (xs : List Pairs). Ok xs) (filter-front (matches rules) these rest pass)) found_within in
      first ∙ ap (λ (ss : List Stage). run ss limit (few ++ found)) is ∙ first-enough limit these found found_within
      ∙ sym (ap (λ (ss : List Stage). run ss limit (these ++ found)) is) ∙ sym second
  by_match-sorted other stages is these pass limit rest h =
      ap (λ (ss : List Stage). run ss limit (first_of these ++ rest)) is ∙ first-enough limit these rest h
      ∙ sym (ap (λ (ss : List Stage). run ss limit (these ++ rest)) is)

  pub first-runs : (stages : List Stage) → behind_match stages ≡ ordering → (these : List Pairs) → Pass (takes stages) these
      → (limit : ℕ) (rest : List Pairs) → Within limit (these ++ rest) → run stages limit (first_of these ++ rest) ≡ run stages limit (these ++ rest)
  first-runs [] is these pass limit rest h = absurd cc
  first-runs (s ∷ stages) is these pass limit rest h = by_match-sorted s stages is these pass limit rest h

  -- the first ones of what is enough are enough
  pub first_are_enough : (stages : List Stage) → behind_match stages ≡ ordering → (these seen : List Pairs) → IsEnough stages these seen
      → IsEnough stages (first_of these) seen
  first_are_enough stages is these seen h = record {
    are_taken = All-first (λ d. takes stages d ≡ true) these h.are_taken;
    no_more = omega (arith, length-take-within most (order fields these), length-sorted these, h.no_more);
    same = λ limit rest fault.
        let before = h.same limit rest fault in
        let within : Within limit (these ++ rest) = fault-within limit (these ++ rest) before.0 in (
          within-fault limit (first_of these ++ rest) (within-first limit these rest within),
          first-runs stages is these h.are_taken limit rest within
              ∙ before.1,
        );
  }
    where
      length-sorted : (xs : List Pairs) → length (order fields xs) ≡ length xs
      length-sorted xs = length_permutation xs (order fields xs) (sorted-permuted (compare_by fields) xs)
