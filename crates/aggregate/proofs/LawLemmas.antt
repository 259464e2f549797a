-- Laws of stages and of groups.
use Rattle.std.proofs.Common.{◌≡◌, ℕ, ◌+◌, Bool, true, false, List, [], ◌∷◌, ◌++◌, length, map, fold, Result, Ok, Err, refl, sym, ap, ◌∙◌, arith}
use Rattle.std.specs.Prelude.{◌&&◌, if◌then◌else◌}
use Rattle.std.specs.List.{sum_by}
use Rattle.std.proofs.lemmas.List.Sums.{sum_by-cons}
use Rattle.bson.specs.Tree.{Tree, Pairs}
use Rattle.outcome.specs.Outcome.{◌>>=◌}
use Rattle.path.specs.declared.refusal.Refusal.{Refusal}
use Rattle.filter.specs.Condition.{Conditions, no_conditions, condition, append_conditions}
use Rattle.filter.specs.Matches.{Subject, whole, holds, all_hold, matches}
use Rattle.aggregate_model.specs.Group.{Identified, same, first_of_each, members}
use Rattle.aggregate_model.specs.Laws.{MatchesBoth, GroupsAll, RunsOneAfterOther}
use Rattle.aggregate_model.specs.Pipeline.{after_stage, run}
use Rattle.aggregate.specs.Table.{put}
use Rattle.aggregate.proofs.GroupLemmas.{same_laws}
use Rattle.aggregate.proofs.SplitLemmas.{filter-both, add_all, split}

and_assoc : (a b c : Bool) → (a && (b && c)) ≡ ((a && b) && c)
and_assoc true b c = refl
and_assoc false b c = refl

and_swap : (a b : Bool) → (a && b) ≡ (b && a)
and_swap true true = refl
and_swap true false = refl
and_swap false true = refl
and_swap false false = refl

all_append : (rs qs : Conditions) (s : Subject) → all_hold (append_conditions rs qs) s ≡ (all_hold rs s && all_hold qs s)
all_append no_conditions qs s = refl
all_append (condition r rs) qs s = ap (λ (b : Bool). holds r s && b) (all_append rs qs s) ∙ and_assoc (holds r s) (all_hold rs s) (all_hold qs s)

pub matches_both : MatchesBoth
matches_both first second documents =
    ap (λ (ds : List Pairs). let r : Result (List Pairs) Refusal = Ok ds in r)
    (sym (filter-both (matches (append_conditions first second)) (matches second) (matches first)
    (λ ps. all_append first second (whole ps) ∙ and_swap (matches first ps) (matches second ps)) documents))

-- ---- numbers of documents

abbrev count : ℕ → Pairs → ℕ
count n ps = n + 1

counted : (n : ℕ) (ds : List Pairs) → fold count n ds ≡ n + length ds
counted n [] = omega arith
counted n (d ∷ ds) = omega (arith, counted (n + 1) ds)

abbrev number : Tree × ℕ → ℕ
number e = e.1

abbrev size : Tree × List Pairs → ℕ
size g = length g.1

total-put : (x : Identified) (es : List (Tree × ℕ)) → sum_by number (put same count 0 x es) ≡ sum_by number es + 1
total-put x [] = omega (arith, sum_by-cons number (x.0, 0 + 1) [])
total-put x (e ∷ es) = by (same e.0 x.0) (total-put x es)
  where
    by : (b : Bool) → sum_by number (put same count 0 x es) ≡ sum_by number es + 1
        → sum_by number (if b then (e.0, e.1 + 1) ∷ es else e ∷ put same count 0 x es) ≡ sum_by number (e ∷ es) + 1
    by true later = omega (arith, sum_by-cons number (e.0, e.1 + 1) es, sum_by-cons number e es)
    by false later = omega (arith, later, sum_by-cons number e (put same count 0 x es), sum_by-cons number e es)

total-all : (xs : List Identified) (es : List (Tree × ℕ)) → sum_by number (add_all same same_laws count 0 xs es) ≡ sum_by number es + length xs
total-all [] es = omega arith
total-all (x ∷ xs) es = omega (arith, total-all xs (put same count 0 x es), total-put x es)

lengths : (of : Tree → List Pairs) (ids : List Tree) → sum_by size (map (λ id. (id, of id)) ids) ≡ sum_by number (map (λ id. (id, fold count 0 (of id))) ids)
lengths of [] = refl
lengths of (id ∷ ids) =
    omega (
      arith,
      counted 0 (of id),
      lengths of ids,
      sum_by-cons size (id, of id) (map (λ id. (id, of id)) ids),
      sum_by-cons number (id, fold count 0 (of id)) (map (λ id. (id, fold count 0 (of id))) ids),
    )

pub groups_all : GroupsAll
groups_all documents =
    let none : sum_by number [] + length documents ≡ length documents = omega arith in
    lengths (members documents) (first_of_each (map (λ p. p.0) documents))
    ∙ sym (ap (sum_by number) (split same same_laws count 0 documents))
    ∙ total-all documents []
    ∙ none

-- ---- pipelines

pub runs_one_after_other : RunsOneAfterOther
runs_one_after_other [] second limit documents = refl
runs_one_after_other (s ∷ first) second limit documents = by (after_stage s limit documents) (runs_one_after_other first second limit)
  where
    by : (r : Result (List Pairs) Refusal) → ((ds : List Pairs) → run (first ++ second) limit ds ≡ (run first limit ds >>= run second limit))
        → (r >>= run (first ++ second) limit) ≡ ((r >>= run first limit) >>= run second limit)
    by (Ok ds) later = later ds
    by (Err e) later = refl
