-- A pipeline makes the same of the documents that it takes as of all of them, and leaves them
-- within the limits.
use Rattle.std.specs.Prelude.{◌≡◌, Bool, true, false, None, Some, Option, List, [], ◌∷◌}
use Rattle.std.specs.Prelude.{if◌then◌else◌, Result, Ok, Err}
use Rattle.std.specs.List.{filter}
use Rattle.std.proofs.Common.{refl, ap, subst}
use Rattle.bson.specs.Tree.{Pairs}
use Rattle.filter.specs.Matches.{matches}
use Rattle.outcome.specs.Outcome.{◌>>=◌}
use Rattle.path.specs.declared.refusal.Refusal.{Refusal}
use Rattle.aggregate_model.specs.Stage.{Stage, match_stage}
use Rattle.aggregate_model.specs.Stages.{apply_stage}
use Rattle.aggregate_model.specs.Limits.{first_fault, if_faultless, within_limits}
use Rattle.aggregate_model.specs.Pipeline.{run}
use Rattle.aggregate_model.specs.Taking.{takes_by, OnlyTaken, StaysWithin}

pub twice : {X : Type 0} (p : X → Bool) (xs : List X) → filter p (filter p xs) ≡ filter p xs
twice p [] = refl
twice {X} p (x ∷ xs) = at (p x) refl (twice p xs)
  where
    at : (b : Bool) → p x ≡ b → filter p (filter p xs) ≡ filter p xs
        → filter p (if b then x ∷ filter p xs else filter p xs)
        ≡ (if b then x ∷ filter p xs else filter p xs)
    at true e later = rw e (ap (λ (ys : List X). x ∷ ys) later)
    at false e later = later

pub all_pass : {X : Type 0} (xs : List X) → filter (λ _. true) xs ≡ xs
all_pass [] = refl
all_pass {X} (x ∷ xs) = ap (λ (ys : List X). x ∷ ys) (all_pass xs)

same_stage : (s : Stage) (ds : List Pairs)
    → apply_stage s (filter (takes_by s) ds) ≡ apply_stage s ds
same_stage (match_stage rules) ds = ap (λ (xs : List Pairs). Ok xs) (twice (matches rules) ds)
same_stage other ds = ap (apply_stage other) (all_pass ds)

pub only_taken : OnlyTaken
only_taken [] limit ds = ap (λ (xs : List Pairs). Ok xs) (all_pass ds)
only_taken (s ∷ stages) limit ds =
    ap (λ (r : Result (List Pairs) Refusal). (r >>= within_limits limit) >>= run stages limit)
    (same_stage s ds)

pub stays_within : StaysWithin
stays_within [] limit ds es h e = let same : ds ≡ es = cc in
    subst (λ (xs : List Pairs). first_fault limit xs ≡ None) same h
stays_within (s ∷ stages) limit ds es h e =
    at (apply_stage s ds) (λ xs is f. stays_within stages limit xs es is f) e
  where
    judged : (xs : List Pairs) (o : Option Refusal) → first_fault limit xs ≡ o
        → (first_fault limit xs ≡ None → run stages limit xs ≡ Ok es → first_fault limit es ≡ None)
        → (if_faultless o xs >>= run stages limit) ≡ Ok es → first_fault limit es ≡ None
    judged xs None is later f = later is f
    judged xs (Some refusal) is later f = absurd cc

    at : (r : Result (List Pairs) Refusal)
        → ((xs : List Pairs) → first_fault limit xs ≡ None → run stages limit xs ≡ Ok es
        → first_fault limit es ≡ None) → ((r >>= within_limits limit) >>= run stages limit) ≡ Ok es
        → first_fault limit es ≡ None
    at (Ok xs) later f = judged xs (first_fault limit xs) refl (later xs) f
    at (Err refusal) later f = absurd cc
