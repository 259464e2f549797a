-- How documents that are enough are found one after the other.
use Rattle.std.specs.Prelude.{◌≡◌, ℕ, Bool, true, false, None, Some, Option, List, [], ◌∷◌, ◌++◌}
use Rattle.std.specs.Prelude.{length, take, cond, if◌then◌else◌}
use Rattle.std.specs.List.{filter, AllByRecursion}
use Rattle.std.proofs.Common.{refl, sym, ap, ◌∙◌, subst, arith, length-append}
use Rattle.std.proofs.lemmas.List.{append_assoc, append-nil}
use Rattle.std.proofs.lemmas.List.Elements.{filter-append}
use Rattle.bson.specs.Tree.{Pairs}
use Rattle.path.specs.declared.refusal.Refusal.{Refusal}
use Rattle.aggregate_model.specs.Stage.{Stage}
use Rattle.aggregate_model.specs.Limits.{limit_fault, else_fault, first_fault}
use Rattle.aggregate_model.specs.Pipeline.{run}
use Rattle.aggregate_model.specs.Taking.{takes, SufficesTaken, IsEnough}
use Rattle.aggregate_model.specs.TakingLaws.{only_taken}

-- ---- what holds of each

module _ {X : Type 0} (P : X → Type 0) where
  pub All-filter : (p : X → Bool) (xs : List X) → AllByRecursion P xs
      → AllByRecursion P (filter p xs)
  All-filter p [] h = tt
  All-filter p (x ∷ xs) h = by (p x) (All-filter p xs h.1)
    where
      by : (b : Bool) → AllByRecursion P (filter p xs)
          → AllByRecursion P (if b then x ∷ filter p xs else filter p xs)
      by true later = (h.0, later)
      by false later = later

  pub All-append : (xs ys : List X) → AllByRecursion P xs → AllByRecursion P ys
      → AllByRecursion P (xs ++ ys)
  All-append [] ys h t = t
  All-append (x ∷ xs) ys h t = (h.0, All-append xs ys h.1 t)

  pub All-front : (xs ys : List X) → AllByRecursion P (xs ++ ys) → AllByRecursion P xs
  All-front [] ys h = tt
  All-front (x ∷ xs) ys h = (h.0, All-front xs ys h.1)

  pub All-back : (xs ys : List X) → AllByRecursion P (xs ++ ys) → AllByRecursion P ys
  All-back [] ys h = h
  All-back (x ∷ xs) ys h = All-back xs ys h.1

module _ {X : Type 0} (p : X → Bool) where
  abbrev pub Pass : List X → Type 0
  Pass xs = AllByRecursion (λ x. p x ≡ true) xs

  pub filter-passes : (xs : List X) → Pass (filter p xs)
  filter-passes [] = tt
  filter-passes (x ∷ xs) = by (p x) refl (filter-passes xs)
    where
      by : (b : Bool) → p x ≡ b → Pass (filter p xs)
          → Pass (if b then x ∷ filter p xs else filter p xs)
      by true e later = (e, later)
      by false e later = later

  pub passed-filter : (xs : List X) → Pass xs → filter p xs ≡ xs
  passed-filter [] h = refl
  passed-filter (x ∷ xs) h = ap (λ (b : Bool). cond b (x ∷ filter p xs) (filter p xs)) h.0
      ∙ ap (λ (ys : List X). x ∷ ys) (passed-filter xs h.1)

-- ---- documents within the limits

abbrev pub Within : ℕ → List Pairs → Type 0
Within limit ds = AllByRecursion (λ d. limit_fault limit d ≡ None) ds

pub fault-within : (limit : ℕ) (ds : List Pairs) → first_fault limit ds ≡ None → Within limit ds
fault-within limit [] e = tt
fault-within limit (d ∷ ds) e = by (limit_fault limit d) refl e (fault-within limit ds)
  where
    by : (o : Option Refusal) → limit_fault limit d ≡ o
        → else_fault o (first_fault limit ds) ≡ None
        → (first_fault limit ds ≡ None → Within limit ds) → Within limit (d ∷ ds)
    by None is f later = (is, later f)
    by (Some r) is f later = absurd cc

pub within-fault : (limit : ℕ) (ds : List Pairs) → Within limit ds → first_fault limit ds ≡ None
within-fault limit [] h = refl
within-fault limit (d ∷ ds) h =
    ap (λ (o : Option Refusal). else_fault o (first_fault limit ds)) h.0 ∙ within-fault limit ds h.1

-- ---- what is enough

pub none_is_enough : (stages : List Stage) → IsEnough stages [] []
none_is_enough stages = record
    { are_taken = tt; no_more = omega arith; same = λ limit rest fault. (fault, refl) }

-- one more that is taken, behind both
pub one_more_is_enough : (stages : List Stage) (few seen : List Pairs) (d : Pairs)
    → takes stages d ≡ true → IsEnough stages few seen
    → IsEnough stages (few ++ d ∷ []) (seen ++ d ∷ [])
one_more_is_enough stages few seen d taken h = record {
  are_taken = All-append (λ d. takes stages d ≡ true) few (d ∷ []) h.are_taken (taken, tt);
  no_more = omega (arith, length-append few (d ∷ []), length-append seen (d ∷ []), h.no_more);
  same = λ limit rest fault.
      let further =
      h.same limit (d ∷ rest)
      (subst (λ (ds : List Pairs). first_fault limit ds ≡ None)
      (append_assoc seen (d ∷ []) rest) fault) in (
        subst (λ (ds : List Pairs). first_fault limit ds ≡ None)
            (sym (append_assoc few (d ∷ []) rest)) further.0,
        ap (run stages limit) (append_assoc few (d ∷ []) rest) ∙ further.1
            ∙ sym (ap (run stages limit) (append_assoc seen (d ∷ []) rest)),
      );
}

module _ (stages : List Stage) (limit : ℕ) where
  taken-within : (ds : List Pairs) → first_fault limit ds ≡ None
      → first_fault limit (filter (takes stages) ds) ≡ None
  taken-within ds e =
      within-fault limit (filter (takes stages) ds)
      (All-filter (λ d. limit_fault limit d ≡ None) (takes stages) ds (fault-within limit ds e))

  -- what is enough of all gives what all give
  pub enough_of_all : (few ds : List Pairs) → IsEnough stages few (filter (takes stages) ds)
      → first_fault limit ds ≡ None → run stages limit few ≡ run stages limit ds
  enough_of_all few ds h e =
      let taken = filter (takes stages) ds in
      let fault = subst (λ (xs : List Pairs). first_fault limit xs ≡ None) (sym (append-nil taken))
      (taken-within ds e) in
      ap (run stages limit) (sym (append-nil few)) ∙ (h.same limit [] fault).1
      ∙ ap (run stages limit) (append-nil taken) ∙ only_taken stages limit ds

  -- so does what is enough of the first ones, where the pipeline needs no more
  pub enough_by_then : (few ds rest : List Pairs) → IsEnough stages few (filter (takes stages) ds)
      → SufficesTaken stages (length few) → first_fault limit (ds ++ rest) ≡ None
      → run stages limit few ≡ run stages limit (ds ++ rest)
  enough_by_then few ds rest h most e =
      let p = takes stages in
      let later = filter p rest in
      let split : filter p (ds ++ rest) ≡ filter p ds ++ later = filter-append p ds rest in
      let fault = subst (λ (xs : List Pairs). first_fault limit xs ≡ None) split
      (taken-within (ds ++ rest) e) in
      let same = h.same limit later fault in
      let passed : filter p (few ++ later) ≡ few ++ later =
      passed-filter p (few ++ later)
      (All-append (λ d. p d ≡ true) few later h.are_taken (filter-passes p rest)) in
      let front : take (length few) (filter p (few ++ later)) ≡ few =
      ap (take (length few)) passed ∙ take-all-front few later in
      ap (run stages limit) (sym front) ∙ most limit (few ++ later) same.0 ∙ same.1
      ∙ ap (run stages limit) (sym split) ∙ only_taken stages limit (ds ++ rest)
    where
      take-all-front : (xs ys : List Pairs) → take (length xs) (xs ++ ys) ≡ xs
      take-all-front [] ys = refl
      take-all-front (x ∷ xs) ys = ap (λ (zs : List Pairs). x ∷ zs) (take-all-front xs ys)
