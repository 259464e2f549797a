-- A delete takes the same documents of those that its statements may mean as of all of them.
use Rattle.std.proofs.Common.{◌≡◌, ℕ, suc, ◌+◌, ◌-◌, Bool, true, false, List, [], ◌∷◌, ◌++◌, length, take, Option, Some, None, refl, sym, ap, subst, ◌∙◌, arith}
use Rattle.std.proofs.Common.{length-append}
use Rattle.std.specs.Prelude.{not, ◌||◌, if◌then◌else◌, nat_lt}
use Rattle.std.specs.List.{filter, position, position_or_len}
use Rattle.std.proofs.lemmas.Bool.Decides.{nat_tests}
use Rattle.bson.specs.Tree.{Pairs}
use Rattle.filter.specs.Matches.{matches}
use Rattle.command_model.specs.Delete.{Deletion}
use Rattle.database_model.specs.Delete.{without_at, after_deletion, after_deletions}
use Rattle.database_model.specs.Merging.{is_deleted}
use Rattle.statements.specs.Redoing.{taken_at, taken, all_taken}
use Rattle.statements.proofs.MergingLemmas.{Marked, meant, other, all_of, meant_of, others_of, NoneIs, Each-map, mark, mark_all, mark_meant, mark_others}

pub or_first : (a b : Bool) → (a || b) ≡ false → a ≡ false
or_first true b e = e
or_first false b e = refl

pub or_second : (a b : Bool) → (a || b) ≡ false → b ≡ false
or_second true b e = absurd cc
or_second false b e = e

-- ---- the first document that passes

abbrev first_of : (Pairs → Bool) → List Pairs → List Pairs
first_of p [] = []
first_of p (d ∷ ds) = if p d then d ∷ [] else first_of p ds

abbrev rest_of : (Pairs → Bool) → List Pairs → List Pairs
rest_of p [] = []
rest_of p (d ∷ ds) = if p d then ds else d ∷ rest_of p ds

abbrev past : Option ℕ → Option ℕ
past None = None
past (Some n) = Some (suc n)

one_less : (m n : ℕ) (b : Bool) → nat_lt m n ≡ b → nat_lt (1 + m) (suc n) ≡ b
one_less m n true e = grind (arith, nat_tests, e)
one_less m n false e = grind (arith, nat_tests, e)

abbrev place_of : ℕ → ℕ → Option ℕ
place_of n whole = if nat_lt n whole then Some n else None

place_past : (n whole : ℕ) → place_of (1 + n) (suc whole) ≡ past (place_of n whole)
place_past n whole = at (nat_lt n whole) refl
  where
    at : (b : Bool) → nat_lt n whole ≡ b → place_of (1 + n) (suc whole) ≡ past (if b then Some n else None)
    at true e = let next : 1 + n ≡ suc n = omega arith in
        ap (λ (c : Bool). if c then Some (1 + n) else None) (one_less n whole true e) ∙ ap (λ (k : ℕ). Some k) next
    at false e = ap (λ (c : Bool). if c then Some (1 + n) else None) (one_less n whole false e)

position_here : (p : Pairs → Bool) (d : Pairs) (ds : List Pairs) → p d ≡ true → position p (d ∷ ds) ≡ Some 0
position_here p d ds e =
    let some : nat_lt 0 (length (d ∷ ds)) ≡ true = grind (arith, nat_tests) in
    ap (λ (b : Bool). place_of (if not b then 1 + position_or_len p ds else 0) (length (d ∷ ds))) e ∙ ap (λ (b : Bool). if b then Some 0 else None) some

position_past : (p : Pairs → Bool) (d : Pairs) (ds : List Pairs) → p d ≡ false → position p (d ∷ ds) ≡ past (position p ds)
position_past p d ds e =
    let whole : length (d ∷ ds) ≡ suc (length ds) = omega arith in
    ap (λ (b : Bool). place_of (if not b then 1 + position_or_len p ds else 0) (length (d ∷ ds))) e
    ∙ ap (λ (k : ℕ). place_of (1 + position_or_len p ds) k) whole ∙ place_past (position_or_len p ds) (length ds)

without_past : (o : Option ℕ) (d : Pairs) (ds : List Pairs) → without_at (past o) (d ∷ ds) ≡ d ∷ without_at o ds
without_past None d ds = refl
without_past (Some n) d ds = refl

taken_past : (o : Option ℕ) (d : Pairs) (ds : List Pairs) → taken_at (past o) (d ∷ ds) ≡ taken_at o ds
taken_past None d ds = refl
taken_past (Some n) d ds = refl

rest_is : (p : Pairs → Bool) (ds : List Pairs) → without_at (position p ds) ds ≡ rest_of p ds
rest_is p [] = refl
rest_is p (d ∷ ds) = at (p d) refl (rest_is p ds)
  where
    at : (b : Bool) → p d ≡ b → without_at (position p ds) ds ≡ rest_of p ds → without_at (position p (d ∷ ds)) (d ∷ ds) ≡ (if b then ds else d ∷ rest_of p ds)
    at true e later = ap (λ (o : Option ℕ). without_at o (d ∷ ds)) (position_here p d ds e)
    at false e later =
        ap (λ (o : Option ℕ). without_at o (d ∷ ds)) (position_past p d ds e) ∙ without_past (position p ds) d ds ∙ ap (λ (xs : List Pairs). d ∷ xs) later

first_is : (p : Pairs → Bool) (ds : List Pairs) → taken_at (position p ds) ds ≡ first_of p ds
first_is p [] = refl
first_is p (d ∷ ds) = at (p d) refl (first_is p ds)
  where
    at : (b : Bool) → p d ≡ b → taken_at (position p ds) ds ≡ first_of p ds → taken_at (position p (d ∷ ds)) (d ∷ ds) ≡ (if b then d ∷ [] else first_of p ds)
    at true e later = ap (λ (o : Option ℕ). taken_at o (d ∷ ds)) (position_here p d ds e)
    at false e later = ap (λ (o : Option ℕ). taken_at o (d ∷ ds)) (position_past p d ds e) ∙ taken_past (position p ds) d ds ∙ later

-- ---- what a statement takes and leaves

-- what is left of all and of those that are meant, and what is taken of each
record HasLeft (ms : List Marked) (all among took took_meant : List Pairs) : Type 0 where
  pub next : List Marked
  pub all_is : all_of next ≡ all
  pub among_is : meant_of next ≡ among
  pub took_is : took_meant ≡ took
  pub rest : others_of next ≡ others_of ms

abbrev cons : Pairs → List Pairs → List Pairs
cons d ds = d ∷ ds

left_first : (p : Pairs → Bool) (ms : List Marked) → NoneIs p (others_of ms)
    → HasLeft ms (rest_of p (all_of ms)) (rest_of p (meant_of ms)) (first_of p (all_of ms)) (first_of p (meant_of ms))
left_first p [] none = record { next = []; all_is = refl; among_is = refl; took_is = refl; rest = refl }
left_first p (meant d ∷ ms) none = at (p d) (left_first p ms none)
  where
    at : (b : Bool) → HasLeft ms (rest_of p (all_of ms)) (rest_of p (meant_of ms)) (first_of p (all_of ms)) (first_of p (meant_of ms))
        → HasLeft (meant d ∷ ms) (if b then all_of ms else d ∷ rest_of p (all_of ms)) (if b then meant_of ms else d ∷ rest_of p (meant_of ms))
        (if b then d ∷ [] else first_of p (all_of ms)) (if b then d ∷ [] else first_of p (meant_of ms))
    at true l = record { next = ms; all_is = refl; among_is = refl; took_is = refl; rest = refl }
    at false l = record { next = meant d ∷ l.next; all_is = ap (cons d) l.all_is; among_is = ap (cons d) l.among_is; took_is = l.took_is; rest = l.rest }
left_first p (other d ∷ ms) none =
    let l = left_first p ms none.1 in
    record {
      next = other d ∷ l.next;
      all_is = ap (cons d) l.all_is ∙ sym (ap (λ (b : Bool). if b then all_of ms else d ∷ rest_of p (all_of ms)) none.0);
      among_is = l.among_is;
      took_is = l.took_is ∙ sym (ap (λ (b : Bool). if b then d ∷ [] else first_of p (all_of ms)) none.0);
      rest = ap (cons d) l.rest;
    }

abbrev unless_passes : (Pairs → Bool) → Pairs → Bool
unless_passes p d = not (p d)

left_each : (p : Pairs → Bool) (ms : List Marked) → NoneIs p (others_of ms)
    → HasLeft ms (filter (unless_passes p) (all_of ms)) (filter (unless_passes p) (meant_of ms)) (filter p (all_of ms)) (filter p (meant_of ms))
left_each p [] none = record { next = []; all_is = refl; among_is = refl; took_is = refl; rest = refl }
left_each p (meant d ∷ ms) none = at (p d) (left_each p ms none)
  where
    at : (b : Bool) → HasLeft ms (filter (unless_passes p) (all_of ms)) (filter (unless_passes p) (meant_of ms)) (filter p (all_of ms)) (filter p (meant_of ms))
        → HasLeft (meant d ∷ ms) (if not b then d ∷ filter (unless_passes p) (all_of ms) else filter (unless_passes p) (all_of ms))
        (if not b then d ∷ filter (unless_passes p) (meant_of ms) else filter (unless_passes p) (meant_of ms))
        (if b then d ∷ filter p (all_of ms) else filter p (all_of ms)) (if b then d ∷ filter p (meant_of ms) else filter p (meant_of ms))
    at true l = record { next = l.next; all_is = l.all_is; among_is = l.among_is; took_is = ap (cons d) l.took_is; rest = l.rest }
    at false l = record { next = meant d ∷ l.next; all_is = ap (cons d) l.all_is; among_is = ap (cons d) l.among_is; took_is = l.took_is; rest = l.rest }
left_each p (other d ∷ ms) none =
    let l = left_each p ms none.1 in
    record {
      next = other d ∷ l.next;
      all_is = ap (cons d) l.all_is
          ∙ sym (ap (λ (b : Bool). if not b then d ∷ filter (unless_passes p) (all_of ms) else filter (unless_passes p) (all_of ms)) none.0);
      among_is = l.among_is;
      took_is = l.took_is ∙ sym (ap (λ (b : Bool). if b then d ∷ filter p (all_of ms) else filter p (all_of ms)) none.0);
      rest = ap (cons d) l.rest;
    }

by_meant : (d : Deletion) (ms : List Marked) → NoneIs (matches d.filter) (others_of ms)
    → HasLeft ms (after_deletion d (all_of ms)) (after_deletion d (meant_of ms)) (taken d (all_of ms)) (taken d (meant_of ms))
by_meant d ms none = at d.only_first
  where
    p : Pairs → Bool
    p = matches d.filter

    at : (b : Bool)
        → HasLeft ms (if b then without_at (position (matches d.filter) (all_of ms)) (all_of ms) else filter (λ x. not (matches d.filter x)) (all_of ms))
        (if b then without_at (position (matches d.filter) (meant_of ms)) (meant_of ms) else filter (λ x. not (matches d.filter x)) (meant_of ms))
        (if b then taken_at (position (matches d.filter) (all_of ms)) (all_of ms) else filter (matches d.filter) (all_of ms))
        (if b then taken_at (position (matches d.filter) (meant_of ms)) (meant_of ms) else filter (matches d.filter) (meant_of ms))
    at true =
        let l = left_first (matches d.filter) ms none in
        record {
          next = l.next;
          all_is = l.all_is ∙ sym (rest_is (matches d.filter) (all_of ms));
          among_is = l.among_is ∙ sym (rest_is (matches d.filter) (meant_of ms));
          took_is = first_is (matches d.filter) (meant_of ms) ∙ l.took_is ∙ sym (first_is (matches d.filter) (all_of ms));
          rest = l.rest;
        }
    at false = left_each (matches d.filter) ms none

all_alike : (deletions : List Deletion) (ms : List Marked) → NoneIs (is_deleted deletions) (others_of ms)
    → all_taken deletions (meant_of ms) ≡ all_taken deletions (all_of ms)
all_alike [] ms none = refl
all_alike (d ∷ rest) ms none =
    let first = Each-map (λ x. is_deleted (d ∷ rest) x ≡ false) (λ x. matches d.filter x ≡ false) (others_of ms)
    (λ x e. or_first (matches d.filter x) (is_deleted rest x) e) none in
    let second =
    Each-map (λ x. is_deleted (d ∷ rest) x ≡ false) (λ x. is_deleted rest x ≡ false) (others_of ms)
    (λ x e. or_second (matches d.filter x) (is_deleted rest x) e) none in
    let one = by_meant d ms first in
    let later = all_alike rest one.next (subst (NoneIs (is_deleted rest)) (sym one.rest) second) in
    let tail = ap (all_taken rest) (sym one.among_is) ∙ later ∙ ap (all_taken rest) one.all_is in
    λ i. one.took_is i ++ tail i

-- Of the documents that a statement matches as many are taken as of all, and these.
pub taken_alike : (deletions : List Deletion) (ds : List Pairs) → all_taken deletions (filter (is_deleted deletions) ds) ≡ all_taken deletions ds
taken_alike deletions ds =
    let p = is_deleted deletions in
    ap (all_taken deletions) (sym (mark_meant p ds)) ∙ all_alike deletions (mark p ds) (mark_others p ds) ∙ ap (all_taken deletions) (mark_all p ds)

-- ---- the first of those that are meant

or_false : (b : Bool) → (b || false) ≡ b
or_false true = refl
or_false false = refl

-- what passes first is the first of those that pass
first_of_first : (p q : Pairs → Bool) → ((x : Pairs) → q x ≡ p x) → (ds : List Pairs) → first_of p (take 1 (filter q ds)) ≡ first_of p ds
first_of_first p q same [] = refl
first_of_first p q same (d ∷ ds) = at (p d) refl (first_of_first p q same ds)
  where
    at : (b : Bool) → p d ≡ b → first_of p (take 1 (filter q ds)) ≡ first_of p ds → first_of p (take 1 (filter q (d ∷ ds))) ≡ first_of p (d ∷ ds)
    at true e later =
        ap (λ (b : Bool). first_of p (take 1 (if b then d ∷ filter q ds else filter q ds))) (same d ∙ e)
        ∙ ap (λ (b : Bool). if b then d ∷ [] else []) e ∙ sym (ap (λ (b : Bool). if b then d ∷ [] else first_of p ds) e)
    at false e later =
        ap (λ (b : Bool). first_of p (take 1 (if b then d ∷ filter q ds else filter q ds))) (same d ∙ e) ∙ later
        ∙ sym (ap (λ (b : Bool). if b then d ∷ [] else first_of p ds) e)

-- A statement that takes one takes it of the first document that it matches.
pub first_alike : (d : Deletion) → d.only_first ≡ true → (ds : List Pairs)
    → all_taken (d ∷ []) (take 1 (filter (is_deleted (d ∷ [])) ds)) ≡ all_taken (d ∷ []) ds
first_alike d first ds =
    let p = matches d.filter in
    let q = is_deleted (d ∷ []) in
    let of : (es : List Pairs) → taken d es ≡ first_of p es =
    λ es. ap (λ (b : Bool). if b then taken_at (position p es) es else filter p es) first ∙ first_is p es in
    ap (λ (es : List Pairs). es ++ [])
    (of (take 1 (filter q ds)) ∙ first_of_first p q (λ x. or_false (matches d.filter x)) ds ∙ sym (of ds))

-- ---- how many are taken

first_count : (p : Pairs → Bool) (ds : List Pairs) → length (first_of p ds) + length (rest_of p ds) ≡ length ds
first_count p [] = omega arith
first_count p (d ∷ ds) = at (p d) (first_count p ds)
  where
    at : (b : Bool) → length (first_of p ds) + length (rest_of p ds) ≡ length ds
        → length (if b then d ∷ [] else first_of p ds) + length (if b then ds else d ∷ rest_of p ds) ≡ length (d ∷ ds)
    at true later = omega arith
    at false later = omega (arith, later)

each_count : (p : Pairs → Bool) (ds : List Pairs) → length (filter p ds) + length (filter (unless_passes p) ds) ≡ length ds
each_count p [] = omega arith
each_count p (d ∷ ds) = at (p d) (each_count p ds)
  where
    at : (b : Bool) → length (filter p ds) + length (filter (unless_passes p) ds) ≡ length ds
        → length (if b then d ∷ filter p ds else filter p ds)
        + length (if not b then d ∷ filter (unless_passes p) ds else filter (unless_passes p) ds) ≡ length (d ∷ ds)
    at true later = omega (arith, later)
    at false later = omega (arith, later)

one_count : (d : Deletion) (ds : List Pairs) → length (taken d ds) + length (after_deletion d ds) ≡ length ds
one_count d ds = at d.only_first
  where
    at : (b : Bool) → length (if b then taken_at (position (matches d.filter) ds) ds else filter (matches d.filter) ds)
        + length (if b then without_at (position (matches d.filter) ds) ds else filter (λ x. not (matches d.filter x)) ds) ≡ length ds
    at true = omega (arith, ap length (first_is (matches d.filter) ds), ap length (rest_is (matches d.filter) ds), first_count (matches d.filter) ds)
    at false = each_count (matches d.filter) ds

all_count : (deletions : List Deletion) (ds : List Pairs) → length (all_taken deletions ds) + length (after_deletions deletions ds) ≡ length ds
all_count [] ds = omega arith
all_count (d ∷ rest) ds =
    omega (arith, one_count d ds, all_count rest (after_deletion d ds), length-append (taken d ds) (all_taken rest (after_deletion d ds)))

-- as many are taken as are missing then
pub taken_count : (deletions : List Deletion) (ds : List Pairs) → length (all_taken deletions ds) ≡ length ds - length (after_deletions deletions ds)
taken_count deletions ds = omega (arith, all_count deletions ds)
