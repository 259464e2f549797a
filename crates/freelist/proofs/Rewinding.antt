-- Changes of a turn taken back, and what else may happen to the pages meanwhile.
use Rattle.std.proofs.Common.{◌≡◌, ◌<◌, ℕ, zero, suc, true, false, List, [], ◌∷◌, ◌++◌, length, sym, ap, subst, ◌∙◌, arith, refl, set}
use Rattle.std.specs.Prelude.{◌≢◌, ◌==◌, get_or}
use Rattle.std.proofs.lemmas.Bool.Decides.{nat_tests}
use Rattle.std.proofs.lemmas.List.{set-set, set_comm, set-get_or, get_or-set_other, get_or_default}
use Rattle.freelist.specs.Book.{is_free_state, is_used_state, undo, rewind, retired_in, CanUndo, CanRewind}
use Rattle.freelist.specs.Sound.{one_of, times}
use Rattle.freelist.specs.declared.states.PageState.{PageState}
use Rattle.freelist.specs.declared.states.PageState.TheVariants as states
use Rattle.freelist.specs.declared.turns.Retirement.{Retirement}
use Rattle.freelist.specs.declared.turns.Change.{Change}
use Rattle.freelist.specs.declared.turns.Change.TheVariants as changes

pub free_is : (s : PageState) → is_free_state s ≡ true → s ≡ states.Free
free_is states.Free h = refl
free_is states.InUse h = absurd cc
free_is states.Retired h = absurd cc

pub used_is : (s : PageState) → is_used_state s ≡ true → s ≡ states.InUse
used_is states.Free h = absurd cc
used_is states.InUse h = refl
used_is states.Retired h = absurd cc

-- a page of this state, which isn't the one past the end, is below the limit
pub below : (pages : List PageState) (p : ℕ) (s : PageState) → get_or pages p states.Retired ≡ s → s ≢ states.Retired → p < length pages
below [] p s is other = absurd (other (sym is))
below (x ∷ pages) zero s is other = omega arith
below (x ∷ pages) (suc p) s is other =
    let later : p < length pages = below pages p s is other in omega (arith, later)

pub one_same : (page : ℕ) (r : Retirement) → page ≡ r.page → one_of page r ≡ 1
one_same page r same =
    let so : (r.page == page) ≡ true = grind (arith, nat_tests) in
    rw so refl

pub one_other : (page : ℕ) (r : Retirement) → page ≢ r.page → one_of page r ≡ 0
one_other page r other =
    let not_so : (r.page == page) ≡ false = grind (arith, nat_tests) in
    rw not_so refl

pub rewind-append : (xs ys : List Change) (pages : List PageState) → rewind (xs ++ ys) pages ≡ rewind xs (rewind ys pages)
rewind-append [] ys pages = refl
rewind-append (x ∷ xs) ys pages = ap (undo x) (rewind-append xs ys pages)

-- a page was of this state, became another, and is of this state again
pub put_back : (pages : List PageState) (p : ℕ) (was now : PageState) → get_or pages p states.Retired ≡ was → set (set pages p now) p was ≡ pages
put_back pages p was now is = set-set pages p now was ∙ ap (set pages p) (sym is) ∙ set-get_or pages p states.Retired

pub CanRewind-push : (turn : List Change) (x : Change) (pages : List PageState) → CanUndo x pages → CanRewind turn (undo x pages)
    → CanRewind (turn ++ x ∷ []) pages
CanRewind-push [] x pages one h = (one, tt)
CanRewind-push (y ∷ turn) x pages one h = (subst (CanUndo y) (sym (rewind-append turn (x ∷ []) pages)) h.0, CanRewind-push turn x pages one h.1)

pub CanRewind-pop : (turn : List Change) (x : Change) (pages : List PageState) → CanRewind (turn ++ x ∷ []) pages
    → CanUndo x pages × CanRewind turn (undo x pages)
CanRewind-pop [] x pages h = (h.0, tt)
CanRewind-pop (y ∷ turn) x pages h =
    let later = CanRewind-pop turn x pages h.1 in
    (later.0, (subst (CanUndo y) (rewind-append turn (x ∷ []) pages) h.0, later.1))

-- A page that waits is none of the turn's: the turn can be undone as well once it is free.
pub record Untouched (turn : List Change) (pages : List PageState) (q : ℕ) : Type 0 where
  pub waits : get_or (rewind turn pages) q states.Free ≡ states.Retired
  pub same : rewind turn (set pages q states.Free) ≡ set (rewind turn pages) q states.Free
  pub can : CanRewind turn (set pages q states.Free)

pub untouched : (turn : List Change) (pages : List PageState) (q : ℕ) → get_or pages q states.Free ≡ states.Retired → times q (retired_in turn) ≡ 0
    → CanRewind turn pages → Untouched turn pages q
untouched [] pages q is none can = record { waits = is; same = refl; can = tt }
untouched (changes.Taken p ∷ turn) pages q is none can = next (untouched turn pages q is none can.1)
  where
    next : Untouched turn pages q → Untouched (changes.Taken p ∷ turn) pages q
    next later = record {
      waits = get_or-set_other (rewind turn pages) p q states.Free states.Free (λ e. other (sym e)) ∙ later.waits;
      same = ap (λ (xs : List PageState). set xs p states.Free) later.same ∙ set_comm (rewind turn pages) q p states.Free states.Free (λ e. other (sym e));
      can = (
        ap (λ (xs : List PageState). get_or xs p states.Retired) later.same ∙ get_or-set_other (rewind turn pages) q p states.Free states.Retired other
            ∙ can.0,
        later.can,
      );
    }
      where
        other : p ≢ q
        other e =
            let within : p < length (rewind turn pages) = below (rewind turn pages) p states.InUse can.0 (λ d. cc) in
            let one : get_or (rewind turn pages) p states.Free ≡ states.Retired = ap (λ (k : ℕ). get_or (rewind turn pages) k states.Free) e ∙ later.waits in
            let two : get_or (rewind turn pages) p states.Free ≡ states.InUse =
            get_or_default (rewind turn pages) p states.Free states.Retired within ∙ can.0 in
            cc
untouched (changes.Retired p v ∷ turn) pages q is none can = next (untouched turn pages q is (omega (arith, none)) can.1)
  where
    other : p ≢ q
    other e = absurd (omega (arith, none, one_same q (record { page = p; version = v }) (sym e)))

    next : Untouched turn pages q → Untouched (changes.Retired p v ∷ turn) pages q
    next later = record {
      waits = get_or-set_other (rewind turn pages) p q states.InUse states.Free (λ e. other (sym e)) ∙ later.waits;
      same = ap (λ (xs : List PageState). set xs p states.InUse) later.same ∙ set_comm (rewind turn pages) q p states.Free states.InUse (λ e. other (sym e));
      can = (
        ap (λ (xs : List PageState). get_or xs p states.Free) later.same ∙ get_or-set_other (rewind turn pages) q p states.Free states.Free other
            ∙ can.0,
        later.can,
      );
    }
