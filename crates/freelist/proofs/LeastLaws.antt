-- What the search for the least free page finds.
use Rattle.std.proofs.Common.{◌≡◌, ◌<◌, ◌+◌, ℕ, zero, suc, true, false, List, [], ◌∷◌, drop, sym, ap, ◌∙◌, arith, Some, None, refl, inl, inr}
use Rattle.std.specs.Prelude.{get_or, nat_lt}
use Rattle.std.proofs.lemmas.Bool.Decides.{nat_tests}
use Rattle.std.proofs.lemmas.Bool.{cases_Bool}
use Rattle.std.proofs.lemmas.Option.{same_Some}
use Rattle.std.proofs.lemmas.List.{get_or-drop}
use Rattle.freelist.specs.Book.{is_free, is_free_state, first_free, least_free}
use Rattle.freelist.specs.declared.states.PageState.{PageState}
use Rattle.freelist.specs.declared.states.PageState.TheVariants as states

record Found (n : ℕ) (pages : List PageState) (p : ℕ) : Type 0 where
  at : ℕ
  is : p ≡ n + at
  free : is_free_state (get_or pages at states.Retired) ≡ true
  before : (k : ℕ) → k < at → is_free_state (get_or pages k states.Retired) ≡ false

found : (n : ℕ) (pages : List PageState) (p : ℕ) → first_free n pages ≡ Some p → Found n pages p
found n [] p e = absurd cc
found n (s ∷ pages) p e = elim (cases_Bool (is_free_state s)) [
  | inl so ↦
      let first : n ≡ p = same_Some n p (rw so at e) in
      record { at = 0; is = omega (arith, first); free = so; before = λ k h. absurd (omega (arith, h)) }
  | inr not_so ↦ next not_so (found (n + 1) pages p (rw not_so at e))
]
  where
    next : is_free_state s ≡ false → Found (n + 1) pages p → Found n (s ∷ pages) p
    next not_so later = record { at = suc later.at; is = omega (arith, later.is); free = later.free; before = before }
      where
        before : (k : ℕ) → k < suc later.at → is_free_state (get_or (s ∷ pages) k states.Retired) ≡ false
        before zero h = not_so
        before (suc k) h = later.before k (omega (arith, h))

none_found : (n : ℕ) (pages : List PageState) → first_free n pages ≡ None → (k : ℕ) → is_free_state (get_or pages k states.Retired) ≡ false
none_found n [] e k = refl
none_found n (s ∷ pages) e k = elim (cases_Bool (is_free_state s)) [
  | inl so ↦ absurd (let never : Some n ≡ None = rw so at e in cc)
  | inr not_so ↦ later not_so (none_found (n + 1) pages (rw not_so at e)) k
]
  where
    later : is_free_state s ≡ false → ((j : ℕ) → is_free_state (get_or pages j states.Retired) ≡ false) → (j : ℕ)
        → is_free_state (get_or (s ∷ pages) j states.Retired) ≡ false
    later not_so rest zero = not_so
    later not_so rest (suc j) = rest j

pub least_is_free : (pages : List PageState) (p : ℕ) → least_free pages ≡ Some p → is_free_state (get_or pages p states.Retired) ≡ true
least_is_free pages p e =
    let f = found 1 (drop 1 pages) p e in
    ap (λ (k : ℕ). is_free_state (get_or pages k states.Retired)) f.is
    ∙ ap is_free_state (sym (get_or-drop 1 pages f.at states.Retired)) ∙ f.free

pub takes_least : (pages : List PageState) (p : ℕ) → least_free pages ≡ Some p → (is_free pages p ≡ true) × ((k : ℕ) → k < p → is_free pages k ≡ false)
takes_least pages p e =
    let f = found 1 (drop 1 pages) p e in
    let positive : nat_lt 0 p ≡ true = (let least : 0 < p = omega (arith, f.is) in grind (arith, nat_tests)) in
    (rw positive (least_is_free pages p e), less f.at f.is f.before)
  where
    less : (at : ℕ) → p ≡ 1 + at → ((k : ℕ) → k < at → is_free_state (get_or (drop 1 pages) k states.Retired) ≡ false) → (k : ℕ) → k < p
        → is_free pages k ≡ false
    less at is before zero h = refl
    less at is before (suc k) h =
        let there : is_free_state (get_or pages (suc k) states.Retired) ≡ false =
        ap (λ (j : ℕ). is_free_state (get_or pages j states.Retired)) (omega arith)
        ∙ ap is_free_state (sym (get_or-drop 1 pages k states.Retired)) ∙ before k (omega (arith, h, is)) in
        let positive : nat_lt 0 (suc k) ≡ true = grind (arith, nat_tests) in
        rw positive there

pub none_is_free : (pages : List PageState) → least_free pages ≡ None → (k : ℕ) → is_free pages k ≡ false
none_is_free pages e zero = refl
none_is_free pages e (suc k) =
    let there : is_free_state (get_or pages (suc k) states.Retired) ≡ false =
    ap (λ (j : ℕ). is_free_state (get_or pages j states.Retired)) (omega arith)
    ∙ ap is_free_state (sym (get_or-drop 1 pages k states.Retired)) ∙ none_found 1 (drop 1 pages) e k in
    let positive : nat_lt 0 (suc k) ≡ true = grind (arith, nat_tests) in
    rw positive there
