-- The pages that aren't in use, and what becomes of them when one is taken.
use Rattle.std.proofs.Common.{◌≡◌, ◌<◌, ◌≤◌, ◌+◌, ℕ, zero, suc, Bool, true, false, List, [], ◌∷◌, ◌++◌, length, length-append, sym, ap, ◌∙◌, arith, refl, inl}
use Rattle.std.proofs.Common.{inr, set, subst, ◌^◌, max, min}
use Rattle.std.specs.Prelude.{◌≢◌, ◌==◌, ◌&&◌, get_or, if◌then◌else◌, nat_lt, not}
use Rattle.std.proofs.lemmas.Bool.Decides.{nat_tests}
use Rattle.std.proofs.lemmas.Bool.{cases_eq, cases_Bool, cases_lt}
use Rattle.std.proofs.lemmas.List.{append-nil, get_or-set_other, get_or-set_same, get_or_default, get_or_past}
use Rattle.freelist.specs.Book.{is_in_use, is_used_state}
use Rattle.freelist.specs.FreeList.{times_in}
use Rattle.freelist.specs.ListWriting.{is_unused, unused_below}
use Rattle.freelist.specs.Search.{IsFirst, IsNextUnused}
use Rattle.freelist.specs.declared.states.PageState.{PageState}
use Rattle.freelist.specs.declared.states.PageState.TheVariants as states
use Rattle.freelist.specs.declared.states.Sought.TheVariants as soughts
use Rattle.freelist.proofs.Marking.{times_in-append}
use Rattle.freelist.proofs.Rewinding.{below, used_is}

step_unused : (k : ℕ) (pages : List PageState) → is_unused pages k ≡ true → unused_below (k + 1) pages ≡ unused_below k pages ++ k ∷ []
step_unused k pages so = ap (λ (n : ℕ). unused_below n pages) next ∙ rw so refl
  where
    next : k + 1 ≡ suc k
    next = omega arith

step_used : (k : ℕ) (pages : List PageState) → is_unused pages k ≡ false → unused_below (k + 1) pages ≡ unused_below k pages
step_used k pages not_so = ap (λ (n : ℕ). unused_below n pages) next ∙ rw not_so (append-nil (unused_below k pages))
  where
    next : k + 1 ≡ suc k
    next = omega arith

pub unused_grows : (k : ℕ) (pages : List PageState) → is_unused pages k ≡ true → length (unused_below (k + 1) pages) ≡ length (unused_below k pages) + 1
unused_grows k pages so = ap length (step_unused k pages so) ∙ length-append (unused_below k pages) (k ∷ [])

pub unused_stays : (k : ℕ) (pages : List PageState) → is_unused pages k ≡ false → length (unused_below (k + 1) pages) ≡ length (unused_below k pages)
unused_stays k pages not_so = ap length (step_used k pages not_so)

pub at_most : (k : ℕ) (pages : List PageState) → length (unused_below k pages) ≤ k
at_most zero pages = omega arith
at_most (suc k) pages = elim (cases_Bool (is_unused pages k)) [
  | inl so ↦
      let step : length (unused_below (suc k) pages) ≡ length (unused_below k pages) + 1 =
      rw so (length-append (unused_below k pages) (k ∷ [])) in
      omega (arith, step, at_most k pages)
  | inr not_so ↦
      let step : length (unused_below (suc k) pages) ≡ length (unused_below k pages) =
      rw not_so (ap length (append-nil (unused_below k pages))) in
      omega (arith, step, at_most k pages)
]

none_of : (p : ℕ) (test : Bool) → test ≡ false → (nat_lt 0 p && test) ≡ false
none_of p test fails = elim (cases_Bool (nat_lt 0 p)) [ inl some ↦ rw (some, fails) refl | inr none ↦ rw none refl ]

used_is_none : (p : ℕ) (s : PageState) → s ≡ states.InUse → (nat_lt 0 p && not (is_used_state s)) ≡ false
used_is_none p s is = none_of p (not (is_used_state s)) (ap (λ (x : PageState). not (is_used_state x)) is)

pub grows_with : (k n : ℕ) (pages : List PageState) → k ≤ n → length (unused_below k pages) ≤ length (unused_below n pages)
grows_with k zero pages less = omega (arith, at_most k pages, less)
grows_with k (suc n) pages less = elim (cases_eq k (suc n)) [
  | inl same ↦ omega (arith, ap (λ (m : ℕ). length (unused_below m pages)) same)
  | inr other ↦
      let before : length (unused_below k pages) ≤ length (unused_below n pages) = grows_with k n pages (omega (arith, less, other)) in
      let step : length (unused_below (suc n) pages)
      ≡ length (unused_below n pages) + length (if is_unused pages n then n ∷ [] else []) =
      length-append (unused_below n pages) (if is_unused pages n then n ∷ [] else []) in
      omega (arith, before, step)
]

-- a page that isn't in use is below the limit
pub unused_within : (pages : List PageState) (p : ℕ) → is_unused pages p ≡ true → p < length pages
unused_within pages p so = elim (cases_lt p (length pages)) [
  | inl within ↦ within
  | inr past ↦
      let none : is_unused pages p ≡ false = used_is_none p (get_or pages p states.InUse) (get_or_past pages p states.InUse past) in
      absurd (let never : true ≡ false = sym so ∙ none in cc)
]

-- pages that are in use are passed over
pub passed_by : (from n : ℕ) (pages : List PageState) → from ≤ n → ((k : ℕ) → from ≤ k → k < n → is_unused pages k ≡ false)
    → unused_below n pages ≡ unused_below from pages
passed_by from zero pages less none =
    let at_none : zero ≡ from = omega (arith, less) in
    ap (λ (k : ℕ). unused_below k pages) at_none
passed_by from (suc n) pages less none = elim (cases_eq from (suc n)) [
  | inl same ↦ ap (λ (k : ℕ). unused_below k pages) (sym same)
  | inr other ↦
      ap (λ (k : ℕ). unused_below k pages) next
      ∙ step_used n pages (none n (omega (arith, less, other)) (omega arith))
      ∙ passed_by from n pages (omega (arith, less, other)) (λ k after below. none k after (omega (arith, below)))
]
  where
    next : suc n ≡ n + 1
    next = omega arith

-- the next page that isn't in use
module _ (from first : ℕ) (pages : List PageState) (few : length pages < 2 ^ 32) (is : IsFirst soughts.Unused (max from 1) first pages) where
  none_before : (k : ℕ) → from ≤ k → k < first → is_unused pages k ≡ false
  none_before zero after below = refl
  none_before (suc k) after below = none_of (suc k) _ (is.passed (suc k) (omega (arith, after)) below)

  is_one : first < length pages → is_unused pages first ≡ true
  is_one inside =
      let positive : nat_lt 0 first ≡ true = (let some : 0 < first = omega (arith, is.rises) in grind (arith, nat_tests)) in
      rw (positive, is.fitting inside) refl

  pub next_inside : (end : ℕ) → first < length pages → IsNextUnused from end (min first end) pages
  next_inside end inside = record {
    within = omega arith;
    few = λ less. omega (arith, less, inside, few);
    rises = λ less. omega (arith, less, is.rises);
    unused = λ less. let at : first ≡ min first end = omega (arith, less) in subst (λ (n : ℕ). is_unused pages n ≡ true) at (is_one inside);
    passed = λ in_order. passed_by from (min first end) pages (omega (arith, in_order, is.rises))
        (λ k after below. none_before k after (omega (arith, below)));
  }

  pub next_past : (end : ℕ) → length pages ≤ first → IsNextUnused from end end pages
  next_past end past = record {
    within = omega arith;
    few = λ less. absurd (omega (arith, less));
    rises = λ less. absurd (omega (arith, less));
    unused = λ less. absurd (omega (arith, less));
    passed = λ in_order. passed_by from end pages in_order (λ k after below. elim (cases_lt k first) [
      | inl front ↦ none_before k after front
      | inr behind ↦ used_is_none k (get_or pages k states.InUse) (get_or_past pages k states.InUse (omega (arith, past, behind)))
    ]);
  }

-- ---- a page that is in use isn't

pub used_not_unused : (pages : List PageState) (p : ℕ) → is_in_use pages p ≡ true → is_unused pages p ≡ false
used_not_unused pages p used =
    let is : get_or pages p states.Retired ≡ states.InUse = used_is (get_or pages p states.Retired) used in
    let within : p < length pages = below pages p states.InUse is (λ e. cc) in
    used_is_none p (get_or pages p states.InUse) (get_or_default pages p states.InUse states.Retired within ∙ is)

-- what isn't in use below a page stays so when the page changes
pub unused_past : (k p : ℕ) (pages : List PageState) (s : PageState) → k ≤ p → unused_below k (set pages p s) ≡ unused_below k pages
unused_past zero p pages s past = refl
unused_past (suc k) p pages s past =
    let other : p ≢ k = λ e. absurd (omega (arith, e, past)) in
    let same : is_unused (set pages p s) k ≡ is_unused pages k =
    ap (λ (x : PageState). nat_lt 0 k && not (is_used_state x)) (get_or-set_other pages p k s states.InUse (λ e. other (sym e))) in
    rw same (ap (λ (ns : List ℕ). ns ++ (if is_unused pages k then k ∷ [] else [])) (unused_past k p pages s (omega (arith, past))))

freed_unused : (pages : List PageState) (p : ℕ) → 0 < p → p < length pages → is_unused (set pages p states.Free) p ≡ true
freed_unused pages p some within =
    let positive : nat_lt 0 p ≡ true = grind (arith, nat_tests) in
    let free : get_or (set pages p states.Free) p states.InUse ≡ states.Free = get_or-set_same pages p states.Free states.InUse within in
    rw (positive, free) refl

-- a page that is taken is one fewer of those that aren't in use
pub one_fewer_unused : (k p : ℕ) (pages : List PageState) → 0 < p → is_in_use pages p ≡ true → p < k
    → length (unused_below k (set pages p states.Free)) ≡ length (unused_below k pages) + 1
one_fewer_unused zero p pages some used h = absurd (omega (arith, h))
one_fewer_unused (suc k) p pages some used h = elim (cases_eq p k) [
  | inl same ↦ at_page same
  | inr other ↦ past other (λ below_k. one_fewer_unused k p pages some used below_k)
]
  where
    next : suc k ≡ k + 1
    next = omega arith

    within : p < length pages
    within = below pages p states.InUse (used_is (get_or pages p states.Retired) used) (λ e. cc)

    at_page : p ≡ k → length (unused_below (suc k) (set pages p states.Free)) ≡ length (unused_below (suc k) pages) + 1
    at_page same =
        let now : is_unused (set pages p states.Free) k ≡ true =
        ap (λ (n : ℕ). is_unused (set pages p states.Free) n) (sym same) ∙ freed_unused pages p some within in
        let was : is_unused pages k ≡ false = ap (is_unused pages) (sym same) ∙ used_not_unused pages p used in
        omega (
          arith,
          ap (λ (n : ℕ). length (unused_below n (set pages p states.Free))) next,
          ap (λ (n : ℕ). length (unused_below n pages)) next,
          unused_grows k (set pages p states.Free) now,
          unused_stays k pages was,
          ap length (unused_past k p pages states.Free (omega (arith, same))),
        )

    past : p ≢ k → (p < k → length (unused_below k (set pages p states.Free)) ≡ length (unused_below k pages) + 1)
        → length (unused_below (suc k) (set pages p states.Free)) ≡ length (unused_below (suc k) pages) + 1
    past other later =
        let still : is_unused (set pages p states.Free) k ≡ is_unused pages k =
        ap (λ (x : PageState). nat_lt 0 k && not (is_used_state x)) (get_or-set_other pages p k states.Free states.InUse (λ e. other (sym e))) in
        let before : length (unused_below k (set pages p states.Free)) ≡ length (unused_below k pages) + 1 =
        later (omega (arith, h, other)) in
        elim (cases_Bool (is_unused pages k)) [
          | inl so ↦ omega (
            arith,
            ap (λ (n : ℕ). length (unused_below n (set pages p states.Free))) next,
            ap (λ (n : ℕ). length (unused_below n pages)) next,
            unused_grows k (set pages p states.Free) (still ∙ so),
            unused_grows k pages so,
            before,
          )
          | inr not_so ↦ omega (
            arith,
            ap (λ (n : ℕ). length (unused_below n (set pages p states.Free))) next,
            ap (λ (n : ℕ). length (unused_below n pages)) next,
            unused_stays k (set pages p states.Free) (still ∙ not_so),
            unused_stays k pages not_so,
            before,
          )
        ]

-- ---- how often a page stands there

-- a list of the numbers below a number that pass a test
pub times_filtered : (test : ℕ → Bool) (list : ℕ → List ℕ) → list 0 ≡ []
    → ((k : ℕ) → list (suc k) ≡ list k ++ (if test k then k ∷ [] else [])) → (n k : ℕ)
    → times_in n (list k) ≡ (if nat_lt n k && test n then 1 else 0)
times_filtered test list none step n zero = ap (times_in n) none ∙ (let no : nat_lt n 0 ≡ false = grind (arith, nat_tests) in rw no refl)
times_filtered test list none step n (suc k) = elim (cases_eq n k) [
  | inl same ↦ at_page same (times_filtered test list none step n k)
  | inr other ↦ past other (times_filtered test list none step n k)
]
  where
    all : times_in n (list (suc k)) ≡ times_in n (list k) + times_in n (if test k then k ∷ [] else [])
    all = ap (times_in n) (step k) ∙ times_in-append n (list k) (if test k then k ∷ [] else [])

    at_page : n ≡ k → times_in n (list k) ≡ (if nat_lt n k && test n then 1 else 0)
        → times_in n (list (suc k)) ≡ (if nat_lt n (suc k) && test n then 1 else 0)
    at_page same before =
        let there : nat_lt n (suc k) ≡ true = grind (arith, nat_tests) in
        let not_yet : nat_lt n k ≡ false = grind (arith, nat_tests) in
        let none_before : times_in n (list k) ≡ 0 = before ∙ rw not_yet refl in
        let eq : (n == k) ≡ true = grind (arith, nat_tests) in
        elim (cases_Bool (test k)) [
          | inl so ↦
              let now : test n ≡ true = ap test same ∙ so in
              let one : times_in n (if test k then k ∷ [] else []) ≡ 1 = rw (so, eq) (omega arith) in
              rw (there, now) (omega (arith, all, none_before, one))
          | inr not_so ↦
              let now : test n ≡ false = ap test same ∙ not_so in
              let zero_more : times_in n (if test k then k ∷ [] else []) ≡ 0 = rw not_so refl in
              rw (there, now) (omega (arith, all, none_before, zero_more))
        ]

    past : n ≢ k → times_in n (list k) ≡ (if nat_lt n k && test n then 1 else 0)
        → times_in n (list (suc k)) ≡ (if nat_lt n (suc k) && test n then 1 else 0)
    past other before =
        let eq : (n == k) ≡ false = grind (arith, nat_tests) in
        let same_test : nat_lt n (suc k) ≡ nat_lt n k = grind (arith, nat_tests) in
        elim (cases_Bool (test k)) [
          | inl so ↦
              let none_more : times_in n (if test k then k ∷ [] else []) ≡ 0 = rw (so, eq) (omega arith) in
              rw same_test (omega (arith, all, none_more, before))
          | inr not_so ↦
              let none_more : times_in n (if test k then k ∷ [] else []) ≡ 0 = rw not_so refl in
              rw same_test (omega (arith, all, none_more, before))
        ]

pub times_unused : (n k : ℕ) (pages : List PageState)
    → times_in n (unused_below k pages) ≡ (if nat_lt n k && is_unused pages n then 1 else 0)
times_unused n k pages = times_filtered (is_unused pages) (λ (m : ℕ). unused_below m pages) refl (λ m. refl) n k
