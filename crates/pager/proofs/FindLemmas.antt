-- A page is looked for in the order of the pages that were made.
use Rattle.std.proofs.Common.{◌≡◌, ◌≢◌, ℕ, zero, suc, ◌+◌, ◌<◌, ◌≤◌, List, [], ◌∷◌, length, take, drop, get_or, sym, ◌∙◌, ap, subst, arith}
use Rattle.std.specs.Prelude.{Result, Ok}
use Rattle.std.specs.List.{AllByRecursion}
use Rattle.std.proofs.lemmas.List.{drop_more, get_or-map, get_or_default, length-map}
use Rattle.page.specs.Format.{PageModel}
use Rattle.page.specs.declared.page_fault.PageFault.{PageFault}
use Rattle.roots.specs.Turn.{LieBehind, made_or}
use Rattle.pager.specs.Order.{IsOrderOf, StandsAt, no_model, pages_at}
use Rattle.pager.proofs.ListLemmas.{all_taken_more, all_weaker}
use Rattle.pager.proofs.MemberLemmas.{all_among, among_at}
use Rattle.pager.proofs.OrderLemmas.{above_last, all_made, found_made}

-- Those before some place lie below the number, and those from another place on don't.
pub record IsBetween (models : List PageModel) (n from to : ℕ) : Type 0 where
  pub order : from ≤ to
  pub within : to ≤ length models
  pub below : AllByRecursion (λ (m : PageModel). m.page < n) (take from models)
  pub above : AllByRecursion (λ (m : PageModel). n ≤ m.page) (drop to models)

lie_at : (last : ℕ) (models : List PageModel) (i : ℕ) (x : PageModel) → i < length models → x ≡ get_or models i x → LieBehind last models
    → AllByRecursion (λ (m : PageModel). m.page < x.page) (take i models) × AllByRecursion (λ (m : PageModel). x.page < m.page) (drop (i + 1) models)
lie_at last [] i x lt is lie = absurd (omega (arith, lt))
lie_at last (m ∷ ms) zero x lt is lie =
    (tt, subst (λ (k : ℕ). AllByRecursion (λ (s : PageModel). k < s.page) ms) (ap (λ (s : PageModel). s.page) (sym is)) (above_last m.page ms lie.1))
lie_at last (m ∷ ms) (suc i) x lt is lie =
    let less : i < length ms = omega (arith, lt) in
    let later = lie_at m.page ms i x less is lie.1 in
    let next : suc i + 1 ≡ suc (i + 1) = omega arith in (
      (all_among (λ (s : PageModel). m.page < s.page) ms x (above_last m.page ms lie.1) (among_at ms i x x is less), later.0),
      subst (λ (k : ℕ). AllByRecursion (λ (s : PageModel). x.page < s.page) (drop k (m ∷ ms))) (sym next) later.1,
    )

place_inside : (made : List PageModel) (places : List ℕ) (i : ℕ) → AllByRecursion (λ (p : ℕ). p < length made) places → i < length places
    → get_or places i 0 < length made
place_inside made [] i inside less = absurd (omega (arith, less))
place_inside made (p ∷ ps) zero inside less = inside.0
place_inside made (p ∷ ps) (suc i) inside less = place_inside made ps i inside.1 (omega (arith, less))

-- a page by its place in the order
pub page_at_place : (made : List PageModel) (places : List ℕ) (i : ℕ) (x : PageModel) → AllByRecursion (λ (p : ℕ). p < length made) places → i < length places
    → x ≡ get_or made (get_or places i 0) x → x ≡ get_or (pages_at made places) i x
page_at_place made places i x inside less is =
    is ∙ get_or_default made (get_or places i 0) x no_model (place_inside made places i inside less)
    ∙ sym (get_or-map (λ (p : ℕ). get_or made p no_model) places i 0 x less)

module _ (models : List PageModel) (n from to mid : ℕ) (x : PageModel) (lie : LieBehind 0 models) (so : IsBetween models n from to) (low : from ≤ mid)
    (high : mid < to) (is : x ≡ get_or models mid x) where
  less : mid < length models
  less = omega (arith, high, so.within)

  -- it lies behind
  pub between_up : x.page < n → IsBetween models n (mid + 1) to
  between_up under = record {
    order = omega (arith, high);
    within = so.within;
    below = all_taken_more (λ (m : PageModel). m.page < n) models mid x less is
        (all_weaker (λ (m : PageModel). m.page < x.page) (λ (m : PageModel). m.page < n) (λ m lower. omega (arith, lower, under)) (take mid models)
        (lie_at 0 models mid x less is lie).0) under;
    above = so.above;
  }

  -- it lies here or before
  pub between_down : n ≤ x.page → IsBetween models n from mid
  between_down over = record {
    order = low;
    within = omega (arith, less);
    below = so.below;
    above = subst (AllByRecursion (λ (m : PageModel). n ≤ m.page))
        (sym (drop_more models mid x less ∙ ap (λ (m : PageModel). m ∷ drop (mid + 1) models) (sym is))) (
          over,
          all_weaker (λ (m : PageModel). x.page < m.page) (λ (m : PageModel). n ≤ m.page) (λ m higher. omega (arith, higher, over)) (drop (mid + 1) models)
              (lie_at 0 models mid x less is lie).1,
        );
  }

-- ---- what stands there

join_parts : (P : PageModel → Type 0) (i : ℕ) (xs : List PageModel) → AllByRecursion P (take i xs) → AllByRecursion P (drop i xs) → AllByRecursion P xs
join_parts P zero xs front back = back
join_parts P (suc i) [] front back = tt
join_parts P (suc i) (x ∷ xs) front back = (front.0, join_parts P i xs front.1 back)

module _ (made : List PageModel) (places : List ℕ) (so : IsOrderOf made places) (n at : ℕ) (stands : StandsAt made places n at) where
  -- no page has the number where none that stands there or later has it
  none_by : AllByRecursion (λ (m : PageModel). m.page ≢ n) (drop at (pages_at made places)) → AllByRecursion (λ (m : PageModel). m.page ≢ n) made
  none_by rest =
      all_made (λ (m : PageModel). m.page ≢ n) made places so
      (join_parts (λ (m : PageModel). m.page ≢ n) at (pages_at made places)
      (all_weaker (λ (m : PageModel). m.page < n) (λ (m : PageModel). m.page ≢ n) (λ m lower same. omega (arith, lower, same)) (take at (pages_at made places))
      stands.below)
      rest)

  pub none_behind : at ≡ length places → AllByRecursion (λ (m : PageModel). m.page ≢ n) made
  none_behind is =
      none_by (subst (λ (k : ℕ). AllByRecursion (λ (m : PageModel). m.page ≢ n) (drop k (pages_at made places)))
      (sym (is ∙ sym (length-map places (λ (p : ℕ). get_or made p no_model)))) (none (pages_at made places)))
    where
      none : (xs : List PageModel) → AllByRecursion (λ (m : PageModel). m.page ≢ n) (drop (length xs) xs)
      none [] = tt
      none (x ∷ xs) = none xs

  module _ (x : PageModel) (less : at < length places) (is : x ≡ get_or (pages_at made places) at x) where
    within : at < length (pages_at made places)
    within = omega (arith, less, length-map places (λ (p : ℕ). get_or made p no_model))

    pub another_there : x.page ≢ n → AllByRecursion (λ (m : PageModel). m.page ≢ n) made
    another_there ne =
        let here : drop at (pages_at made places) ≡ x ∷ drop (at + 1) (pages_at made places) =
        drop_more (pages_at made places) at x within ∙ ap (λ (m : PageModel). m ∷ drop (at + 1) (pages_at made places)) (sym is) in
        let front : AllByRecursion (λ (m : PageModel). n ≤ m.page) (x ∷ drop (at + 1) (pages_at made places)) =
        subst (AllByRecursion (λ (m : PageModel). n ≤ m.page)) here stands.above in
        none_by (subst (AllByRecursion (λ (m : PageModel). m.page ≢ n)) (sym here) (
          ne,
          all_weaker (λ (m : PageModel). x.page < m.page) (λ (m : PageModel). m.page ≢ n) (λ m higher same. omega (arith, higher, same, front.0))
              (drop (at + 1) (pages_at made places)) (lie_at 0 (pages_at made places) at x within is so.ascending).1,
        ))

    pub found_at_place : x.page ≡ n → (other : Result PageModel PageFault) → made_or made n other ≡ Ok x
    found_at_place here other = found_made made places so x n other (among_at (pages_at made places) at x x is within) here
