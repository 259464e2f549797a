-- The order of the pages that a turn made: a page more, and some fewer.
use Rattle.std.proofs.Common.{◌≡◌, ◌≢◌, ℕ, zero, suc, ◌+◌, ◌<◌, ◌≤◌, true, false, List, [], ◌∷◌, ◌++◌, length, take, drop, get_or, refl, sym}
use Rattle.std.proofs.Common.{◌∙◌, ap, subst, arith, inl, inr}
use Rattle.std.specs.Prelude.{nat_lt, if◌then◌else◌, is_ok, Result, Ok}
use Rattle.std.specs.List.{AllByRecursion, filter, insert}
use Rattle.std.proofs.lemmas.Bool.{cases_eq, cases_lt}
use Rattle.std.proofs.lemmas.Bool.Decides.{nat_tests}
use Rattle.std.proofs.lemmas.List.{drop-map, get_or-take, get_or_append_left, length-append, length-map, length-take, map-append, take-append-drop, take-map}
use Rattle.std.proofs.Math.Seq.{get_or-append_seam}
use Rattle.page.specs.Format.{PageModel}
use Rattle.page.specs.declared.page_fault.PageFault.{PageFault}
use Rattle.tree_model.specs.Keys.{times}
use Rattle.tree_model.specs.Reach.{AreOnce}
use Rattle.tree_model.proofs.CapacityLemmas.{pages_are_few}
use Rattle.roots.specs.Turn.{LieBehind, made_or, numbers_of}
use Rattle.roots.proofs.KeptPages.{made_there}
use Rattle.pager.specs.Order.{IsOrderOf, StandsAt, no_model, pages_at}
use Rattle.pager.specs.Writing.{IsAmong}
use Rattle.pager.proofs.BookLemmas.{no_time, one_time}
use Rattle.pager.proofs.CapacityLemmas.{each_number}
use Rattle.pager.proofs.ListLemmas.{all_both, all_joined, all_take, all_weaker, lie_higher}
use Rattle.pager.proofs.MemberLemmas.{all_among, among_at, lie_lower, member, times_append}

-- ---- one of some pages

pub each_among : (xs : List PageModel) → AllByRecursion (λ (m : PageModel). IsAmong m xs) xs
each_among [] = tt
each_among (x ∷ xs) = (inl refl, all_weaker (λ (m : PageModel). IsAmong m xs) (λ (m : PageModel). IsAmong m (x ∷ xs)) (λ m later. inr later) xs (each_among xs))

pub found_among : (last : ℕ) (xs : List PageModel) (x : PageModel) (n : ℕ) (other : Result PageModel PageFault) → LieBehind last xs → IsAmong x xs → x.page ≡ n
    → made_or xs n other ≡ Ok x
found_among last xs x n other lie among is =
    subst (λ (k : ℕ). made_or xs k other ≡ Ok x) is
    (all_among (λ (m : PageModel). made_or xs m.page other ≡ Ok m) xs x (made_there (λ _. other) last xs lie) among)

-- where one of them was made
record IsPlaced (made : List PageModel) (x : PageModel) : Type 0 where
  place : ℕ
  within : place < length made
  is : get_or made place no_model ≡ x

placed : (made : List PageModel) (x : PageModel) → IsAmong x made → IsPlaced made x
placed [] x among = absurd among
placed (m ∷ ms) x (inl is) = record { place = 0; within = omega arith; is = sym is }
placed (m ∷ ms) x (inr later) = let r = placed ms x later in record { place = suc r.place; within = omega (arith, r.within); is = r.is }

-- ---- in their order

at_place : (made : List PageModel) (places : List ℕ) (i : ℕ) → 1 ≤ times i places → IsAmong (get_or made i no_model) (pages_at made places)
at_place made [] i some = absurd (omega (arith, some))
at_place made (p ∷ ps) i some = elim (cases_eq i p) [
  | inl is ↦ inl (ap (λ (k : ℕ). get_or made k no_model) is)
  | inr ne ↦ inr (at_place made ps i (omega (arith, some, no_time i p ps ne)))
]

pub in_order : (made : List PageModel) (places : List ℕ) → IsOrderOf made places → (x : PageModel) → IsAmong x made → IsAmong x (pages_at made places)
in_order made places so x among =
    let r = placed made x among in
    subst (λ (m : PageModel). IsAmong m (pages_at made places)) r.is (at_place made places r.place (so.each r.place r.within))

-- what holds of all that were made holds of them in their order, and the other way round
pub all_at : (P : PageModel → Type 0) (made : List PageModel) (places : List ℕ) → AllByRecursion (λ (p : ℕ). p < length made) places → AllByRecursion P made
    → AllByRecursion P (pages_at made places)
all_at P made [] inside all = tt
all_at P made (p ∷ ps) inside all = (
  all_among P made (get_or made p no_model) all (among_at made p (get_or made p no_model) no_model refl inside.0),
  all_at P made ps inside.1 all,
)

pub all_made : (P : PageModel → Type 0) (made : List PageModel) (places : List ℕ) → IsOrderOf made places → AllByRecursion P (pages_at made places)
    → AllByRecursion P made
all_made P made places so all =
    all_weaker (λ (m : PageModel). IsAmong m made) P (λ m among. all_among P (pages_at made places) m all (in_order made places so m among)) made
    (each_among made)

pub above_last : (last : ℕ) (xs : List PageModel) → LieBehind last xs → AllByRecursion (λ (m : PageModel). last < m.page) xs
above_last last [] lie = tt
above_last last (x ∷ xs) lie = (
  lie.0,
  all_weaker (λ (m : PageModel). x.page < m.page) (λ (m : PageModel). last < m.page) (λ m less. omega (arith, less, lie.0)) xs
      (above_last x.page xs lie.1),
)

-- the page of a number that stands in the order was made
pub found_made : (made : List PageModel) (places : List ℕ) → IsOrderOf made places → (x : PageModel) (n : ℕ) (other : Result PageModel PageFault)
    → IsAmong x (pages_at made places) → x.page ≡ n → made_or made n other ≡ Ok x
found_made made places so x n other among is = elim (member made n) [
  | inl none ↦ absurd (all_among (λ (m : PageModel). m.page ≢ n) (pages_at made places) x (all_at (λ (m : PageModel). m.page ≢ n) made places so.inside none)
      among is)
  | inr r ↦
      r.there other ∙ sym (found_among 0 (pages_at made places) r.model n other so.ascending (in_order made places so r.model r.among) r.is)
      ∙ found_among 0 (pages_at made places) x n other so.ascending among is
]

-- no page that was made is page 0
pub all_positive : (made : List PageModel) (places : List ℕ) → IsOrderOf made places → AllByRecursion (λ (m : PageModel). 0 < m.page) made
all_positive made places so =
    all_made (λ (m : PageModel). 0 < m.page) made places so (above_last 0 (pages_at made places) so.ascending)

pub order_none : IsOrderOf [] []
order_none = record { ascending = tt; inside = tt; each = λ i less. absurd (omega (arith, less)) }

-- ---- a page more

pub all_drop : {X : Type 0} (P : X → Type 0) (n : ℕ) (xs : List X) → AllByRecursion P xs → AllByRecursion P (drop n xs)
all_drop P zero xs all = all
all_drop P (suc n) [] all = tt
all_drop P (suc n) (x ∷ xs) all = all_drop P n xs all.1

same_at : (made : List PageModel) (model : PageModel) (places : List ℕ) → AllByRecursion (λ (p : ℕ). p < length made) places
    → pages_at (made ++ model ∷ []) places ≡ pages_at made places
same_at made model [] inside = refl
same_at made model (p ∷ ps) inside =
    (λ i. get_or_append_left made (model ∷ []) no_model p inside.0 i ∷ same_at made model ps inside.1 i)

lie_between : (last at : ℕ) (xs : List PageModel) (x : PageModel) → LieBehind last xs → last < x.page → AllByRecursion (λ (m : PageModel). m.page < x.page)
    (take at xs)
    → AllByRecursion (λ (m : PageModel). x.page < m.page) (drop at xs) → LieBehind last (take at xs ++ x ∷ drop at xs)
lie_between last zero xs x lie up below above = (up, lie_higher last x.page xs lie above)
lie_between last (suc at) [] x lie up below above = (up, tt)
lie_between last (suc at) (m ∷ ms) x lie up below above = (lie.0, lie_between m.page at ms x lie.1 below.0 below.1 above)

module _ (made : List PageModel) (places : List ℕ) (so : IsOrderOf made places) (model : PageModel) (at : ℕ) (stands : StandsAt made places model.page at)
    (some : 0 < model.page) (apart : AllByRecursion (λ (m : PageModel). m.page ≢ model.page) made) where
  abbrev more : List PageModel
  more = made ++ model ∷ []

  abbrev those : List PageModel
  those = pages_at made places

  above : AllByRecursion (λ (m : PageModel). model.page < m.page) (drop at those)
  above =
      all_both (λ (m : PageModel). model.page ≤ m.page) (λ (m : PageModel). m.page ≢ model.page) (λ (m : PageModel). model.page < m.page)
      (λ m le ne. omega (arith, le, ne)) (drop at those) stands.above
      (all_drop (λ (m : PageModel). m.page ≢ model.page) at those (all_at (λ (m : PageModel). m.page ≢ model.page) made places so.inside apart))

  pages_are : pages_at more (insert places at (length made)) ≡ take at those ++ model ∷ drop at those
  pages_are =
      map-append (λ (p : ℕ). get_or more p no_model) (take at places) (length made ∷ drop at places)
      ∙ (λ i. first i ++ get_or-append_seam made model [] no_model i ∷ second i)
    where
      first : pages_at more (take at places) ≡ take at those
      first =
          same_at made model (take at places) (all_take (λ (p : ℕ). p < length made) at places so.inside)
          ∙ sym (take-map (λ (p : ℕ). get_or made p no_model) at places)

      second : pages_at more (drop at places) ≡ drop at those
      second =
          same_at made model (drop at places) (all_drop (λ (p : ℕ). p < length made) at places so.inside)
          ∙ sym (drop-map (λ (p : ℕ). get_or made p no_model) at places)

  long : length more ≡ length made + 1
  long = length-append made (model ∷ [])

  wider : (ps : List ℕ) → AllByRecursion (λ (p : ℕ). p < length made) ps → AllByRecursion (λ (p : ℕ). p < length more) ps
  wider ps inside = all_weaker (λ (p : ℕ). p < length made) (λ (p : ℕ). p < length more) (λ p less. omega (arith, less, long)) ps inside

  counted : (i : ℕ) → times i (insert places at (length made)) ≡ times i places + times i (length made ∷ [])
  counted i =
      omega (
        arith,
        times_append i (take at places) (length made ∷ drop at places),
        times_append i (length made ∷ []) (drop at places),
        times_append i (take at places) (drop at places),
        ap (times i) (take-append-drop at places),
      )

  pub order_more : IsOrderOf more (insert places at (length made))
  order_more = record {
    ascending = subst (LieBehind 0) (sym pages_are) (lie_between 0 at those model so.ascending some stands.below above);
    inside = all_joined (λ (p : ℕ). p < length more) (take at places) (length made ∷ drop at places)
        (wider (take at places) (all_take (λ (p : ℕ). p < length made) at places so.inside))
        (omega (arith, long), wider (drop at places) (all_drop (λ (p : ℕ). p < length made) at places so.inside));
    each = λ i less. elim (cases_lt i (length made)) [
      | inl earlier ↦ omega (arith, counted i, so.each i earlier)
      | inr not_less ↦ omega (arith, counted i, one_time i (length made) [] (omega (arith, not_less, less, long)))
    ];
  }

-- ---- the first of them alone

abbrev pub lower_than : ℕ → List ℕ → List ℕ
lower_than n places = filter (λ place. nat_lt place n) places

lie_lower_than : (last n : ℕ) (made : List PageModel) (places : List ℕ) → LieBehind last (pages_at made places)
    → LieBehind last (pages_at (take n made) (lower_than n places))
lie_lower_than last n made [] lie = tt
lie_lower_than last n made (p ∷ ps) lie = elim (cases_lt p n) [
  | inl less ↦
      let test : nat_lt p n ≡ true = grind (arith, nat_tests, less) in
      let same : get_or (take n made) p no_model ≡ get_or made p no_model = get_or-take n made p no_model less in
      rw test (subst (λ (m : PageModel). (last < m.page) × LieBehind m.page (pages_at (take n made) (lower_than n ps))) (sym same)
      (lie.0, lie_lower_than (get_or made p no_model).page n made ps lie.1))
  | inr not_less ↦
      let test : nat_lt p n ≡ false = grind (arith, nat_tests, not_less) in
      rw test (lie_lower_than last n made ps (lie_lower last (get_or made p no_model).page (pages_at made ps) (omega (arith, lie.0)) lie.1))
]

inside_lower_than : (n : ℕ) (made : List PageModel) (places : List ℕ) → AllByRecursion (λ (p : ℕ). p < length made) places
    → AllByRecursion (λ (p : ℕ). p < length (take n made)) (lower_than n places)
inside_lower_than n made [] inside = tt
inside_lower_than n made (p ∷ ps) inside = elim (cases_lt p n) [
  | inl less ↦
      let test : nat_lt p n ≡ true = grind (arith, nat_tests, less) in
      rw test (omega (arith, less, inside.0, length-take n made), inside_lower_than n made ps inside.1)
  | inr not_less ↦
      let test : nat_lt p n ≡ false = grind (arith, nat_tests, not_less) in
      rw test (inside_lower_than n made ps inside.1)
]

times_lower_than : (n i : ℕ) (places : List ℕ) → i < n → times i (lower_than n places) ≡ times i places
times_lower_than n i [] low = refl
times_lower_than n i (p ∷ ps) low = elim (cases_lt p n) [
  | inl less ↦
      let test : nat_lt p n ≡ true = grind (arith, nat_tests, less) in
      rw test (omega (arith, times_lower_than n i ps low))
  | inr not_less ↦
      let test : nat_lt p n ≡ false = grind (arith, nat_tests, not_less) in
      rw test (times_lower_than n i ps low ∙ sym (no_time i p ps (λ is. omega (arith, is, low, not_less))))
]

pub order_undone : (n : ℕ) (made : List PageModel) (places : List ℕ) → IsOrderOf made places → IsOrderOf (take n made) (lower_than n places)
order_undone n made places so = record {
  ascending = lie_lower_than 0 n made places so.ascending;
  inside = inside_lower_than n made places so.inside;
  each = λ i less. omega
      (arith, times_lower_than n i places (omega (arith, less, length-take n made)), so.each i (omega (arith, less, length-take n made)));
}

-- ---- how many they are

pub few_made : (made : List PageModel) (most : ℕ) → AreOnce (numbers_of made) → AllByRecursion (λ (m : PageModel). m.page < most) made → length made ≤ most
few_made made most once inside =
    omega (arith, length-map made (λ (m : PageModel). m.page), pages_are_few most (numbers_of made) once (each_number (λ n. n < most) made inside))

pub inserted : {V E : Type 0} (items xs places : List ℕ) (at x : ℕ) (n : ℕ) (result : Result V E) (v : V)
    → items ≡ (if is_ok result then insert xs at x else xs) → result ≡ Ok v → xs ≡ places → x ≡ n → items ≡ insert places at n
inserted {V = V} {E = E} items xs places at x n result v is ok same number =
    is ∙ ap (λ (r : Result V E). if is_ok r then insert xs at x else xs) ok ∙ (λ i. insert (same i) at (number i))
