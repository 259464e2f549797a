-- Pages by their numbers, among those that were made and those of them that are written.
use Rattle.std.proofs.Common.{◌≡◌, ◌≢◌, ℕ, zero, suc, ◌+◌, ◌<◌, ◌≤◌, Bool, true, false, List, [], ◌∷◌, ◌++◌, length, take, get_or, refl, sym, ◌∙◌, ap}
use Rattle.std.proofs.Common.{subst, arith}
use Rattle.std.proofs.Common.{inl, inr, Some, None}
use Rattle.std.specs.Prelude.{◌⊎◌, ◌==◌, if◌then◌else◌, reverse, Result, Ok}
use Rattle.std.specs.List.{AllByRecursion, filter}
use Rattle.std.proofs.lemmas.Bool.{cases_Bool, cases_eq}
use Rattle.std.proofs.lemmas.Bool.Decides.{nat_tests}
use Rattle.std.proofs.lemmas.List.{reverse-append, take_more}
use Rattle.page.specs.Cache.{kept}
use Rattle.page.specs.Format.{PageModel}
use Rattle.page.specs.declared.page_cache.PageCache.{PageCache}
use Rattle.page.specs.declared.page_fault.PageFault.{PageFault}
use Rattle.tree_model.specs.Keys.{times}
use Rattle.tree_model.specs.Store.{flag}
use Rattle.freelist.specs.Book.{Book, CanRewind, is_in_use}
use Rattle.freelist.specs.declared.turns.Change.{Change}
use Rattle.roots.specs.Turn.{LieBehind, made_or, numbers_of}
use Rattle.pager.specs.Calls.{Keeps}
use Rattle.pager.specs.Kept.{IsBookFor, takes_of}
use Rattle.pager.specs.Writing.{Forgets, IsAmong, KeepsAll}
use Rattle.pager.proofs.BookLemmas.{no_time, one_time, taken_use}
use Rattle.pager.proofs.ListLemmas.{all_weaker, made_here}

-- ---- the cache

pub among_at : (pages : List PageModel) (i : ℕ) (x d : PageModel) → x ≡ get_or pages i d → i < length pages → IsAmong x pages
among_at [] i x d is lt = absurd (omega (arith, lt))
among_at (m ∷ ms) zero x d is lt = inl is
among_at (m ∷ ms) (suc i) x d is lt = inr (among_at ms i x d is (omega (arith, lt)))

pub keeps_more : (pages : List PageModel) (before mid after : PageCache) (page : ℕ) (x : PageModel) → KeepsAll pages before mid → Keeps page x mid after
    → x.page ≡ page → IsAmong x pages → KeepsAll pages before after
keeps_more pages before mid after page x all keeps named among n found is = elim (keeps n found is) [
  | inl earlier ↦ all n found earlier
  | inr (at, same) ↦ inr (ap (λ (m : PageModel). m.page) same ∙ named ∙ sym at, subst (λ (m : PageModel). IsAmong m pages) (sym same) among)
]

pub all_among : (P : PageModel → Type 0) (xs : List PageModel) (x : PageModel) → AllByRecursion P xs → IsAmong x xs → P x
all_among P [] x all among = absurd among
all_among P (y ∷ ys) x all (inl is) = subst P (sym is) all.0
all_among P (y ∷ ys) x all (inr later) = all_among P ys x all.1 later

-- ---- those that pass a test

pub all_filter : {X : Type 0} (P : X → Type 0) (p : X → Bool) (xs : List X) → AllByRecursion P xs → AllByRecursion P (filter p xs)
all_filter P p [] all = tt
all_filter P p (x ∷ xs) all = elim (cases_Bool (p x)) [
  | inl so ↦ rw so (all.0, all_filter P p xs all.1)
  | inr not_so ↦ rw not_so (all_filter P p xs all.1)
]

pub lie_lower : (low high : ℕ) (xs : List PageModel) → low ≤ high → LieBehind high xs → LieBehind low xs
lie_lower low high [] le lie = tt
lie_lower low high (x ∷ xs) le lie = (omega (arith, le, lie.0), lie.1)

pub lie_filter : (last : ℕ) (p : PageModel → Bool) (xs : List PageModel) → LieBehind last xs → LieBehind last (filter p xs)
lie_filter last p [] lie = tt
lie_filter last p (x ∷ xs) lie = elim (cases_Bool (p x)) [
  | inl so ↦ rw so (lie.0, lie_filter x.page p xs lie.1)
  | inr not_so ↦ rw not_so (lie_lower last x.page (filter p xs) (omega (arith, lie.0)) (lie_filter x.page p xs lie.1))
]

pub behind_among : (last : ℕ) (made : List PageModel) (x : PageModel) → LieBehind last made → IsAmong x made → last < x.page
behind_among last [] x lie among = absurd among
behind_among last (m ∷ ms) x lie (inl is) = omega (arith, lie.0, ap (λ (s : PageModel). s.page) is)
behind_among last (m ∷ ms) x lie (inr later) = omega (arith, lie.0, behind_among m.page ms x lie.1 later)

pub among_filter : (p : PageModel → Bool) (xs : List PageModel) (x : PageModel) → p x ≡ true → IsAmong x xs → IsAmong x (filter p xs)
among_filter p [] x passes among = absurd among
among_filter p (y ∷ ys) x passes (inl is) = let here : p y ≡ true = ap p (sym is) ∙ passes in rw here (inl is)
among_filter p (y ∷ ys) x passes (inr later) = elim (cases_Bool (p y)) [
  | inl so ↦ rw so (inr (among_filter p ys x passes later))
  | inr not_so ↦ rw not_so (among_filter p ys x passes later)
]

-- the page of this number
pub record IsMember (made : List PageModel) (n : ℕ) : Type 0 where
  pub model : PageModel
  pub among : IsAmong model made
  pub is : model.page ≡ n
  pub there : (other : Result PageModel PageFault) → made_or made n other ≡ Ok model
  pub count : 1 ≤ times n (numbers_of made)

later_member : (m : PageModel) (ms : List PageModel) (n : ℕ) → m.page ≢ n → IsMember ms n → IsMember (m ∷ ms) n
later_member m ms n ne r = record {
  model = r.model;
  among = inr r.among;
  is = r.is;
  there = λ other. skip (made_or ms n other) ∙ r.there other;
  count = omega (arith, r.count, no_time n m.page (numbers_of ms) (λ is. ne (sym is)));
}
  where
    skip : (rest : Result PageModel PageFault) → (if m.page == n then Ok m else rest) ≡ rest
    skip rest =
        let test : (m.page == n) ≡ false = grind (arith, nat_tests, ne) in
        ap (λ (b : Bool). if b then Ok m else rest) test

pub member : (made : List PageModel) (n : ℕ) → AllByRecursion (λ (m : PageModel). m.page ≢ n) made ⊎ IsMember made n
member [] n = inl tt
member (m ∷ ms) n = elim (cases_eq m.page n) [
  | inl is ↦ inr (record {
    model = m;
    among = inl refl;
    is = is;
    there = λ other. made_here m ms n other is;
    count = omega (arith, one_time n m.page (numbers_of ms) (sym is));
  })
  | inr ne ↦ elim (member ms n) [
    | inl none ↦ inl (ne, none)
    | inr r ↦ inr (later_member m ms n ne r)
  ]
]

-- ---- counting

pub more_times : (n p : ℕ) (rest : List ℕ) → times n rest ≤ times n (p ∷ rest)
more_times n p rest = omega arith

pub each_counted : (made : List PageModel) → AllByRecursion (λ (m : PageModel). 1 ≤ times m.page (numbers_of made)) made
each_counted [] = tt
each_counted (m ∷ ms) = (
  omega (arith, one_time m.page m.page (numbers_of ms) refl),
  all_weaker (λ (x : PageModel). 1 ≤ times x.page (numbers_of ms)) (λ (x : PageModel). 1 ≤ times x.page (numbers_of (m ∷ ms)))
      (λ x some. omega (arith, some, more_times x.page m.page (numbers_of ms))) ms (each_counted ms),
)

-- a page that isn't in use is none that the turn made
pub free_not_made : (made : List PageModel) (book : Book) → IsBookFor made book → (n : ℕ) → is_in_use book.states n ≡ false
    → AllByRecursion (λ (m : PageModel). m.page ≢ n) made
free_not_made made book booked n unused =
    let can : CanRewind (takes_of made) book.states = subst (λ (turn : List Change). CanRewind turn book.states) booked.turn booked.sound.undoable in
    let none : times n (numbers_of made) ≡ 0 = omega (arith, taken_use made book.states can n, ap flag unused) in
    all_weaker (λ (m : PageModel). 1 ≤ times m.page (numbers_of made)) (λ (m : PageModel). m.page ≢ n)
    (λ m some is. omega (arith, some, none, ap (λ (k : ℕ). times k (numbers_of made)) is)) made (each_counted made)

pub times_append : (n : ℕ) (xs ys : List ℕ) → times n (xs ++ ys) ≡ times n xs + times n ys
times_append n [] ys = omega arith
times_append n (x ∷ xs) ys = omega (arith, times_append n xs ys)

pub times_reverse : (n : ℕ) (xs : List ℕ) → times n (reverse xs) ≡ times n xs
times_reverse n [] = refl
times_reverse n (x ∷ xs) = omega (arith, ap (times n) (reverse-append (x ∷ []) xs), times_append n (reverse xs) (x ∷ []), times_reverse n xs)

-- ---- pages that go out of the cache

pub forgets_more : (pages : List ℕ) (i d : ℕ) (before mid after : PageCache) → i < length pages → Forgets (take i pages) before mid
    → kept after (get_or pages i d) ≡ None → ((n : ℕ) → n ≢ get_or pages i d → kept after n ≡ kept mid n) → Forgets (take (i + 1) pages) before after
forgets_more pages i d before mid after lt so this others n found is = elim (cases_eq n (get_or pages i d)) [
  | inl same ↦ let never : Some found ≡ None = sym is ∙ ap (kept after) same ∙ this in absurd cc
  | inr ne ↦
      let earlier = so n found (sym (others n ne) ∙ is) in
      let none : times n (get_or pages i d ∷ []) ≡ 0 = no_time n (get_or pages i d) [] ne in (
        earlier.0,
        omega (arith, earlier.1, none, ap (times n) (take_more pages i d lt), times_append n (take i pages) (get_or pages i d ∷ [])),
      )
]
