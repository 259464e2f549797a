-- The book that a list tells is that of the pages in use.
use Rattle.std.proofs.Common.{◌≡◌, ◌<◌, ◌≤◌, ◌+◌, ◌-◌, ℕ, true, false, List, [], ◌∷◌, ◌++◌, length, sym, ap, ◌∙◌, arith, refl, inl, inr, set, replicate}
use Rattle.std.specs.Prelude.{get_or, nat_lt, ◌==◌}
use Rattle.std.proofs.lemmas.Bool.Decides.{nat_tests}
use Rattle.std.proofs.lemmas.Bool.{cases_eq, cases_Bool}
use Rattle.std.proofs.lemmas.List.{get_or-set_other, get_or-set_same, get_or-replicate, get_or_append_left, get_or-append_right, same_lists}
use Rattle.std.proofs.lemmas.List.{length-set, length-replicate}
use Rattle.std.proofs.Common.{length-append, zero, suc}
use Rattle.freelist.specs.Book.{is_free, opened, with_used}
use Rattle.freelist.specs.FreeList.{IsPartition, Part, named_by, opened_by, pages_of, room_for, times_in, with_free}
use Rattle.freelist.specs.declared.states.PageState.{PageState}
use Rattle.freelist.specs.declared.states.PageState.TheVariants as states
use Rattle.freelist.proofs.Marking.{times_in-append}

some_there : (n : ℕ) → 0 < n → nat_lt 0 n ≡ true
some_there n h = grind (arith, nat_tests)

none_there : (n : ℕ) → n ≡ 0 → nat_lt 0 n ≡ false
none_there n h = grind (arith, nat_tests)

-- what a page is after pages were set to a state one after the other
abbrev pub with_state : PageState → List ℕ → List PageState → List PageState
with_state s [] pages = pages
with_state s (page ∷ rest) pages = with_state s rest (set pages page s)

pub used_is : (xs : List ℕ) (pages : List PageState) → with_used xs pages ≡ with_state states.InUse xs pages
used_is [] pages = refl
used_is (x ∷ xs) pages = used_is xs (set pages x states.InUse)

pub free_is : (xs : List ℕ) (pages : List PageState) → with_free xs pages ≡ with_state states.Free xs pages
free_is [] pages = refl
free_is (x ∷ xs) pages = free_is xs (set pages x states.Free)

pub length_with : (s : PageState) (xs : List ℕ) (pages : List PageState) → length (with_state s xs pages) ≡ length pages
length_with s [] pages = refl
length_with s (x ∷ xs) pages = length_with s xs (set pages x s) ∙ length-set pages x s

pub stays : (s : PageState) (xs : List ℕ) (pages : List PageState) (p : ℕ) (d : PageState) → times_in p xs ≡ 0
    → get_or (with_state s xs pages) p d ≡ get_or pages p d
stays s [] pages p d none = refl
stays s (x ∷ xs) pages p d none = elim (cases_eq p x) [
  | inl same ↦
      let eq : (p == x) ≡ true = grind (arith, nat_tests) in
      absurd (omega (arith, rw eq at none))
  | inr other ↦ stays s xs (set pages x s) p d (omega (arith, none)) ∙ get_or-set_other pages x p s d other
]

pub becomes : (s : PageState) (xs : List ℕ) (pages : List PageState) (p : ℕ) (d : PageState) → p < length pages → 0 < times_in p xs
    → get_or (with_state s xs pages) p d ≡ s
becomes s [] pages p d within some = absurd (omega (arith, some))
becomes s (x ∷ xs) pages p d within some = elim (cases_Bool (nat_lt 0 (times_in p xs))) [
  | inl later ↦
      let more : 0 < times_in p xs = grind (arith, nat_tests) in
      becomes s xs (set pages x s) p d (omega (arith, within, length-set pages x s)) more
  | inr not_later ↦
      let no_more : times_in p xs ≡ 0 = grind (arith, nat_tests) in
      elim (cases_eq p x) [
        | inl same ↦
            stays s xs (set pages x s) p d no_more
            ∙ ap (λ (k : ℕ). get_or (set pages x s) k d) same
            ∙ get_or-set_same pages x s d (omega (arith, within, same))
        | inr other ↦
            let eq : (p == x) ≡ false = grind (arith, nat_tests) in
            absurd (omega (arith, rw eq at some, no_more))
      ]
]

pub room_is : (page_count page : ℕ) → 0 < page → page < page_count → room_for page_count page ≡ 1
room_is page_count page some within =
    let first : nat_lt 0 page ≡ true = grind (arith, nat_tests) in
    let last : nat_lt page page_count ≡ true = grind (arith, nat_tests) in
    rw (first, last) refl

pub room_past : (page_count page : ℕ) → page_count ≤ page → room_for page_count page ≡ 0
room_past page_count page past =
    let last : nat_lt page page_count ≡ false = grind (arith, nat_tests) in
    elim (cases_Bool (nat_lt 0 page)) [ inl some ↦ rw (some, last) refl | inr none ↦ rw none refl ]

not_zero : (k : ℕ) (xs : List ℕ) → times_in (suc k) (0 ∷ xs) ≡ times_in (suc k) xs
not_zero k xs =
    let eq : (suc k == 0) ≡ false = grind (arith, nat_tests) in
    rw eq (omega arith)

-- ---- how long an opened book is

abbrev used_then_free : ℕ → ℕ → List PageState
used_then_free page_count limit = replicate page_count states.InUse ++ replicate (limit - page_count) states.Free

length-used_then_free : (page_count limit : ℕ) → page_count ≤ limit → length (used_then_free page_count limit) ≡ limit
length-used_then_free page_count limit large = omega (
  arith,
  large,
  length-append (replicate page_count states.InUse) (replicate (limit - page_count) states.Free),
  length-replicate page_count states.InUse,
  length-replicate (limit - page_count) states.Free,
)

pub length-opened : (in_use : List ℕ) (limit version : ℕ) → length (opened in_use limit version).states ≡ limit
length-opened in_use limit version =
    let base : List PageState = replicate limit states.Free in
    ap length (used_is in_use base) ∙ length_with states.InUse in_use base ∙ length-replicate limit states.Free

pub length-opened_by : (named : List ℕ) (page_count limit version : ℕ) → page_count ≤ limit → length (opened_by named page_count limit version).states ≡ limit
length-opened_by named page_count limit version large =
    let base : List PageState = used_then_free page_count limit in
    ap length (free_is (0 ∷ named) base) ∙ length_with states.Free (0 ∷ named) base ∙ length-used_then_free page_count limit large

-- ---- the two books are one

module _ (page_count limit version : ℕ) (in_use : List ℕ) (parts : List Part) (all : IsPartition page_count in_use parts)
    (large : page_count ≤ limit) where
  abbrev used : List PageState
  used = with_state states.InUse (in_use ++ pages_of parts) (replicate limit states.Free)

  sum : (p : ℕ) → times_in p (in_use ++ pages_of parts) + times_in p (named_by parts) ≡ room_for page_count p
  sum p = omega (
    arith,
    all p,
    times_in-append p in_use (pages_of parts ++ named_by parts),
    times_in-append p (pages_of parts) (named_by parts),
    times_in-append p in_use (pages_of parts),
  )

  free_there : (p : ℕ) (d : PageState) → p < limit → times_in p (in_use ++ pages_of parts) ≡ 0 → get_or used p d ≡ states.Free
  free_there p d within none =
      stays states.InUse (in_use ++ pages_of parts) (replicate limit states.Free) p d none ∙ get_or-replicate limit p states.Free d within

  used_there : (p : ℕ) (d : PageState) → p < limit → 0 < times_in p (in_use ++ pages_of parts) → get_or used p d ≡ states.InUse
  used_there p d within some =
      becomes states.InUse (in_use ++ pages_of parts) (replicate limit states.Free) p d
      (omega (arith, within, length-replicate limit states.Free)) some

  complement : (page : ℕ) → page < page_count → is_free used page ≡ nat_lt 0 (times_in page (named_by parts))
  complement zero within = sym (none_there (times_in 0 (named_by parts)) (omega (arith, sum 0)))
  complement (suc k) within = elim (cases_Bool (nat_lt 0 (times_in (suc k) (named_by parts)))) [
    | inl named ↦
        let first : nat_lt 0 (suc k) ≡ true = some_there (suc k) (omega arith) in
        let more : 0 < times_in (suc k) (named_by parts) = grind (arith, nat_tests) in
        let none : times_in (suc k) (in_use ++ pages_of parts) ≡ 0 =
        omega (arith, sum (suc k), room_is page_count (suc k) (omega arith) within, more) in
        rw (first, free_there (suc k) states.Retired (omega (arith, within, large)) none, named) refl
    | inr not_named ↦
        let first : nat_lt 0 (suc k) ≡ true = some_there (suc k) (omega arith) in
        let no_more : times_in (suc k) (named_by parts) ≡ 0 = grind (arith, nat_tests) in
        let some : 0 < times_in (suc k) (in_use ++ pages_of parts) =
        omega (arith, sum (suc k), room_is page_count (suc k) (omega arith) within, no_more) in
        rw (first, used_there (suc k) states.Retired (omega (arith, within, large)) some, not_named) refl
  ]

  pub free_is_complement : (page : ℕ) → page < page_count
      → is_free (opened (in_use ++ pages_of parts) limit version).states page ≡ nat_lt 0 (times_in page (named_by parts))
  free_is_complement page within =
      ap (λ (pages : List PageState). is_free pages page) (used_is (in_use ++ pages_of parts) (replicate limit states.Free))
      ∙ complement page within

  abbrev base : List PageState
  base = used_then_free page_count limit

  abbrev listed : List PageState
  listed = with_state states.Free (0 ∷ named_by parts) base

  length-base : length base ≡ limit
  length-base = length-used_then_free page_count limit large

  base_front : (p : ℕ) (d : PageState) → p < page_count → get_or base p d ≡ states.InUse
  base_front p d within =
      get_or_append_left (replicate page_count states.InUse) (replicate (limit - page_count) states.Free) d p
      (omega (arith, within, length-replicate page_count states.InUse))
      ∙ get_or-replicate page_count p states.InUse d within

  base_behind : (p : ℕ) (d : PageState) → page_count ≤ p → p < limit → get_or base p d ≡ states.Free
  base_behind p d past within =
      get_or-append_right (replicate page_count states.InUse) (replicate (limit - page_count) states.Free) page_count p d
      (length-replicate page_count states.InUse) past
      ∙ get_or-replicate (limit - page_count) (p - page_count) states.Free d (omega (arith, past, within))

  same_at : (p : ℕ) (d : PageState) → p < limit → get_or used p d ≡ get_or listed p d
  same_at zero d within =
      free_there 0 d within (omega (arith, sum 0))
      ∙ sym (becomes states.Free (0 ∷ named_by parts) base 0 d (omega (arith, within, length-base)) (omega arith))
  same_at (suc k) d within = elim (cases_Bool (nat_lt (suc k) page_count)) [
    | inl so ↦
        let front : suc k < page_count = grind (arith, nat_tests) in
        elim (cases_Bool (nat_lt 0 (times_in (suc k) (named_by parts)))) [
          | inl named ↦
              let more : 0 < times_in (suc k) (named_by parts) = grind (arith, nat_tests) in
              free_there (suc k) d within (omega (arith, sum (suc k), room_is page_count (suc k) (omega arith) front, more))
              ∙ sym (becomes states.Free (0 ∷ named_by parts) base (suc k) d (omega (arith, within, length-base)) (omega (arith, more)))
          | inr not_named ↦
              let no_more : times_in (suc k) (named_by parts) ≡ 0 = grind (arith, nat_tests) in
              used_there (suc k) d within (omega (arith, sum (suc k), room_is page_count (suc k) (omega arith) front, no_more))
              ∙ sym (base_front (suc k) d front)
              ∙ sym (stays states.Free (0 ∷ named_by parts) base (suc k) d (not_zero k (named_by parts) ∙ no_more))
        ]
    | inr not_so ↦
        let past : page_count ≤ suc k = grind (arith, nat_tests) in
        free_there (suc k) d within (omega (arith, sum (suc k), room_past page_count (suc k) past))
        ∙ sym (base_behind (suc k) d past within)
        ∙ sym (stays states.Free (0 ∷ named_by parts) base (suc k) d
        (omega (arith, not_zero k (named_by parts), sum (suc k), room_past page_count (suc k) past)))
  ]

  length-used : length used ≡ limit
  length-used = length_with states.InUse (in_use ++ pages_of parts) (replicate limit states.Free) ∙ length-replicate limit states.Free

  length-listed : length listed ≡ limit
  length-listed = length_with states.Free (0 ∷ named_by parts) base ∙ length-base

  same_states : used ≡ listed
  same_states = same_lists used listed (length-used ∙ sym length-listed) (λ p d within. same_at p d (omega (arith, within, length-used)))

  pub book_of_partition : opened (in_use ++ pages_of parts) limit version ≡ opened_by (named_by parts) page_count limit version
  book_of_partition =
      ap (λ (pages : List PageState). record {
        states = pages;
        waiting = [];
        turn = [];
        pins = [];
        version = version;
        failed_allocations = 0;
      }) (used_is (in_use ++ pages_of parts) (replicate limit states.Free) ∙ same_states ∙ sym (free_is (0 ∷ named_by parts) base))
