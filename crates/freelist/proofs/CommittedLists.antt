-- The book of a turn that made its list, once it is committed, is the one that the list tells.
use Rattle.std.proofs.Common.{◌≡◌, ◌<◌, ◌≤◌, ◌+◌, ℕ, Bool, true, false, List, [], ◌∷◌, ◌++◌, length, map, sym, ap, ◌∙◌, arith, refl, inl, inr, set}
use Rattle.std.proofs.Common.{replicate}
use Rattle.std.specs.Prelude.{◌==◌, ◌&&◌, get_or, if◌then◌else◌, nat_lt}
use Rattle.std.proofs.lemmas.Bool.Decides.{nat_tests}
use Rattle.std.proofs.lemmas.Bool.{cases_eq, cases_lt, cases_Bool}
use Rattle.std.proofs.lemmas.List.{get_or-set_other, get_or-replicate, get_or_default, length-replicate, length-set, same_lists}
use Rattle.freelist.specs.Book.{Book, committed, freed, is_in_use, is_used_state, kept, retired_in, taken, with_used}
use Rattle.freelist.specs.FreeList.{opened_by, times_in, written}
use Rattle.freelist.specs.ListLaws.{used_below}
use Rattle.freelist.specs.ListWriting.{IsMade, TakesAll, count_with}
use Rattle.freelist.specs.Sound.{IsSound, retired_count, times}
use Rattle.freelist.specs.declared.states.PageState.{PageState}
use Rattle.freelist.specs.declared.states.PageState.TheVariants as states
use Rattle.freelist.specs.declared.turns.Retirement.{Retirement}
use Rattle.freelist.proofs.ListedBooks.{becomes, book_of_partition, length_with, stays, used_is, with_state}
use Rattle.freelist.proofs.MadeLists.{partition, stays_sound_taking, times_used}
use Rattle.freelist.proofs.Marking.{times_in-append}
use Rattle.freelist.proofs.TakenPages.{is_used, least_state}
use Rattle.freelist.proofs.WrittenLists.{written_named, written_pages}

-- 1 for what holds
abbrev one_if : Bool → ℕ
one_if b = if b then 1 else 0

-- ---- what was taken is in use

split_used : (pages : List ℕ) (old new : Book) → TakesAll pages old new → (n : ℕ)
    → times_in n pages + one_if (is_in_use old.states n) ≡ one_if (is_in_use new.states n)
split_used [] old new same n = omega (arith, ap (λ (b : Book). one_if (is_in_use b.states n)) same)
split_used (p ∷ pages) old new takes n = elim (cases_eq n p) [
  | inl same ↦
      let eq : (n == p) ≡ true = grind (arith, nat_tests) in
      let was : one_if (is_in_use old.states n) ≡ 0 =
      ap (λ (k : ℕ). one_if (is_in_use old.states k)) same ∙ ap (λ (s : PageState). one_if (is_used_state s)) (least_state old.states p takes.0) in
      let now : one_if (is_in_use (taken p old).states n) ≡ 1 =
      ap (λ (k : ℕ). one_if (is_in_use (taken p old).states k)) same
      ∙ ap one_if (is_used old (taken p old) p (takes.0, refl) (taken p old).states refl) in
      let one : times_in n (p ∷ pages) ≡ 1 + times_in n pages = rw eq refl in
      omega (arith, one, was, now, split_used pages (taken p old) new takes.1 n)
  | inr other ↦
      let eq : (n == p) ≡ false = grind (arith, nat_tests) in
      let still : is_in_use (taken p old).states n ≡ is_in_use old.states n =
      ap is_used_state (get_or-set_other old.states p n states.InUse states.Retired other) in
      let none : times_in n (p ∷ pages) ≡ 0 + times_in n pages = rw eq refl in
      omega (arith, none, ap one_if still, split_used pages (taken p old) new takes.1 n)
]

-- ---- what else stays

waiting_stays : (pages : List ℕ) (old new : Book) → TakesAll pages old new → new.waiting ≡ old.waiting
waiting_stays [] old new same = ap (λ (b : Book). b.waiting) same
waiting_stays (p ∷ pages) old new takes = waiting_stays pages (taken p old) new takes.1

pins_stay : (pages : List ℕ) (old new : Book) → TakesAll pages old new → new.pins ≡ old.pins
pins_stay [] old new same = ap (λ (b : Book). b.pins) same
pins_stay (p ∷ pages) old new takes = pins_stay pages (taken p old) new takes.1

count_stays : (pages : List ℕ) (old new : Book) → TakesAll pages old new → new.failed_allocations ≡ old.failed_allocations
count_stays [] old new same = ap (λ (b : Book). b.failed_allocations) same
count_stays (p ∷ pages) old new takes = count_stays pages (taken p old) new takes.1

length_stays : (pages : List ℕ) (old new : Book) → TakesAll pages old new → length new.states ≡ length old.states
length_stays [] old new same = ap (λ (b : Book). length b.states) same
length_stays (p ∷ pages) old new takes = length_stays pages (taken p old) new takes.1 ∙ length-set old.states p states.InUse

-- ---- a commit without pins

abbrev retired_pages : List Retirement → List ℕ
retired_pages rs = map (λ (r : Retirement). r.page) rs

kept_none : (rs : List Retirement) → kept [] rs ≡ []
kept_none [] = refl
kept_none (r ∷ rs) = kept_none rs

freed_all : (rs : List Retirement) (pages : List PageState) → freed [] rs pages ≡ with_state states.Free (retired_pages rs) pages
freed_all [] pages = refl
freed_all (r ∷ rs) pages = freed_all rs (set pages r.page states.Free)

same_times : (n : ℕ) (rs : List Retirement) → times n rs ≡ times_in n (retired_pages rs)
same_times n [] = refl
same_times n (r ∷ rs) = elim (cases_eq n r.page) [
  | inl same ↦
      let one : (n == r.page) ≡ true = grind (arith, nat_tests) in
      let other : (r.page == n) ≡ true = grind (arith, nat_tests) in
      rw (one, other) (omega (arith, same_times n rs))
  | inr apart ↦
      let one : (n == r.page) ≡ false = grind (arith, nat_tests) in
      let other : (r.page == n) ≡ false = grind (arith, nat_tests) in
      rw (one, other) (omega (arith, same_times n rs))
]

abbrev settled_state : PageState → PageState
settled_state s = if is_used_state s then states.InUse else states.Free

retired_not_used : (s : PageState) → 0 < retired_count s → states.Free ≡ settled_state s
retired_not_used states.Free h = refl
retired_not_used states.InUse h = absurd (omega (arith, h))
retired_not_used states.Retired h = refl

not_retired : (s : PageState) → retired_count s ≡ 0 → s ≡ settled_state s
not_retired states.Free h = refl
not_retired states.InUse h = refl
not_retired states.Retired h = absurd (omega (arith, h))

module _ (b : Book) (sound : IsSound b) (none : b.waiting ≡ []) where
  freed_state : (n : ℕ) (d : PageState) → n < length b.states
      → get_or (freed [] (retired_in b.turn) b.states) n d ≡ settled_state (get_or b.states n states.Retired)
  freed_state n d within =
      let rs : List Retirement = retired_in b.turn in
      let state : get_or b.states n states.Free ≡ get_or b.states n states.Retired = get_or_default b.states n states.Free states.Retired within in
      let listed : times_in n (retired_pages rs) ≡ retired_count (get_or b.states n states.Retired) =
      omega (arith, sound.listed n, ap (times n) none, same_times n rs, ap retired_count state) in
      ap (λ (ps : List PageState). get_or ps n d) (freed_all rs b.states)
      ∙ elim (cases_lt 0 (times_in n (retired_pages rs))) [
        | inl some ↦
            becomes states.Free (retired_pages rs) b.states n d within some
            ∙ retired_not_used (get_or b.states n states.Retired) (omega (arith, some, listed))
        | inr no_more ↦
            let zero_times : times_in n (retired_pages rs) ≡ 0 = omega (arith, no_more) in
            stays states.Free (retired_pages rs) b.states n d zero_times
            ∙ get_or_default b.states n d states.Retired within
            ∙ not_retired (get_or b.states n states.Retired) (omega (arith, zero_times, listed))
      ]

  length_freed : length (freed [] (retired_in b.turn) b.states) ≡ length b.states
  length_freed =
      ap length (freed_all (retired_in b.turn) b.states) ∙ length_with states.Free (retired_pages (retired_in b.turn)) b.states

-- ---- the book

module _ (page_count version : ℕ) (pages named : List ℕ) (old new : Book) (made : IsMade page_count pages named old new) (sound : IsSound old)
    (no_pins : old.pins ≡ []) (none_waits : old.waiting ≡ []) (fits : count_with page_count pages ≤ length old.states)
    (inside : (page : ℕ) → is_in_use old.states page ≡ true → (0 < page) × (page < count_with page_count pages)) where
  abbrev count : ℕ
  count = count_with page_count pages

  abbrev in_use : List ℕ
  in_use = used_below count old.states ++ pages

  -- the pages in use are those from before, and the list's
  times_in_use : (n : ℕ) → times_in n in_use ≡ one_if (is_in_use new.states n)
  times_in_use n =
      let both : times_in n in_use ≡ times_in n (used_below count old.states) + times_in n pages = times_in-append n (used_below count old.states) pages in
      elim (cases_Bool (is_in_use old.states n)) [
        | inl so ↦
            let there = inside n so in
            let positive : nat_lt 0 n ≡ true = (let h : 0 < n = there.0 in grind (arith, nat_tests)) in
            let below : nat_lt n count ≡ true = (let h : n < count_with page_count pages = there.1 in grind (arith, nat_tests)) in
            let used : times_in n (used_below count old.states) ≡ 1 = times_used n count old.states ∙ rw (below, positive, so) refl in
            omega (arith, both, used, split_used pages old new made.takes n, ap one_if so)
        | inr not_so ↦
            let used : times_in n (used_below count old.states) ≡ 0 = times_used n count old.states ∙ none_there n not_so in
            omega (arith, both, used, split_used pages old new made.takes n, ap one_if not_so)
      ]
    where
      none_there : (k : ℕ) → is_in_use old.states k ≡ false → one_if (nat_lt k count && (nat_lt 0 k && is_in_use old.states k)) ≡ 0
      none_there k not_so = elim (cases_Bool (nat_lt k count)) [
        | inl a ↦ elim (cases_Bool (nat_lt 0 k)) [ inl b ↦ rw (a, b, not_so) refl | inr b ↦ rw (a, b) refl ]
        | inr a ↦ rw a refl
      ]

  long : length new.states ≡ length old.states
  long = length_stays pages old new made.takes

  abbrev used : List PageState
  used = with_state states.InUse in_use (replicate (length old.states) states.Free)

  used_at : (n : ℕ) (d : PageState) → n < length old.states → get_or used n d ≡ settled_state (get_or new.states n states.Retired)
  used_at n d within = elim (cases_Bool (is_in_use new.states n)) [
    | inl so ↦
        becomes states.InUse in_use (replicate (length old.states) states.Free) n d
        (omega (arith, within, length-replicate (length old.states) states.Free)) (omega (arith, times_in_use n, ap one_if so))
        ∙ sym (ap (λ (x : Bool). if x then states.InUse else states.Free) so)
    | inr not_so ↦
        stays states.InUse in_use (replicate (length old.states) states.Free) n d (omega (arith, times_in_use n, ap one_if not_so))
        ∙ get_or-replicate (length old.states) n states.Free d within
        ∙ sym (ap (λ (x : Bool). if x then states.InUse else states.Free) not_so)
  ]

  sound_now : IsSound new
  sound_now = stays_sound_taking pages old new made.takes sound

  none_now : new.waiting ≡ []
  none_now = waiting_stays pages old new made.takes ∙ none_waits

  pins_now : new.pins ≡ []
  pins_now = pins_stay pages old new made.takes ∙ no_pins

  long_freed : length (freed [] (retired_in new.turn) new.states) ≡ length old.states
  long_freed = length_freed new sound_now none_now ∙ long

  states_are : freed new.pins (retired_in new.turn) new.states ≡ (opened_by named count (length old.states) version).states
  states_are =
      ap (λ (ps : List ℕ). freed ps (retired_in new.turn) new.states) pins_now
      ∙ same_lists (freed [] (retired_in new.turn) new.states) used
      (long_freed ∙ sym (length_with states.InUse in_use (replicate (length old.states) states.Free) ∙ length-replicate (length old.states) states.Free))
      (λ n d within. freed_state new sound_now none_now n d (omega (arith, within, long_freed, long))
      ∙ sym (used_at n d (omega (arith, within, long_freed))))
      ∙ sym (used_is in_use (replicate (length old.states) states.Free))
      ∙ ap (λ (ps : List ℕ). with_used (used_below count old.states ++ ps) (replicate (length old.states) states.Free)) (sym (written_pages pages named))
      ∙ ap (λ (b : Book). b.states)
      (book_of_partition count (length old.states) version (used_below count old.states) (written pages named)
      (partition page_count pages named old new made fits) fits)
      ∙ ap (λ (ns : List ℕ). (opened_by ns count (length old.states) version).states) (written_named pages named made.room)

  waiting_is : new.waiting ++ kept new.pins (retired_in new.turn) ≡ []
  waiting_is =
      ap (λ (ws : List Retirement). ws ++ kept new.pins (retired_in new.turn)) none_now
      ∙ ap (λ (ps : List ℕ). kept ps (retired_in new.turn)) pins_now ∙ kept_none (retired_in new.turn)

  pub tells_the_book : committed version new ≡ record (opened_by named count (length old.states) version) { failed_allocations = old.failed_allocations }
  tells_the_book = λ i. record {
    states = states_are i;
    waiting = waiting_is i;
    turn = [];
    pins = pins_now i;
    version = version;
    failed_allocations = count_stays pages old new made.takes i;
  }
