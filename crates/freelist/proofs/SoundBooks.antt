-- What each call keeps of a sound book.
use Rattle.std.proofs.Common.{◌≡◌, ◌<◌, ◌≤◌, ◌+◌, ◌-◌, ℕ, zero, suc, Bool, true, false, List, [], ◌∷◌, ◌++◌, length, sym, ap, ◌∙◌, arith, refl, inl, inr, set}
use Rattle.std.proofs.Common.{replicate}
use Rattle.std.specs.Prelude.{◌&&◌, get_or, not, nat_lt}
use Rattle.std.specs.List.{list_all}
use Rattle.std.proofs.lemmas.Bool.Decides.{nat_tests}
use Rattle.std.proofs.lemmas.Bool.{cases_eq, cases_Bool}
use Rattle.std.proofs.lemmas.List.{get_or-set_other, get_or-set_same, get_or_default, get_or_past, append-nil, append_assoc, take-append-drop}
use Rattle.std.proofs.lemmas.List.Folds.{list_any-append, list_all-append}
use Rattle.freelist.proofs.LeastLaws.{least_is_free}
use Rattle.freelist.proofs.ListedBooks.{with_state, used_is as all_used, free_is as all_free}
use Rattle.std.proofs.Common.{subst, take, drop}
use Rattle.freelist.proofs.Rewinding.{free_is, used_is, below, one_same, one_other, put_back, CanRewind-push, CanRewind-pop, untouched}
use Rattle.freelist.specs.Book.{undo, rewind, undone, CanRewind, Book, with_used, opened, is_free, is_in_use, is_free_state, is_used_state, is_pinned}
use Rattle.freelist.specs.Book.{retired_in, kept, freed, taken, retired, committed, without}
use Rattle.freelist.specs.FreeList.{opened_by, with_free}
use Rattle.freelist.specs.Sound.{one_of, times, is_free_by_definition, retired_count, IsSound, StaysSound}
use Rattle.freelist.specs.declared.states.PageState.{PageState}
use Rattle.freelist.specs.declared.states.PageState.TheVariants as states
use Rattle.freelist.specs.declared.turns.Retirement.{Retirement}
use Rattle.freelist.specs.declared.turns.Change.{Change}
use Rattle.freelist.specs.declared.turns.Change.TheVariants as changes

-- ---- what a page is

one_at_most : (s : PageState) → retired_count s ≤ 1
one_at_most states.Free = omega arith
one_at_most states.InUse = omega arith
one_at_most states.Retired = omega arith

by_state : (s : PageState) → is_free_state s ≡ (not (is_used_state s) && not (nat_lt 0 (retired_count s)))
by_state states.Free = refl
by_state states.InUse = refl
by_state states.Retired = refl

-- ---- how often a page is listed

pub times-append : (page : ℕ) (xs ys : List Retirement) → times page (xs ++ ys) ≡ times page xs + times page ys
times-append page [] ys = omega arith
times-append page (r ∷ xs) ys = omega (arith, times-append page xs ys)

pub retired_in_taken : (turn : List Change) (p : ℕ) → retired_in (turn ++ changes.Taken p ∷ []) ≡ retired_in turn
retired_in_taken [] p = refl
retired_in_taken (changes.Taken q ∷ turn) p = retired_in_taken turn p
retired_in_taken (changes.Retired q v ∷ turn) p = ap (λ (rs : List Retirement). record { page = q; version = v } ∷ rs) (retired_in_taken turn p)

pub retired_in_retired : (turn : List Change) (p v : ℕ)
    → retired_in (turn ++ changes.Retired p v ∷ []) ≡ retired_in turn ++ record { page = p; version = v } ∷ []
retired_in_retired [] p v = refl
retired_in_retired (changes.Taken q ∷ turn) p v = retired_in_retired turn p v
retired_in_retired (changes.Retired q w ∷ turn) p v = ap (λ (rs : List Retirement). record { page = q; version = w } ∷ rs) (retired_in_retired turn p v)

-- ---- what was retired is freed or kept

freed_page : (pages : List PageState) (p : ℕ) → get_or (set pages p states.Free) p states.Free ≡ states.Free
freed_page [] p = refl
freed_page (x ∷ pages) zero = refl
freed_page (x ∷ pages) (suc p) = freed_page pages p

-- a page that was listed is freed, and is listed no more
freed_listed : (r : Retirement) (rs : List Retirement) (others : ℕ → ℕ) (pages : List PageState)
    → ((page : ℕ) → others page + times page (r ∷ rs) ≡ retired_count (get_or pages page states.Free))
    → (k : ℕ) → others k + times k rs ≡ retired_count (get_or (set pages r.page states.Free) k states.Free)
freed_listed r rs others pages h k = elim (cases_eq k r.page) [
  | inl same ↦
      let none : retired_count (get_or (set pages r.page states.Free) k states.Free) ≡ 0 =
      ap (λ (j : ℕ). retired_count (get_or (set pages r.page states.Free) j states.Free)) same ∙ ap retired_count (freed_page pages r.page) in
      omega (arith, h k, one_same k r same, one_at_most (get_or pages k states.Free), none)
  | inr other ↦ omega (arith, h k, one_other k r other, ap retired_count (get_or-set_other pages r.page k states.Free states.Free other))
]

pub settled : (pins : List ℕ) (rs : List Retirement) (others : ℕ → ℕ) (pages : List PageState)
    → ((page : ℕ) → others page + times page rs ≡ retired_count (get_or pages page states.Free))
    → (page : ℕ) → others page + times page (kept pins rs) ≡ retired_count (get_or (freed pins rs pages) page states.Free)
settled pins [] others pages h page = h page
settled pins (r ∷ rs) others pages h page = elim (cases_Bool (is_pinned pins r.version)) [
  | inl so ↦ rw so (
      let later : (others page + one_of page r) + times page (kept pins rs) ≡ retired_count (get_or (freed pins rs pages) page states.Free) =
      settled pins rs (λ k. others k + one_of k r) pages (λ k. omega (arith, h k)) page in
      omega (arith, later))
  | inr not_so ↦ rw not_so (settled pins rs others (set pages r.page states.Free) without_it page)
]
  where
    without_it : (k : ℕ) → others k + times k rs ≡ retired_count (get_or (set pages r.page states.Free) k states.Free)
    without_it = freed_listed r rs others pages h

used_page : (pages : List PageState) (p : ℕ) → retired_count (get_or (set pages p states.InUse) p states.Free) ≡ 0
used_page [] p = refl
used_page (x ∷ pages) zero = refl
used_page (x ∷ pages) (suc p) = used_page pages p

retired_is : (s : PageState) → 1 ≤ retired_count s → s ≡ states.Retired
retired_is states.Free h = absurd (omega (arith, h))
retired_is states.InUse h = absurd (omega (arith, h))
retired_is states.Retired h = refl

-- what is freed while a turn runs is none of the turn's pages
freed_undoable : (pins : List ℕ) (rs : List Retirement) (others : ℕ → ℕ) (turn : List Change) (pages : List PageState)
    → ((page : ℕ) → (others page + times page (retired_in turn)) + times page rs ≡ retired_count (get_or pages page states.Free))
    → CanRewind turn pages → CanRewind turn (freed pins rs pages)
freed_undoable pins [] others turn pages h can = can
freed_undoable pins (r ∷ rs) others turn pages h can = elim (cases_Bool (is_pinned pins r.version)) [
  | inl so ↦ rw so (freed_undoable pins rs (λ k. others k + one_of k r) turn pages (λ k. omega (arith, h k)) can)
  | inr not_so ↦ rw not_so (freed_undoable pins rs others turn (set pages r.page states.Free)
      (freed_listed r rs (λ k. others k + times k (retired_in turn)) pages h)
      (untouched turn pages r.page (retired_is (get_or pages r.page states.Free) (omega (arith, h r.page, one_same r.page r refl)))
      (omega (arith, h r.page, one_same r.page r refl, one_at_most (get_or pages r.page states.Free))) can).can)
]

abbrev are_pinned : List ℕ → List Retirement → Bool
are_pinned pins rs = list_all (λ r. is_pinned pins r.version) rs

kept_pinned : (pins : List ℕ) (rs : List Retirement) → are_pinned pins (kept pins rs) ≡ true
kept_pinned pins [] = refl
kept_pinned pins (r ∷ rs) = elim (cases_Bool (is_pinned pins r.version)) [
  | inl so ↦ rw so (rw so (kept_pinned pins rs))
  | inr not_so ↦ rw not_so (kept_pinned pins rs)
]

pub kept_same : (pins : List ℕ) (rs : List Retirement) → are_pinned pins rs ≡ true → kept pins rs ≡ rs
kept_same pins [] h = refl
kept_same pins (r ∷ rs) h = elim (cases_Bool (is_pinned pins r.version)) [
  | inl so ↦ rw so (ap (λ (xs : List Retirement). r ∷ xs) (kept_same pins rs (rw so at h)))
  | inr not_so ↦ absurd (let never : false ≡ true = rw not_so at h in cc)
]

more_pinned : (pins : List ℕ) (pin : ℕ) (rs : List Retirement) → are_pinned pins rs ≡ true → are_pinned (pins ++ pin ∷ []) rs ≡ true
more_pinned pins pin [] h = refl
more_pinned pins pin (r ∷ rs) h = elim (cases_Bool (is_pinned pins r.version)) [
  | inl so ↦
      let still : is_pinned (pins ++ pin ∷ []) r.version ≡ true = list_any-append _ pins (pin ∷ []) ∙ rw so refl in
      rw still (more_pinned pins pin rs (rw so at h))
  | inr not_so ↦ absurd (let never : false ≡ true = rw not_so at h in cc)
]

-- ---- each call

taken_sound : (b : Book) (p : ℕ) → is_free_state (get_or b.states p states.Retired) ≡ true → IsSound b → IsSound (taken p b)
taken_sound b p free sound = record {
  listed = listed;
  needed = sound.needed;
  undoable = CanRewind-push b.turn (changes.Taken p) (set b.states p states.InUse) (get_or-set_same b.states p states.InUse states.Retired within)
      (subst (CanRewind b.turn) (sym (put_back b.states p states.Free states.InUse was)) sound.undoable);
}
  where
    was : get_or b.states p states.Retired ≡ states.Free
    was = free_is (get_or b.states p states.Retired) free

    within : p < length b.states
    within = below b.states p states.Free was (λ e. cc)

    listed : (page : ℕ)
        → times page b.waiting
        + times page (retired_in (b.turn ++ changes.Taken p ∷ [])) ≡ retired_count (get_or (set b.states p states.InUse) page states.Free)
    listed page =
        let turn : times page (retired_in (b.turn ++ changes.Taken p ∷ [])) ≡ times page (retired_in b.turn) = ap (times page) (retired_in_taken b.turn p) in
        elim (cases_eq page p) [
          | inl same ↦
              let now : retired_count (get_or (set b.states p states.InUse) page states.Free) ≡ 0 =
              ap (λ (k : ℕ). retired_count (get_or (set b.states p states.InUse) k states.Free)) same
              ∙ ap retired_count (get_or-set_same b.states p states.InUse states.Free within) in
              let before : retired_count (get_or b.states page states.Free) ≡ 0 =
              ap (λ (k : ℕ). retired_count (get_or b.states k states.Free)) same
              ∙ ap retired_count (get_or_default b.states p states.Free states.Retired within ∙ was) in
              omega (arith, sound.listed page, turn, now, before)
          | inr other ↦ omega (arith, sound.listed page, turn, ap retired_count (get_or-set_other b.states p page states.InUse states.Free other))
        ]

retired_sound : (b : Book) (p v : ℕ) → IsSound b → IsSound (retired p v b)
retired_sound b p v sound = elim (cases_Bool (is_in_use b.states p)) [
  | inl so ↦ rw so (used so)
  | inr not_so ↦ rw not_so sound
]
  where
    used : is_in_use b.states p ≡ true → IsSound (record b { states = set b.states p states.Retired; turn = b.turn ++ changes.Retired p v ∷ [] })
    used so = record {
      listed = listed;
      needed = sound.needed;
      undoable = CanRewind-push b.turn (changes.Retired p v) (set b.states p states.Retired) (get_or-set_same b.states p states.Retired states.Free within)
          (subst (CanRewind b.turn) (sym (put_back b.states p states.InUse states.Retired was)) sound.undoable);
    }
      where
        was : get_or b.states p states.Retired ≡ states.InUse
        was = used_is (get_or b.states p states.Retired) so

        within : p < length b.states
        within = below b.states p states.InUse was (λ e. cc)

        listed : (page : ℕ)
            → times page b.waiting
            + times page (retired_in (b.turn ++ changes.Retired p v ∷ [])) ≡ retired_count (get_or (set b.states p states.Retired) page states.Free)
        listed page =
            let turn : times page (retired_in (b.turn ++ changes.Retired p v ∷ [])) ≡ times page (retired_in b.turn)
            + (one_of page (record { page = p; version = v }) + 0) =
            ap (times page) (retired_in_retired b.turn p v) ∙ times-append page (retired_in b.turn) (record { page = p; version = v } ∷ []) in
            elim (cases_eq page p) [
              | inl same ↦
                  let now : retired_count (get_or (set b.states p states.Retired) page states.Free) ≡ 1 =
                  ap (λ (k : ℕ). retired_count (get_or (set b.states p states.Retired) k states.Free)) same
                  ∙ ap retired_count (get_or-set_same b.states p states.Retired states.Free within) in
                  let before : retired_count (get_or b.states page states.Free) ≡ 0 =
                  ap (λ (k : ℕ). retired_count (get_or b.states k states.Free)) same
                  ∙ ap retired_count (get_or_default b.states p states.Free states.Retired within ∙ was) in
                  omega (arith, sound.listed page, turn, now, before, one_same page (record { page = p; version = v }) same)
              | inr other ↦ omega (
                arith,
                sound.listed page,
                turn,
                one_other page (record { page = p; version = v }) other,
                ap retired_count (get_or-set_other b.states p page states.Retired states.Free other),
              )
            ]

committed_sound : (b : Book) (version : ℕ) → IsSound b → IsSound (committed version b)
committed_sound b version sound = record {
  listed = λ page. omega (
    arith,
    settled b.pins (retired_in b.turn) (λ k. times k b.waiting) b.states sound.listed page,
    times-append page b.waiting (kept b.pins (retired_in b.turn)),
  );
  needed = list_all-append _ b.waiting (kept b.pins (retired_in b.turn)) ∙ rw sound.needed (kept_pinned b.pins (retired_in b.turn));
  undoable = tt;
}

unpinned_sound : (b : Book) (pins : List ℕ) → IsSound b
    → IsSound (record b { states = freed pins b.waiting b.states; waiting = kept pins b.waiting; pins = pins })
unpinned_sound b pins sound = record {
  listed = λ page. omega (arith, settled pins b.waiting (λ k. times k (retired_in b.turn)) b.states (λ k. omega (arith, sound.listed k)) page);
  needed = kept_pinned pins b.waiting;
  undoable = freed_undoable pins b.waiting (λ _. 0) b.turn b.states (λ k. omega (arith, sound.listed k)) sound.undoable;
}

-- a change is taken back
popped_sound : (b : Book) (front : List Change) (x : Change) (pages : List PageState) → IsSound (record b { states = pages; turn = front ++ x ∷ [] })
    → IsSound (record b { states = undo x pages; turn = front })
popped_sound b front
    (changes.Taken p) pages sound = record { listed = listed; needed = sound.needed; undoable = (CanRewind-pop front (changes.Taken p) pages sound.undoable).1 }
  where
    listed : (page : ℕ) → times page b.waiting + times page (retired_in front) ≡ retired_count (get_or (set pages p states.Free) page states.Free)
    listed page =
        let turn : times page (retired_in (front ++ changes.Taken p ∷ [])) ≡ times page (retired_in front) = ap (times page) (retired_in_taken front p) in
        let was : get_or pages p states.Retired ≡ states.InUse = (CanRewind-pop front (changes.Taken p) pages sound.undoable).0 in
        elim (cases_eq page p) [
          | inl same ↦
              let within : p < length pages = below pages p states.InUse was (λ e. cc) in
              let now : retired_count (get_or (set pages p states.Free) page states.Free) ≡ 0 =
              ap (λ (k : ℕ). retired_count (get_or (set pages p states.Free) k states.Free)) same ∙ ap retired_count (freed_page pages p) in
              let before : retired_count (get_or pages page states.Free) ≡ 0 =
              ap (λ (k : ℕ). retired_count (get_or pages k states.Free)) same
              ∙ ap retired_count (get_or_default pages p states.Free states.Retired within ∙ was) in
              omega (arith, sound.listed page, turn, now, before)
          | inr other ↦ omega (arith, sound.listed page, turn, ap retired_count (get_or-set_other pages p page states.Free states.Free other))
        ]
popped_sound b front
    (changes.Retired p v) pages sound = record
    { listed = listed; needed = sound.needed; undoable = (CanRewind-pop front (changes.Retired p v) pages sound.undoable).1 }
  where
    listed : (page : ℕ) → times page b.waiting + times page (retired_in front) ≡ retired_count (get_or (set pages p states.InUse) page states.Free)
    listed page =
        let turn : times page (retired_in (front ++ changes.Retired p v ∷ [])) ≡ times page (retired_in front)
        + (one_of page (record { page = p; version = v }) + 0) =
        ap (times page) (retired_in_retired front p v) ∙ times-append page (retired_in front) (record { page = p; version = v } ∷ []) in
        let was : get_or pages p states.Free ≡ states.Retired = (CanRewind-pop front (changes.Retired p v) pages sound.undoable).0 in
        elim (cases_eq page p) [
          | inl same ↦
              let now : retired_count (get_or (set pages p states.InUse) page states.Free) ≡ 0 =
              ap (λ (k : ℕ). retired_count (get_or (set pages p states.InUse) k states.Free)) same ∙ used_page pages p in
              let before : retired_count (get_or pages page states.Free) ≡ 1 =
              ap (λ (k : ℕ). retired_count (get_or pages k states.Free)) same ∙ ap retired_count was in
              omega (arith, sound.listed page, turn, now, before, one_same page (record { page = p; version = v }) same)
          | inr other ↦ omega (
            arith,
            sound.listed page,
            turn,
            one_other page (record { page = p; version = v }) other,
            ap retired_count (get_or-set_other pages p page states.InUse states.Free other),
          )
        ]

rewound_sound : (b : Book) (front later : List Change) (pages : List PageState) → IsSound (record b { states = pages; turn = front ++ later })
    → IsSound (record b { states = rewind later pages; turn = front })
rewound_sound b front [] pages sound = subst (λ (turn : List Change). IsSound (record b { states = pages; turn = turn })) (append-nil front) sound
rewound_sound b front (x ∷ later) pages sound =
    popped_sound b front x (rewind later pages)
    (rewound_sound b (front ++ x ∷ []) later pages
    (subst (λ (turn : List Change). IsSound (record b { states = pages; turn = turn })) (sym (append_assoc front (x ∷ []) later)) sound))

undone_sound : (b : Book) (mark : ℕ) → IsSound b → IsSound (undone mark b)
undone_sound b mark sound =
    rewound_sound b (take mark b.turn) (drop mark b.turn) b.states
    (subst (λ (turn : List Change). IsSound (record b { turn = turn })) (sym (take-append-drop mark b.turn)) sound)

pub stays_sound : (b : Book) → IsSound b → StaysSound b
stays_sound b sound = record {
  taken = λ p e. taken_sound b p (least_is_free b.states p e) sound;
  refused = record { listed = sound.listed; needed = sound.needed; undoable = sound.undoable };
  retired = λ p v. retired_sound b p v sound;
  committed = λ v. committed_sound b v sound;
  pinned = λ v. record { listed = sound.listed; needed = more_pinned b.pins v b.waiting sound.needed; undoable = sound.undoable };
  unpinned = λ v. unpinned_sound b (without v b.pins) sound;
  undone = λ mark. undone_sound b mark sound;
}

-- ---- opening

abbrev IsUnretired : List PageState → Type 0
IsUnretired pages = (page : ℕ) → retired_count (get_or pages page states.Free) ≡ 0

unretired_front : (s : PageState) → retired_count s ≡ 0 → (n : ℕ) (rest : List PageState) → IsUnretired rest → IsUnretired (replicate n s ++ rest)
unretired_front s none zero rest behind page = behind page
unretired_front s none (suc n) rest behind zero = none
unretired_front s none (suc n) rest behind (suc page) = unretired_front s none n rest behind page

unretired_all : (n : ℕ) → IsUnretired (replicate n states.Free)
unretired_all zero page = refl
unretired_all (suc n) zero = refl
unretired_all (suc n) (suc page) = unretired_all n page

unretired_set : (s : PageState) → retired_count s ≡ 0 → (pages : List PageState) (p : ℕ) → IsUnretired pages → IsUnretired (set pages p s)
unretired_set s none [] p are page = refl
unretired_set s none (x ∷ pages) zero are zero = none
unretired_set s none (x ∷ pages) zero are (suc page) = are (suc page)
unretired_set s none (x ∷ pages) (suc p) are zero = are 0
unretired_set s none (x ∷ pages) (suc p) are (suc page) = unretired_set s none pages p (λ k. are (suc k)) page

unretired_with : (s : PageState) → retired_count s ≡ 0 → (ps : List ℕ) (pages : List PageState) → IsUnretired pages → IsUnretired (with_state s ps pages)
unretired_with s none [] pages are = are
unretired_with s none (p ∷ ps) pages are = unretired_with s none ps (set pages p s) (unretired_set s none pages p are)

new_sound : (pages other : List PageState) (version : ℕ) → pages ≡ other → IsUnretired other
    → IsSound (record { states = pages; waiting = []; turn = []; pins = []; version = version; failed_allocations = 0 })
new_sound pages other version same are = record {
  listed = λ page. omega (arith, are page, ap (λ (ps : List PageState). retired_count (get_or ps page states.Free)) same);
  needed = refl;
  undoable = tt;
}

pub opens_sound : (in_use : List ℕ) (count version : ℕ) → IsSound (opened in_use count version)
opens_sound in_use count version =
    let base : List PageState = replicate count states.Free in
    new_sound (with_used in_use base) (with_state states.InUse in_use base) version (all_used in_use base)
    (unretired_with states.InUse refl in_use base (unretired_all count))

pub listed_is_sound : (named : List ℕ) (page_count limit version : ℕ) → IsSound (opened_by named page_count limit version)
listed_is_sound named page_count limit version =
    let base : List PageState = replicate page_count states.InUse ++ replicate (limit - page_count) states.Free in
    new_sound (with_free (0 ∷ named) base) (with_state states.Free (0 ∷ named) base) version (all_free (0 ∷ named) base)
    (unretired_with states.Free refl (0 ∷ named) base
    (unretired_front states.InUse refl page_count (replicate (limit - page_count) states.Free) (unretired_all (limit - page_count))))

-- ---- the definition

pub free_by_definition : (b : Book) → IsSound b → (page : ℕ) → is_free b.states page ≡ is_free_by_definition b page
free_by_definition b sound page = elim (cases_Bool (nat_lt page (length b.states))) [
  | inl so ↦
      let within : page < length b.states = grind (arith, nat_tests) in
      let n : ℕ = times page (retired_in b.turn) + times page (kept b.pins b.waiting) in
      let listed : times page (retired_in b.turn) + times page (kept b.pins b.waiting) ≡ retired_count (get_or b.states page states.Retired) =
      ap (λ (rs : List Retirement). times page (retired_in b.turn) + times page rs) (kept_same b.pins b.waiting sound.needed)
      ∙ omega (arith, sound.listed page) ∙ ap retired_count (get_or_default b.states page states.Free states.Retired within) in
      rw (so, listed, by_state (get_or b.states page states.Retired)) refl
  | inr not_so ↦
      let past : length b.states ≤ page = grind (arith, nat_tests) in
      rw (not_so, get_or_past b.states page states.Retired past) refl
]
