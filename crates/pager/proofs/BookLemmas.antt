-- What a turn makes of the book: pages in use, before and after its commit.
use Rattle.std.proofs.Common.{◌≡◌, ◌≢◌, ℕ, zero, suc, ◌+◌, ◌<◌, ◌≤◌, Bool, true, false, List, [], ◌∷◌, ◌++◌, length, take, map, set, get_or, refl}
use Rattle.std.proofs.Common.{sym, ◌∙◌, ap, subst}
use Rattle.std.proofs.Common.{arith, inl, inr, length-append}
use Rattle.std.specs.Prelude.{◌==◌, ◌&&◌, not, nat_lt, if◌then◌else◌, Result, Ok, Err, OnOk}
use Rattle.std.specs.List.{AllByRecursion}
use Rattle.std.proofs.lemmas.Bool.{cases_Bool, cases_eq}
use Rattle.std.proofs.lemmas.Bool.Decides.{nat_tests}
use Rattle.std.proofs.lemmas.List.{get_or-set_other, get_or-set_same, get_or_default, length-set, take_more}
use Rattle.page.specs.Format.{PageModel}
use Rattle.tree_model.specs.Keys.{times}
use Rattle.tree_model.specs.Reach.{AreOnce}
use Rattle.tree_model.specs.Store.{flag}
use Rattle.freelist.specs.Book.{Book, CanRewind, committed, freed, is_free, is_in_use, is_pinned, is_used_state, pinned, retired, retired_in, rewind, undone}
use Rattle.freelist.specs.Book.{unpinned, without}
use Rattle.freelist.specs.Sound.{IsSound, retired_count, times as listed, waits}
use Rattle.freelist.specs.Undone.{Call, after, retire}
use Rattle.freelist.specs.declared.states.PageState.{PageState}
use Rattle.freelist.specs.declared.states.PageState.TheVariants as states
use Rattle.freelist.specs.declared.turns.Change.{Change}
use Rattle.freelist.specs.declared.turns.Change.TheVariants as changes
use Rattle.freelist.specs.declared.turns.Retirement.{Retirement}
use Rattle.freelist.proofs.Rewinding.{below, one_same, used_is}
use Rattle.freelist.proofs.SoundBooks.{free_by_definition, stays_sound}
use Rattle.freelist.proofs.Undoing.{undone-undone, undoing_leads_back}
use Rattle.roots.specs.Turn.{numbers_of}
use Rattle.pager.specs.Kept.{IsBookFor, takes_of}
use Rattle.pager.specs.Writing.{retired_all}
use Rattle.pager.proofs.ListLemmas.{all_weaker}

-- ---- counting

pub one_time : (n p : ℕ) (rest : List ℕ) → n ≡ p → times n (p ∷ rest) ≡ 1 + times n rest
one_time n p rest is =
    let test : (n == p) ≡ true = grind (arith, nat_tests, is) in
    let one : ℕ = 1 in
    let none : ℕ = 0 in
    ap (λ (b : Bool). (if b then one else none) + times n rest) test

pub no_time : (n p : ℕ) (rest : List ℕ) → n ≢ p → times n (p ∷ rest) ≡ times n rest
no_time n p rest ne =
    let test : (n == p) ≡ false = grind (arith, nat_tests, ne) in
    let one : ℕ = 1 in
    let none : ℕ = 0 in
    ap (λ (b : Bool). (if b then one else none) + times n rest) test ∙ omega arith

pub flag_some : (b : Bool) → 1 ≤ flag b → b ≡ true
flag_some true some = refl
flag_some false some = absurd (omega (arith, some))

pub flag_most : (b : Bool) → flag b ≤ 1
flag_most true = omega arith
flag_most false = omega arith

-- ---- retirements

retired_after : (v : ℕ) (pages : List ℕ) (b : Book) → retired_all v pages b ≡ after (map (λ p. retire p v) pages) b
retired_after v [] b = refl
retired_after v (p ∷ pages) b = retired_after v pages (retired p v b)

same_full : (p v : ℕ) (b : Book) → (retired p v b).failed_allocations ≡ b.failed_allocations
same_full p v b = elim (cases_Bool (is_in_use b.states p)) [ inl so ↦ rw so refl | inr not_so ↦ rw not_so refl ]

same_pins : (p v : ℕ) (b : Book) → (retired p v b).pins ≡ b.pins
same_pins p v b = elim (cases_Bool (is_in_use b.states p)) [ inl so ↦ rw so refl | inr not_so ↦ rw not_so refl ]

same_waiting : (p v : ℕ) (b : Book) → (retired p v b).waiting ≡ b.waiting
same_waiting p v b = elim (cases_Bool (is_in_use b.states p)) [ inl so ↦ rw so refl | inr not_so ↦ rw not_so refl ]

same_length : (p v : ℕ) (b : Book) → length (retired p v b).states ≡ length b.states
same_length p v b = elim (cases_Bool (is_in_use b.states p)) [ inl so ↦ rw so (length-set b.states p states.Retired) | inr not_so ↦ rw not_so refl ]

pub all_full : (v : ℕ) (pages : List ℕ) (b : Book) → (retired_all v pages b).failed_allocations ≡ b.failed_allocations
all_full v [] b = refl
all_full v (p ∷ pages) b = all_full v pages (retired p v b) ∙ same_full p v b

pub all_pins : (v : ℕ) (pages : List ℕ) (b : Book) → (retired_all v pages b).pins ≡ b.pins
all_pins v [] b = refl
all_pins v (p ∷ pages) b = all_pins v pages (retired p v b) ∙ same_pins p v b

pub all_waiting : (v : ℕ) (pages : List ℕ) (b : Book) → (retired_all v pages b).waiting ≡ b.waiting
all_waiting v [] b = refl
all_waiting v (p ∷ pages) b = all_waiting v pages (retired p v b) ∙ same_waiting p v b

pub all_length : (v : ℕ) (pages : List ℕ) (b : Book) → length (retired_all v pages b).states ≡ length b.states
all_length v [] b = refl
all_length v (p ∷ pages) b = all_length v pages (retired p v b) ∙ same_length p v b

pub all_sound : (v : ℕ) (pages : List ℕ) (b : Book) → IsSound b → IsSound (retired_all v pages b)
all_sound v [] b sound = sound
all_sound v (p ∷ pages) b sound = all_sound v pages (retired p v b) ((stays_sound b sound).retired p v)

pub back_all : (v : ℕ) (pages : List ℕ) (b : Book) → undone (length b.turn) (retired_all v pages b) ≡ b
back_all v pages b =
    let calls : List Call = map (λ p. retire p v) pages in
    let full : (after calls b).failed_allocations ≡ b.failed_allocations = ap (λ (c : Book). c.failed_allocations) (sym (retired_after v pages b))
    ∙ all_full v pages b in
    ap (undone (length b.turn)) (retired_after v pages b) ∙ undoing_leads_back b calls ∙ (λ i. record b { failed_allocations = full i })

-- nor is anything taken back
longer : (p v : ℕ) (b : Book) → length b.turn ≤ length (retired p v b).turn
longer p v b = elim (cases_Bool (is_in_use b.states p)) [
  | inl so ↦ rw so (omega (arith, length-append b.turn (changes.Retired p v ∷ [])))
  | inr not_so ↦ rw not_so (omega arith)
]

pub all_longer : (v : ℕ) (pages : List ℕ) (b : Book) → length b.turn ≤ length (retired_all v pages b).turn
all_longer v [] b = omega arith
all_longer v (p ∷ pages) b = omega (arith, longer p v b, all_longer v pages (retired p v b))

-- two lists of pages, one after the other
all_joined : (v : ℕ) (pages more : List ℕ) (b : Book) → retired_all v (pages ++ more) b ≡ retired_all v more (retired_all v pages b)
all_joined v [] more b = refl
all_joined v (p ∷ pages) more b = all_joined v pages more (retired p v b)

pub both_retired : {E : Type 0} (v : ℕ) (pages more : List ℕ) (old mid last : Book) (result : Result (Unit {0}) E) → mid ≡ retired_all v pages old
    → OnOk result (last ≡ retired_all v more mid) → OnOk result (last ≡ retired_all v (pages ++ more) old)
both_retired v pages more old mid last (Ok x) first second = second ∙ ap (retired_all v more) first ∙ sym (all_joined v pages more old)
both_retired v pages more old mid last (Err e) first second = tt

-- what leads back to the first leads back to where that leads
pub back_both : (old mid last : Book) → length old.turn ≤ length mid.turn → length mid.turn ≤ length last.turn → undone (length mid.turn) last ≡ mid
    → undone (length old.turn) mid ≡ old → undone (length old.turn) last ≡ old
back_both old mid last first second back before =
    sym (undone-undone (length old.turn) (length mid.turn) last first second) ∙ ap (undone (length old.turn)) back ∙ before

retired_last : (v : ℕ) (pages : List ℕ) (p : ℕ) (b : Book) → retired_all v (pages ++ p ∷ []) b ≡ retired p v (retired_all v pages b)
retired_last v [] p b = refl
retired_last v (q ∷ pages) p b = retired_last v pages p (retired q v b)

pub retired_more : (v : ℕ) (pages : List ℕ) (i d : ℕ) (b : Book) → i < length pages
    → retired_all v (take (i + 1) pages) b ≡ retired (get_or pages i d) v (retired_all v (take i pages) b)
retired_more v pages i d b lt = ap (λ l. retired_all v l b) (take_more pages i d lt) ∙ retired_last v (take i pages) (get_or pages i d) b

use_other : (p v n : ℕ) (b : Book) → n ≢ p → is_in_use (retired p v b).states n ≡ is_in_use b.states n
use_other p v n b ne = elim (cases_Bool (is_in_use b.states p)) [
  | inl so ↦ rw so (ap is_used_state (get_or-set_other b.states p n states.Retired states.Retired ne))
  | inr not_so ↦ rw not_so refl
]

use_same : (p v : ℕ) (b : Book) → is_in_use (retired p v b).states p ≡ false
use_same p v b = elim (cases_Bool (is_in_use b.states p)) [
  | inl so ↦
      let within : p < length b.states = below b.states p states.InUse (used_is (get_or b.states p states.Retired) so) (λ e. cc) in
      rw so (ap is_used_state (get_or-set_same b.states p states.Retired states.Retired within))
  | inr not_so ↦ rw not_so not_so
]

pub kept_use : (v : ℕ) (pages : List ℕ) (n : ℕ) (b : Book) → times n pages ≡ 0 → is_in_use (retired_all v pages b).states n ≡ is_in_use b.states n
kept_use v [] n b none = refl
kept_use v (p ∷ pages) n b none = elim (cases_eq n p) [
  | inl is ↦ absurd (omega (arith, one_time n p pages is, none))
  | inr ne ↦ kept_use v pages n (retired p v b) (sym (no_time n p pages ne) ∙ none) ∙ use_other p v n b ne
]

stays_lost : (v : ℕ) (pages : List ℕ) (n : ℕ) (b : Book) → is_in_use b.states n ≡ false → is_in_use (retired_all v pages b).states n ≡ false
stays_lost v [] n b lost = lost
stays_lost v (p ∷ pages) n b lost = elim (cases_eq n p) [
  | inl is ↦ stays_lost v pages n (retired p v b) (ap (is_in_use (retired p v b).states) is ∙ use_same p v b)
  | inr ne ↦ stays_lost v pages n (retired p v b) (use_other p v n b ne ∙ lost)
]

pub lost_use : (v : ℕ) (pages : List ℕ) (n : ℕ) (b : Book) → 0 < times n pages → is_in_use (retired_all v pages b).states n ≡ false
lost_use v [] n b some = absurd (omega (arith, some))
lost_use v (p ∷ pages) n b some = elim (cases_eq n p) [
  | inl is ↦ stays_lost v pages n (retired p v b) (ap (is_in_use (retired p v b).states) is ∙ use_same p v b)
  | inr ne ↦ lost_use v pages n (retired p v b) (omega (arith, some, no_time n p pages ne))
]

-- ---- the end of a turn

-- a page that isn't listed is what it was
freed_other : (pins : List ℕ) (rs : List Retirement) (n : ℕ) (pages : List PageState) (d : PageState) → listed n rs ≡ 0
    → get_or (freed pins rs pages) n d ≡ get_or pages n d
freed_other pins [] n pages d none = refl
freed_other pins (r ∷ rs) n pages d none = elim (cases_Bool (is_pinned pins r.version)) [
  | inl so ↦ rw so (freed_other pins rs n pages d (omega (arith, none)))
  | inr not_so ↦ rw not_so (elim (cases_eq n r.page) [
    | inl is ↦ absurd (omega (arith, none, one_same n r is))
    | inr ne ↦ freed_other pins rs n (set pages r.page states.Free) d (omega (arith, none)) ∙ get_or-set_other pages r.page n states.Free d ne
  ])
]

set_free : (pages : List PageState) (p n : ℕ) → is_in_use pages n ≡ false → is_in_use (set pages p states.Free) n ≡ false
set_free [] p n h = h
set_free (s ∷ pages) zero zero h = refl
set_free (s ∷ pages) zero (suc n) h = h
set_free (s ∷ pages) (suc p) zero h = h
set_free (s ∷ pages) (suc p) (suc n) h = set_free pages p n h

freed_unused : (pins : List ℕ) (rs : List Retirement) (n : ℕ) (pages : List PageState) → is_in_use pages n ≡ false
    → is_in_use (freed pins rs pages) n ≡ false
freed_unused pins [] n pages h = h
freed_unused pins (r ∷ rs) n pages h = elim (cases_Bool (is_pinned pins r.version)) [
  | inl so ↦ rw so (freed_unused pins rs n pages h)
  | inr not_so ↦ rw not_so (freed_unused pins rs n (set pages r.page states.Free) (set_free pages r.page n h))
]

pub length_freed : (pins : List ℕ) (rs : List Retirement) (pages : List PageState) → length (freed pins rs pages) ≡ length pages
length_freed pins [] pages = refl
length_freed pins (r ∷ rs) pages = elim (cases_Bool (is_pinned pins r.version)) [
  | inl so ↦ rw so (length_freed pins rs pages)
  | inr not_so ↦ rw not_so (length_freed pins rs (set pages r.page states.Free) ∙ length-set pages r.page states.Free)
]

pub committed_length : (v : ℕ) (b : Book) → length (committed v b).states ≡ length b.states
committed_length v b = length_freed b.pins (retired_in b.turn) b.states

-- a page in use is listed nowhere
pub used_unlisted : (b : Book) → IsSound b → (n : ℕ) → is_in_use b.states n ≡ true → listed n b.waiting + listed n (retired_in b.turn) ≡ 0
used_unlisted b sound n used =
    let here : get_or b.states n states.Retired ≡ states.InUse = used_is (get_or b.states n states.Retired) used in
    let within : n < length b.states = below b.states n states.InUse here (λ e. cc) in
    sound.listed n ∙ ap retired_count (get_or_default b.states n states.Free states.Retired within ∙ here)

-- what is in use stays so, and nothing else comes to be
freed_use : (pins : List ℕ) (rs : List Retirement) (n : ℕ) (pages : List PageState) → (is_in_use pages n ≡ true → listed n rs ≡ 0)
    → is_in_use (freed pins rs pages) n ≡ is_in_use pages n
freed_use pins rs n pages unlisted = elim (cases_Bool (is_in_use pages n)) [
  | inl so ↦ ap is_used_state (freed_other pins rs n pages states.Retired (unlisted so))
  | inr not_so ↦ freed_unused pins rs n pages not_so ∙ sym not_so
]

pub committed_use : (v : ℕ) (b : Book) → IsSound b → (n : ℕ) → is_in_use (committed v b).states n ≡ is_in_use b.states n
committed_use v b sound n = freed_use b.pins (retired_in b.turn) n b.states (λ used. omega (arith, used_unlisted b sound n used))

-- ---- a pin, and its end

-- What both leave of a book: what is in use, and the turn.
pub record LeavesUse (old new : Book) : Type 0 where
  pub turn : new.turn ≡ old.turn
  pub long : length new.states ≡ length old.states
  pub used : (n : ℕ) → is_in_use new.states n ≡ is_in_use old.states n
  pub full : new.failed_allocations ≡ old.failed_allocations
  pub sound : IsSound new

pub pin_leaves : (v : ℕ) (b : Book) → IsSound b → LeavesUse b (pinned v b)
pin_leaves v b sound = record { turn = refl; long = refl; used = λ n. refl; full = refl; sound = (stays_sound b sound).pinned v }

pub unpin_leaves : (v : ℕ) (b : Book) → IsSound b → LeavesUse b (unpinned v b)
unpin_leaves v b sound =
    let pins = without v b.pins in
    record {
      turn = refl;
      long = length_freed pins b.waiting b.states;
      used = λ n. freed_use pins b.waiting n b.states (λ used. omega (arith, used_unlisted b sound n used));
      full = refl;
      sound = (stays_sound b sound).unpinned v;
    }

pub nothing_leaves : (b : Book) → IsSound b → LeavesUse b b
nothing_leaves b sound = record { turn = refl; long = refl; used = λ n. refl; full = refl; sound = sound }

pub booked_leaves : (made : List PageModel) (old new : Book) → LeavesUse old new → IsBookFor made old → IsBookFor made new
booked_leaves made old new leaves booked = record {
  sound = leaves.sound;
  turn = leaves.turn ∙ booked.turn;
  limit = omega (arith, leaves.long, booked.limit);
  count = omega (arith, leaves.full, booked.count);
}

-- what isn't freed, since all that is listed of it is pinned
pub freed_kept : (pins : List ℕ) (rs : List Retirement) (n : ℕ) (pages : List PageState) (d : PageState)
    → AllByRecursion (λ (r : Retirement). r.page ≡ n → is_pinned pins r.version ≡ true) rs → get_or (freed pins rs pages) n d ≡ get_or pages n d
freed_kept pins [] n pages d all = refl
freed_kept pins (r ∷ rs) n pages d all = elim (cases_Bool (is_pinned pins r.version)) [
  | inl so ↦ rw so (freed_kept pins rs n pages d all.1)
  | inr not_so ↦ rw not_so (elim (cases_eq n r.page) [
    | inl is ↦ let never : true ≡ false = sym (all.0 (sym is)) ∙ not_so in absurd cc
    | inr ne ↦ freed_kept pins rs n (set pages r.page states.Free) d all.1 ∙ get_or-set_other pages r.page n states.Free d ne
  ])
]

-- where all is pinned, nothing is freed
pub freed_none : (pins : List ℕ) (rs : List Retirement) (pages : List PageState) → AllByRecursion (λ (r : Retirement). is_pinned pins r.version ≡ true) rs
    → freed pins rs pages ≡ pages
freed_none pins [] pages all = refl
freed_none pins (r ∷ rs) pages all = rw all.0 (freed_none pins rs pages all.1)

-- each that is listed is counted
pub each_listed : (rs : List Retirement) → AllByRecursion (λ (r : Retirement). 1 ≤ listed r.page rs) rs
each_listed [] = tt
each_listed (r ∷ rs) = (
  omega (arith, one_same r.page r refl),
  all_weaker (λ (s : Retirement). 1 ≤ listed s.page rs) (λ (s : Retirement). 1 ≤ listed s.page (r ∷ rs)) (λ s some. omega (arith, some)) rs (each_listed rs),
)

-- ---- what isn't in use is free or waits

pub others_of : (b : Book) → IsSound b → (n : ℕ) → 0 < n → n < length b.states → is_free b.states n ≡ (not (is_in_use b.states n) && not (waits b n))
others_of b sound n some within =
    let first : nat_lt 0 n ≡ true = grind (arith, nat_tests, some) in
    let inside : nat_lt n (length b.states) ≡ true = grind (arith, nat_tests, within) in
    free_by_definition b sound n ∙ (λ i. first i && (inside i && (not (is_in_use b.states n) && not (waits b n))))

-- ---- what the turn took is in use

pub taken_use : (made : List PageModel) (pages : List PageState) → CanRewind (takes_of made) pages → (n : ℕ)
    → flag (is_in_use pages n) ≡ flag (is_in_use (rewind (takes_of made) pages) n) + times n (numbers_of made)
taken_use [] pages can n = omega arith
taken_use (m ∷ made) pages can n =
    let later : List PageState = rewind (takes_of made) pages in
    elim (cases_eq n m.page) [
      | inl is ↦
          let within : m.page < length later = below later m.page states.InUse can.0 (λ e. cc) in
          let used : flag (is_in_use later n) ≡ 1 = ap (λ (k : ℕ). flag (is_in_use later k)) is ∙ ap (λ (s : PageState). flag (is_used_state s)) can.0 in
          let free : flag (is_in_use (set later m.page states.Free) n) ≡ 0 =
          ap (λ (k : ℕ). flag (is_in_use (set later m.page states.Free) k)) is
          ∙ ap (λ (s : PageState). flag (is_used_state s)) (get_or-set_same later m.page states.Free states.Retired within) in
          omega (arith, taken_use made pages can.1 n, used, free, one_time n m.page (numbers_of made) is)
      | inr ne ↦
          let same : flag (is_in_use (set later m.page states.Free) n) ≡ flag (is_in_use later n) =
          ap (λ (s : PageState). flag (is_used_state s)) (get_or-set_other later m.page n states.Free states.Retired ne) in
          omega (arith, taken_use made pages can.1 n, same, no_time n m.page (numbers_of made) ne)
    ]

-- a page that the turn made is one of the book's
pub made_below : (made : List PageModel) (book : Book) → IsBookFor made book → (n : ℕ) → 1 ≤ times n (numbers_of made) → n < length book.states
made_below made book booked n some =
    let can : CanRewind (takes_of made) book.states = subst (λ (turn : List Change). CanRewind turn book.states) booked.turn booked.sound.undoable in
    let used : is_in_use book.states n ≡ true = flag_some (is_in_use book.states n) (omega (arith, some, taken_use made book.states can n)) in
    below book.states n states.InUse (used_is (get_or book.states n states.Retired) used) (λ e. cc)

-- and made once
pub made_once : (made : List PageModel) (book : Book) → IsBookFor made book → AreOnce (numbers_of made)
made_once made book booked n =
    let can : CanRewind (takes_of made) book.states = subst (λ (turn : List Change). CanRewind turn book.states) booked.turn booked.sound.undoable in
    omega (arith, taken_use made book.states can n, flag_most (is_in_use book.states n))
