-- A turn goes on once a version was pinned or unpinned in it: it is one that began where undoing all of it would lead to.
use Rattle.std.proofs.Common.{◌≡◌, ◌≢◌, ℕ, zero, suc, ◌+◌, ◌<◌, ◌≤◌, Bool, true, false, List, [], ◌∷◌, ◌++◌, length, take, drop, set, get_or}
use Rattle.std.proofs.Common.{refl, sym, ◌∙◌, ap, subst, arith, inl, inr}
use Rattle.std.specs.Prelude.{◌&&◌, nat_lt, not, reverse, is_ok, Result}
use Rattle.std.specs.List.{AllByRecursion}
use Rattle.std.proofs.lemmas.Bool.{cases_eq, cases_lt}
use Rattle.std.proofs.lemmas.Bool.Decides.{nat_tests}
use Rattle.std.proofs.lemmas.List.{get_or-set_other, get_or-set_same, get_or_past, map-append, reverse-append, take-append-drop}
use Rattle.page.specs.Content.{Content}
use Rattle.page.specs.Format.{PageModel}
use Rattle.page.specs.History.{History, KeepsWord, now, reads}
use Rattle.page.specs.declared.page_fault.PageFault.{PageFault}
use Rattle.page.proofs.Moments.{reads_nothing}
use Rattle.tree_model.specs.Keys.{Entry, times}
use Rattle.tree_model.proofs.StoreLemmas.{counts_same}
use Rattle.tree_model.specs.Store.{Frame, Grows, IsAt, Stays, flag}
use Rattle.tree_model.proofs.OnceLemmas.{map_live}
use Rattle.tree_model.proofs.ReachLemmas.{Moves, map_moved}
use Rattle.freelist.specs.Book.{Book, CanRewind, is_free, is_free_state, is_in_use, rewind, undone}
use Rattle.freelist.specs.FreeList.{pages_of}
use Rattle.freelist.specs.declared.states.PageState.{PageState}
use Rattle.freelist.specs.declared.states.PageState.TheVariants as states
use Rattle.freelist.specs.declared.turns.Change.{Change}
use Rattle.freelist.proofs.Rewinding.{below}
use Rattle.freelist.proofs.SoundBooks.{stays_sound}
use Rattle.roots.specs.Image.{content_in, model_at}
use Rattle.roots.specs.Store.{durable_root}
use Rattle.roots.specs.Turn.{made_or, numbers_of}
use Rattle.pager.specs.Commit.{IsTurn}
use Rattle.pager.specs.Kept.{IsBookFor, takes_of}
use Rattle.pager.specs.Pinning.{IsPinned, KeepsVersion, TurnGoesOn}
use Rattle.pager.specs.State.{State}
use Rattle.pager.specs.Turn.{IsBegun, undone_to}
use Rattle.pager.specs.View.{pager_history, models_of, store_of}
use Rattle.pager.specs.declared.version.Version.{Version}
use Rattle.pager.proofs.BookLemmas.{LeavesUse, booked_leaves, flag_most, flag_some, no_time, others_of, taken_use}
use Rattle.pager.proofs.CapacityLemmas.{each_there, has_times}
use Rattle.pager.proofs.ListLemmas.{made_joined, made_none}
use Rattle.pager.proofs.MemberLemmas.{IsMember, all_among, member, times_append, times_reverse}
use Rattle.pager.proofs.OrderLemmas.{all_drop}
use Rattle.pager.proofs.ReturnLemmas.{not_free_used, same_start}
use Rattle.pager.proofs.TakeLemmas.{base_with}
use Rattle.pager.proofs.TurnLemmas.{committed_still, in_use_then, states_then, used_with}
use Rattle.pager.proofs.StayLemmas.{versions_stay}
use Rattle.pager.proofs.UndoLemmas.{drop_takes, length_takes}

-- ---- takes that are undone

times_none : (made : List PageModel) (n : ℕ) → AllByRecursion (λ (m : PageModel). m.page ≢ n) made → times n (numbers_of made) ≡ 0
times_none [] n none = refl
times_none (m ∷ ms) n none = omega (arith, no_time n m.page (numbers_of ms) (λ is. none.0 (sym is)), times_none ms n none.1)

can_drop : (n : ℕ) (made : List PageModel) (pages : List PageState) → CanRewind (takes_of made) pages → CanRewind (takes_of (drop n made)) pages
can_drop zero made pages can = can
can_drop (suc n) [] pages can = can
can_drop (suc n) (m ∷ ms) pages can = can_drop n ms pages can.1

rewound_other : (made : List PageModel) (pages : List PageState) (n : ℕ) → AllByRecursion (λ (m : PageModel). m.page ≢ n) made
    → get_or (rewind (takes_of made) pages) n states.Retired ≡ get_or pages n states.Retired
rewound_other [] pages n none = refl
rewound_other (m ∷ ms) pages n none =
    get_or-set_other (rewind (takes_of ms) pages) m.page n states.Free states.Retired (λ is. none.0 (sym is)) ∙ rewound_other ms pages n none.1

rewound_free : (made : List PageModel) (pages : List PageState) → CanRewind (takes_of made) pages → (n : ℕ) → 1 ≤ times n (numbers_of made)
    → get_or (rewind (takes_of made) pages) n states.Retired ≡ states.Free
rewound_free [] pages can n some = absurd (omega (arith, some))
rewound_free (m ∷ ms) pages can n some =
    let later : List PageState = rewind (takes_of ms) pages in
    elim (cases_eq n m.page) [
      | inl is ↦
          let within : m.page < length later = below later m.page states.InUse can.0 (λ e. cc) in
          ap (λ (k : ℕ). get_or (set later m.page states.Free) k states.Retired) is ∙ get_or-set_same later m.page states.Free states.Retired within
      | inr ne ↦
          get_or-set_other later m.page n states.Free states.Retired ne
          ∙ rewound_free ms pages can.1 n (omega (arith, some, no_time n m.page (numbers_of ms) ne))
    ]

and_false : (b : Bool) → (b && false) ≡ false
and_false true = refl
and_false false = refl

-- ---- a pager grows from what undoing leads back to

module _ {D : Type 0} (history : D → History) (p : State D) (booked : IsBookFor p.made p.book)
    (positive : AllByRecursion (λ (m : PageModel). 0 < m.page) p.made)
    (some few : ℕ) where
  abbrev q : State D
  q = undone_to some few p

  abbrev first : List PageModel
  first = take some p.made

  abbrev later : List PageModel
  later = drop some p.made

  states_are : q.book.states ≡ rewind (takes_of later) p.book.states
  states_are = ap (λ (turn : List Change). rewind turn p.book.states) (ap (drop some) booked.turn ∙ drop_takes some p.made)

  joined : first ++ later ≡ p.made
  joined = take-append-drop some p.made

  can : CanRewind (takes_of p.made) p.book.states
  can = subst (λ (turn : List Change). CanRewind turn p.book.states) booked.turn booked.sound.undoable

  numbers : numbers_of p.made ≡ numbers_of first ++ numbers_of later
  numbers = ap numbers_of (sym joined) ∙ map-append (λ (m : PageModel). m.page) first later

  counts : (n : ℕ) → times n (numbers_of p.made) ≡ times n (numbers_of first) + times n (numbers_of later)
  counts n = ap (times n) numbers ∙ times_append n (numbers_of first) (numbers_of later)

  abbrev disk : ℕ → Result PageModel PageFault
  disk n = model_at (reads (now (pager_history history p))) (durable_root p.store) n

  -- a page that wasn't made since
  left_model : (n : ℕ) → AllByRecursion (λ (m : PageModel). m.page ≢ n) later → models_of history q n ≡ models_of history p n
  left_model n none =
      sym (ap (λ (made : List PageModel). made_or made n (disk n)) (sym joined) ∙ made_joined first later n (disk n)
      ∙ ap (made_or first n) (made_none later n (disk n) none))

  left_live : (n : ℕ) → AllByRecursion (λ (m : PageModel). m.page ≢ n) later → (store_of history q).live n ≡ (store_of history p).live n
  left_live n none =
      let free : is_free q.book.states n ≡ is_free p.book.states n =
      ap (λ (pages : List PageState). is_free pages n) states_are
      ∙ ap (λ (s : PageState). nat_lt 0 n && is_free_state s) (rewound_other later p.book.states n none) in
      (λ i. is_ok (left_model n none i) && not (free i))

  -- one that was
  gone_dead : (n : ℕ) → IsMember later n → (store_of history q).live n ≡ false
  gone_dead n r =
      let some_number : 0 < n =
      subst (λ (m : ℕ). 0 < m) r.is (all_among (λ (m : PageModel). 0 < m.page) later r.model (all_drop (λ (m : PageModel). 0 < m.page) some p.made positive)
      r.among) in
      let test : nat_lt 0 n ≡ true = grind (arith, nat_tests, some_number) in
      let state : get_or (rewind (takes_of later) p.book.states) n states.Retired ≡ states.Free =
      rewound_free later p.book.states (can_drop some p.made p.book.states can) n r.count in
      let free : is_free q.book.states n ≡ true =
      ap (λ (pages : List PageState). is_free pages n) states_are ∙ (λ i. test i && is_free_state (state i)) in
      (λ i. is_ok (models_of history q n) && not (free i)) ∙ and_false (is_ok (models_of history q n))

  made_live : (n : ℕ) → IsMember later n → (store_of history p).live n ≡ true
  made_live n r = elim (member p.made n) [
    | inl none ↦ absurd (omega (arith, times_none p.made n none, counts n, r.count))
    | inr there ↦
        let used : is_in_use p.book.states n ≡ true =
        flag_some (is_in_use p.book.states n) (omega (arith, there.count, taken_use p.made p.book.states can n)) in
        (λ i. is_ok (there.there (disk n) i) && not (not_free_used p.book.states n used i))
  ]

  still_at : (n : ℕ) (content : Content) → IsAt (store_of history q) n content → IsAt (store_of history p) n content
  still_at n content at = elim (member later n) [
    | inl none ↦ record { number = at.number; live = sym (left_live n none) ∙ at.live; holds = sym (ap content_in (left_model n none)) ∙ at.holds }
    | inr r ↦ let never : true ≡ false = sym at.live ∙ gone_dead n r in absurd cc
  ]

  counted : (n : ℕ)
      → times n (store_of history p).made + flag ((store_of history q).live n)
      ≡ times n (store_of history q).made + flag ((store_of history p).live n)
  counted n =
      let all : times n (reverse (numbers_of p.made)) ≡ times n (numbers_of p.made) = times_reverse n (numbers_of p.made) in
      let front : times n (reverse (numbers_of first)) ≡ times n (numbers_of first) = times_reverse n (numbers_of first) in
      elim (member later n) [
        | inl none ↦ omega (arith, all, front, counts n, times_none later n none, ap flag (left_live n none))
        | inr r ↦ omega (
          arith,
          all,
          front,
          counts n,
          r.count,
          taken_use p.made p.book.states can n,
          flag_most (is_in_use p.book.states n),
          ap flag (gone_dead n r),
          ap flag (made_live n r),
        )
      ]

  made_on : reverse (numbers_of p.made) ≡ reverse (numbers_of later) ++ reverse (numbers_of first)
  made_on = ap reverse numbers ∙ reverse-append (numbers_of first) (numbers_of later)

  retired_on : reverse p.retired ≡ reverse (drop few p.retired) ++ reverse (take few p.retired)
  retired_on = ap reverse (sym (take-append-drop few p.retired)) ∙ reverse-append (take few p.retired) (drop few p.retired)

  stays : Stays (store_of history q) (store_of history p)
  stays = record { base = (λ i. base_with p.store p.book (sym (same_start some p.book) i)); reads = reads_nothing (pager_history history p) }

  frame : KeepsWord (pager_history history p) → Frame (store_of history q) (store_of history p)
  frame k = record {
    word = k;
    kept = still_at;
    made = counted;
    made_on = (reverse (numbers_of later), made_on);
    retired_on = (reverse (drop few p.retired), retired_on);
    failures = omega arith;
    failed_allocations = omega arith;
    counts = counts_same (store_of history q) (store_of history p) refl refl;
  }

  pub undone_grows : Grows (store_of history q) (store_of history p)
  undone_grows = record { stays = stays; frame = frame }

  -- a version that reaches none of the pages that were made since
  module _ (version : Version) (reached : List ℕ) (entries : List Entry) (keeps : KeepsVersion history version reached entries p)
      (older : KeepsWord (pager_history history p) → (n : ℕ) → 1 ≤ times n reached → times n (numbers_of later) ≡ 0) where
    older_page : KeepsWord (pager_history history p) → (n : ℕ) → 1 ≤ times n reached → Moves (store_of history p) (store_of history q) n
    older_page k n there content at = elim (member later n) [
      | inl none ↦ record { number = at.number; live = left_live n none ∙ at.live; holds = ap content_in (left_model n none) ∙ at.holds }
      | inr r ↦ absurd (omega (arith, r.count, older k n there))
    ]

    pub undone_keeps : KeepsVersion history version reached entries q
    undone_keeps = record {
      pinned = keeps.pinned;
      since = keeps.since;
      waits = keeps.waits;
      holds = λ k. map_moved (store_of history p) (store_of history q) version.root reached entries
          (each_there (Moves (store_of history p) (store_of history q)) reached (older_page k)) (keeps.holds k);
    }

-- ---- the pages of a turn's tree are in use

module _ {D : Type 0} (history : D → History) (p start : State D) (live : List ℕ) (before : List Entry) (begun : IsBegun history start live before)
    (booked : IsBookFor p.made p.book) (root : ℕ) (pages : List ℕ) (after : List Entry) (turn : IsTurn history start p root live pages after)
    (k : KeepsWord (pager_history history p)) where
  pub tree_in_use : (n : ℕ) → 1 ≤ times n pages → n < length p.book.states → is_in_use p.book.states n ≡ true
  tree_in_use n some within =
      let still = committed_still history p start turn.grows.stays k live before begun in
      let held = (still.keeps.holds k).listed in
      flag_some (is_in_use p.book.states n) (omega (
        arith,
        some,
        turn.account n,
        times_reverse n (numbers_of p.made),
        times_append n live (pages_of held.0),
        used_with history p start turn.grows.stays k live before begun booked held.0 held.1 n within,
      ))

-- ---- after a pin, or the end of one

module _ {D : Type 0} (history : D → History) (p : State D) (booked : IsBookFor p.made p.book)
    (positive : AllByRecursion (λ (m : PageModel). 0 < m.page) p.made)
    (book : Book) (leaves : LeavesUse p.book book) where
  abbrev pub with_book : State D
  with_book = record { store = p.store; made = p.made; retired = p.retired; book = book }

  abbrev begin : State D
  begin = undone_to 0 0 with_book

  booked_with : IsBookFor p.made book
  booked_with = booked_leaves p.made p.book book leaves booked

  begin_states : (undone 0 book).states ≡ rewind (takes_of p.made) book.states
  begin_states = ap (λ (turn : List Change). rewind turn book.states) booked_with.turn

  used_same : (n : ℕ) → flag (is_in_use (undone 0 book).states n) ≡ flag (is_in_use (rewind (takes_of p.made) p.book.states) n)
  used_same n =
      let can = subst (λ (turn : List Change). CanRewind turn p.book.states) booked.turn booked.sound.undoable in
      let could = subst (λ (turn : List Change). CanRewind turn book.states) booked_with.turn leaves.sound.undoable in
      omega (
        arith,
        taken_use p.made p.book.states can n,
        taken_use p.made book.states could n,
        ap flag (leaves.used n),
        ap (λ (pages : List PageState). flag (is_in_use pages n)) begin_states,
      )

  begin_again : (start : State D) (live : List ℕ) (before : List Entry) → IsBegun history start live before
      → Grows (store_of history start) (store_of history p) → IsBegun history begin live before
  begin_again start live before begun grows = record {
    made = refl;
    retired = refl;
    turn = refl;
    committed = λ k. committed_still history p start grows.stays k live before begun;
    in_use = λ k parts has. record {
      used = λ n within.
          let then_states = states_then history p start grows.stays k live before begun booked in
          let low : n < length start.book.states =
          omega (
            arith,
            within,
            ap length begin_states,
            length_takes p.made book.states,
            leaves.long,
            ap length then_states,
            length_takes p.made p.book.states,
          ) in
          (in_use_then history p start grows.stays k live before begun parts has).used n low
          ∙ ap (λ (pages : List PageState). flag (is_in_use pages n)) (sym then_states) ∙ sym (used_same n);
      others = others_of (undone 0 book) ((stays_sound book leaves.sound).undone 0);
    };
  }

  -- a page of the tree
  moved_page : (n : ℕ) → (n < length p.book.states → is_in_use p.book.states n ≡ true) → Moves (store_of history p) (store_of history with_book) n
  moved_page n used content at =
      let not_free : is_free book.states n ≡ false = elim (cases_lt n (length p.book.states)) [
        | inl within ↦ not_free_used book.states n (leaves.used n ∙ used within)
        | inr past ↦
            ap (λ (s : PageState). nat_lt 0 n && is_free_state s) (get_or_past book.states n states.Retired (omega (arith, past, leaves.long)))
            ∙ and_false (nat_lt 0 n)
      ] in
      record {
        number = at.number;
        live = (λ i. is_ok (models_of history p n) && not (not_free i)) ∙ live_part (is_ok (models_of history p n)) _ at.live;
        holds = at.holds;
      }
    where
      live_part : (a b : Bool) → (a && b) ≡ true → (a && true) ≡ true
      live_part true b is = refl
      live_part false b is = absurd cc

  pub turn_again : (start : State D) (live : List ℕ) (before : List Entry) → IsBegun history start live before → (root : ℕ) (pages : List ℕ)
      (after : List Entry) → IsTurn history start p root live pages after → KeepsWord (pager_history history p)
      → IsTurn history begin with_book root live pages after
  turn_again start live before begun root pages after turn k = record {
    grows = undone_grows history with_book booked_with positive 0 0;
    holds = map_moved (store_of history p) (store_of history with_book) root pages after
        (each_there (Moves (store_of history p) (store_of history with_book)) pages
        (λ n some. moved_page n (tree_in_use history p start live before begun booked root pages after turn k n some))) turn.holds;
    account = turn.account;
  }

  -- a version that was kept when the turn began
  none_since : (start : State D) → start.made ≡ [] → Grows (store_of history start) (store_of history p) → (version : Version) (reached : List ℕ)
      (entries : List Entry) → KeepsVersion history version reached entries start → KeepsWord (pager_history history p)
      → (n : ℕ) → 1 ≤ times n reached → times n (numbers_of p.made) ≡ 0
  none_since start empty grows version reached entries keeps k n some =
      let frame = grows.frame k in
      let lived : (store_of history start).live n ≡ true =
      has_times (λ m. (store_of history start).live m ≡ true) n reached
      (map_live (store_of history start) version.root reached entries (keeps.holds frame.word)) some in
      omega (
        arith,
        frame.made n,
        ap flag lived,
        flag_most ((store_of history p).live n),
        times_reverse n (numbers_of p.made),
        ap (λ (made : List PageModel). times n (reverse (numbers_of made))) empty,
      )

  pub goes_on_with : ((version : Version) (reached : List ℕ) (entries : List Entry) → KeepsVersion history version reached entries p
      → IsPinned version with_book → KeepsVersion history version reached entries with_book) → TurnGoesOn history p with_book
  goes_on_with each = record {
    grows = undone_grows history with_book booked_with positive 0 0;
    begun = begin_again;
    turn = turn_again;
    versions = λ start empty grows version reached entries keeps still.
        undone_keeps history with_book booked_with positive 0 0 version reached entries
        (each version reached entries ((versions_stay history start p grows).each version reached entries keeps) still)
        (none_since start empty grows version reached entries keeps);
  }
