-- A page is taken and made.
use Rattle.std.proofs.Common.{◌≡◌, ◌≢◌, ℕ, ◌+◌, ◌-◌, ◌^◌, ◌<◌, ◌≤◌, Bool, true, false, List, [], ◌∷◌, ◌++◌, length, set, refl, sym, ◌∙◌, ap, subst, arith}
use Rattle.std.proofs.Common.{inl, inr, Option, Some, None}
use Rattle.std.specs.Prelude.{◌&&◌, ◌==◌, not, nat_lt, min, get_or, reverse, if◌then◌else◌, is_ok, Result, Ok, Err, MatchResult}
use Rattle.std.specs.List.{AllByRecursion, insert}
use Rattle.std.proofs.lemmas.Bool.{cases_eq, cases_lt}
use Rattle.std.proofs.lemmas.Bool.Decides.{nat_tests}
use Rattle.std.proofs.lemmas.List.{get_or-set_other, get_or-set_same, length-set, map-append, reverse-append}
use Rattle.page.specs.Cache.{kept}
use Rattle.page.specs.Content.{Content}
use Rattle.page.specs.Format.{PageModel}
use Rattle.page.specs.History.{History, now, reads}
use Rattle.page.specs.declared.page_cache.PageCache.{PageCache}
use Rattle.page.proofs.Moments.{reads_nothing}
use Rattle.tree_model.specs.Keys.{times}
use Rattle.tree_model.proofs.StoreLemmas.{counts_same}
use Rattle.tree_model.specs.Store.{HasFailed, HasNoPage, IsAt, IsMade, IsSame, KeepsWord, Stays, flag}
use Rattle.tree_model.specs.declared.pages.TreeFault.{TreeFault}
use Rattle.tree_model.specs.declared.pages.TreeFault.TheVariants as faults
use Rattle.freelist.specs.Book.{Book, Takes, is_free, is_free_state, is_used_state, least_free, rewind, taken, undone}
use Rattle.freelist.specs.Undone.{after, given, take as asks}
use Rattle.freelist.specs.declared.states.PageState.{PageState}
use Rattle.freelist.specs.declared.states.PageState.TheVariants as states
use Rattle.freelist.specs.declared.turns.Change.{Change}
use Rattle.freelist.specs.declared.turns.Change.TheVariants as changes
use Rattle.freelist.proofs.LeastLaws.{takes_least}
use Rattle.freelist.proofs.Rewinding.{below, free_is, put_back, rewind-append}
use Rattle.freelist.proofs.SoundBooks.{stays_sound}
use Rattle.freelist.proofs.Undoing.{undoing_leads_back}
use Rattle.roots.specs.declared.store.Store.{Store}
use Rattle.roots.specs.Image.{content_in, model_at}
use Rattle.roots.specs.Store.{durable_root, is_stopped}
use Rattle.roots.specs.Turn.{numbers_of}
use Rattle.pager.specs.Calls.{Refuses}
use Rattle.pager.specs.Kept.{Agrees, IsKept, IsNew}
use Rattle.pager.specs.Order.{StandsAt}
use Rattle.pager.specs.State.{State}
use Rattle.pager.specs.View.{book_numbers, pager_history, root_numbers, models_of, store_of}
use Rattle.pager.proofs.BookLemmas.{made_once}
use Rattle.pager.proofs.ListLemmas.{all_both, all_more, all_weaker, made_last, made_others}
use Rattle.pager.proofs.MemberLemmas.{free_not_made}
use Rattle.pager.proofs.OrderLemmas.{few_made, order_more}

abbrev pub base_with : {D : Type 0} → Store D → Book → List PageState → List ℕ
base_with store book pages = flag (is_stopped store) ∷ root_numbers (durable_root store) ++ book_numbers book pages

-- a take that is taken back
pub taken_back : (b mid new : Book) (page mark : ℕ) → Takes (Some page) b mid → mark ≡ length b.turn → new ≡ undone mark mid → new ≡ b
taken_back b mid new page mark takes is undo =
    let there : after (asks ∷ []) b ≡ taken page b = ap (λ (found : Option ℕ). given found b) takes.0 in
    let back : undone (length b.turn) (taken page b) ≡ record b { failed_allocations = (taken page b).failed_allocations } =
    subst (λ (c : Book). undone (length b.turn) c ≡ record b { failed_allocations = c.failed_allocations }) there (undoing_leads_back b (asks ∷ [])) in
    undo ∙ (λ i. undone (is i) (takes.1 i)) ∙ back

module _ (b : Book) (page : ℕ) (least : least_free b.states ≡ Some page) where
  pub was_free : is_free b.states page ≡ true
  was_free = (takes_least b.states page least).0

  pub none_below : (n : ℕ) → n < page → is_free b.states n ≡ false
  none_below = (takes_least b.states page least).1

  -- a page that is free is a number from 1 to below the limit
  pub some_page : 0 < page
  some_page = by_test (nat_lt 0 page) refl was_free
    where
      by_test : (some : Bool) → nat_lt 0 page ≡ some → (some && is_free_state (get_or b.states page states.Retired)) ≡ true → 0 < page
      by_test true test is = grind (arith, nat_tests, test)
      by_test false test is = absurd cc

  free_state : get_or b.states page states.Retired ≡ states.Free
  free_state = by_test (nat_lt 0 page) was_free
    where
      by_test : (some : Bool) → (some && is_free_state (get_or b.states page states.Retired)) ≡ true → get_or b.states page states.Retired ≡ states.Free
      by_test true is = free_is (get_or b.states page states.Retired) is
      by_test false is = absurd cc

  pub page_below : page < length b.states
  page_below = below b.states page states.Free free_state (λ e. cc)

  -- it isn't free any more, and the others are what they were
  pub not_free : is_free (taken page b).states page ≡ false
  not_free = by_test (nat_lt 0 page)
    where
      by_test : (some : Bool) → (some && is_free_state (get_or (set b.states page states.InUse) page states.Retired)) ≡ false
      by_test true = ap is_free_state (get_or-set_same b.states page states.InUse states.Retired page_below)
      by_test false = refl

  pub others_free : (n : ℕ) → n ≢ page → is_free (taken page b).states n ≡ is_free b.states n
  others_free n ne = ap (λ (s : PageState). nat_lt 0 n && is_free_state s) (get_or-set_other b.states page n states.InUse states.Retired ne)

-- ---- a page more

module _ {D : Type 0} {listed places : List ℕ} (history : D → History) (store : Store D) (cache : PageCache) (made : List PageModel) (retired : List ℕ)
    (book : Book) (kept_so : IsKept history store cache made book listed places)
    (model : PageModel) (least : least_free book.states ≡ Some model.page) where
  apart : AllByRecursion (λ (m : PageModel). m.page ≢ model.page) made
  apart = free_not_made made book kept_so.booked model.page (ap is_used_state (free_state book model.page least))

  abbrev before : State D
  before = record { store = store; made = made; retired = retired; book = book }

  abbrev afterwards : State D
  afterwards = record { store = store; made = made ++ model ∷ []; retired = retired; book = taken model.page book }

  model_new : models_of history afterwards model.page ≡ Ok model
  model_new = made_last made model (model_at (reads (now (pager_history history before))) (durable_root store) model.page) apart

  model_other : (n : ℕ) → n ≢ model.page → models_of history afterwards n ≡ models_of history before n
  model_other n ne = made_others made model n (model_at (reads (now (pager_history history before))) (durable_root store) n) ne

  live_other : (n : ℕ) → n ≢ model.page → (store_of history afterwards).live n ≡ (store_of history before).live n
  live_other n ne = (λ i. is_ok (model_other n ne i) && not (others_free book model.page least n ne i))

  was_dead : (store_of history before).live model.page ≡ false
  was_dead = (λ i. is_ok (models_of history before model.page) && not (was_free book model.page least i))
      ∙ and_false (is_ok (models_of history before model.page))
    where
      and_false : (b : Bool) → (b && false) ≡ false
      and_false true = refl
      and_false false = refl

  is_live : (store_of history afterwards).live model.page ≡ true
  is_live = (λ i. is_ok (model_new i) && not (not_free book model.page least i))

  still_at : (n : ℕ) (content : Content) → IsAt (store_of history before) n content → IsAt (store_of history afterwards) n content
  still_at n content at = elim (cases_eq n model.page) [
    | inl is ↦ let never : true ≡ false = sym at.live ∙ ap (store_of history before).live is ∙ was_dead in absurd cc
    | inr ne ↦ record { number = at.number; live = live_other n ne ∙ at.live; holds = ap content_in (model_other n ne) ∙ at.holds }
  ]

  newest : reverse (numbers_of (made ++ model ∷ [])) ≡ model.page ∷ reverse (numbers_of made)
  newest = ap reverse (map-append (λ (m : PageModel). m.page) made (model ∷ [])) ∙ reverse-append (numbers_of made) (model.page ∷ [])

  counted : (n : ℕ)
      → times n (store_of history afterwards).made + flag ((store_of history before).live n) ≡ times n (store_of history before).made
      + flag ((store_of history afterwards).live n)
  counted n = elim (cases_eq n model.page) [
    | inl is ↦
        let test : (n == model.page) ≡ true = grind (arith, nat_tests, is) in
        let one : ℕ = 1 in
        let none : ℕ = 0 in
        let count : (if n == model.page then one else none) ≡ 1 = ap (λ (b : Bool). if b then one else none) test in
        let dead : flag ((store_of history before).live n) ≡ 0 = ap (λ (k : ℕ). flag ((store_of history before).live k)) is ∙ ap flag was_dead in
        let alive : flag ((store_of history afterwards).live n) ≡ 1 = ap (λ (k : ℕ). flag ((store_of history afterwards).live k)) is ∙ ap flag is_live in
        omega (arith, ap (times n) newest, count, dead, alive)
    | inr ne ↦
        let test : (n == model.page) ≡ false = grind (arith, nat_tests, ne) in
        let one : ℕ = 1 in
        let none : ℕ = 0 in
        let count : (if n == model.page then one else none) ≡ 0 = ap (λ (b : Bool). if b then one else none) test in
        omega (arith, ap (times n) newest, count, ap flag (live_other n ne))
  ]

  -- the pages are what they were when the turn began
  same_states : rewind (taken model.page book).turn (taken model.page book).states ≡ rewind book.turn book.states
  same_states =
      rewind-append book.turn (changes.Taken model.page ∷ []) (set book.states model.page states.InUse)
      ∙ ap (rewind book.turn) (put_back book.states model.page states.Free states.InUse (free_state book model.page least))

  pub one_stays : Stays (store_of history before) (store_of history afterwards)
  one_stays = record { base = (λ i. base_with store book (same_states i)); reads = reads_nothing (pager_history history before) }

  pub one_made : KeepsWord (store_of history afterwards) → IsMade (store_of history before) (store_of history afterwards) model.page model.content
  one_made word = record {
    frame = record {
      word = word;
      kept = still_at;
      made = counted;
      made_on = (model.page ∷ [], newest);
      retired_on = ([], refl);
      failures = omega arith;
      failed_allocations = omega arith;
      counts = counts_same (store_of history before) (store_of history afterwards) refl refl;
    };
    at = record { number = some_page book model.page least; live = is_live; holds = ap content_in model_new };
    made = newest;
    retired = refl;
  }

  module _ (after_cache : PageCache) (this : kept after_cache model.page ≡ None) (others : (n : ℕ) → n ≢ model.page → kept after_cache n ≡ kept cache n)
      (some : 1 ≤ model.generation)
      (small : model.generation < 2 ^ 64) (until : model.generation ≤ (durable_root store).generation + 1) where
    agrees_still : Agrees history store after_cache
    agrees_still k n found is = elim (cases_eq n model.page) [
      | inl same ↦ let never : Some found ≡ None = sym is ∙ ap (kept after_cache) same ∙ this in absurd cc
      | inr ne ↦ kept_so.cached k n found (sym (others n ne) ∙ is)
    ]

    new_still : (m : PageModel) → IsNew (durable_root store).generation cache m → m.page ≢ model.page → IsNew (durable_root store).generation after_cache m
    new_still m new ne = record {
      inside = new.inside;
      some = new.some;
      small = new.small;
      until = new.until;
      uncached = others m.page ne ∙ new.uncached;
    }

    pub one_kept : (at : ℕ) → StandsAt made places model.page at
        → IsKept history store after_cache (made ++ model ∷ []) (taken model.page book) listed (insert places at (length made))
    one_kept at stands = record {
      cached = agrees_still;
      order = order_more made places kept_so.order model at stands (some_page book model.page least) apart;
      each = all_more (IsNew (durable_root store).generation after_cache) made model
          (all_both (IsNew (durable_root store).generation cache) (λ (m : PageModel). m.page ≢ model.page)
          (IsNew (durable_root store).generation after_cache) new_still made kept_so.each apart)
          (record {
            inside = omega (arith, page_below book model.page least, kept_so.booked.limit);
            some = some;
            small = small;
            until = until;
            uncached = this;
          });
      booked = record {
        sound = (stays_sound book kept_so.booked.sound).taken model.page least;
        turn = ap (λ (turn : List Change). turn ++ changes.Taken model.page ∷ []) kept_so.booked.turn
            ∙ sym (map-append (λ (m : PageModel). changes.Taken m.page) made (model ∷ []));
        limit = omega (arith, length-set book.states model.page states.InUse, kept_so.booked.limit);
        count = kept_so.booked.count;
      };
      listed = kept_so.listed;
      wide = omega (arith, length-set book.states model.page states.InUse, kept_so.wide);
    }

-- the book has room for all of them
pub few_kept : {D : Type 0} {listed places : List ℕ} (history : D → History) (store : Store D) (cache : PageCache) (made : List PageModel) (book : Book)
    → IsKept history store cache made book listed places → length made ≤ 1048576
few_kept history store cache made book so =
    few_made made 1048576 (made_once made book so.booked)
    (all_weaker (IsNew (durable_root store).generation cache) (λ (m : PageModel). m.page < 1048576) (λ m new. new.inside) made so.each)

-- ---- no page more

module _ {D : Type 0} (history : D → History) (store : Store D) (made : List PageModel) (retired : List ℕ) (book new_book : Book)
    (count : book.failed_allocations < 2 ^ 64) where
  abbrev start : State D
  start = record { store = store; made = made; retired = retired; book = book }

  abbrev stop : State D
  stop = record { store = store; made = made; retired = retired; book = new_book }

  same_pages : new_book.states ≡ book.states → new_book.turn ≡ book.turn → book.failed_allocations ≤ new_book.failed_allocations
      → KeepsWord (store_of history stop)
      → IsSame (store_of history start) (store_of history stop)
  same_pages is turn more word = record {
    word = word;
    page = refl;
    live = λ i n. is_ok (models_of history start n) && not (is_free (is i) n);
    made = refl;
    retired = refl;
    failures = omega arith;
    failed_allocations = more;
    counts = counts_same (store_of history start) (store_of history stop) refl refl;
  }

  -- what else the book has
  refused_same : (fault : TreeFault) → Refuses fault book new_book → new_book ≡ record book { failed_allocations = new_book.failed_allocations }
  refused_same faults.Memory is = let back = sym is in is ∙ (λ i. record book { failed_allocations = (back i).failed_allocations })
  refused_same faults.Full (none, is) = let back = sym is in is ∙ (λ i. record book { failed_allocations = (back i).failed_allocations })
  refused_same faults.Device is = absurd is
  refused_same faults.Kind is = absurd is
  refused_same faults.Number is = absurd is
  refused_same faults.Order is = absurd is
  refused_same faults.Length is = absurd is

  pub refused_stays : (fault : TreeFault) → Refuses fault book new_book → Stays (store_of history start) (store_of history stop)
  refused_stays fault refuses =
      let same = refused_same fault refuses in
      record { base = ap (λ (b : Book). base_with store b (rewind b.turn b.states)) same; reads = reads_nothing (pager_history history start) }

  counted_full : new_book.failed_allocations ≡ min (book.failed_allocations + 1) (2 ^ 64 - 1) → HasNoPage (store_of history start) (store_of history stop)
  counted_full is = elim (cases_lt book.failed_allocations (2 ^ 64 - 1)) [
    | inl less ↦ inl (omega (arith, is, less))
    | inr most ↦ inr (omega (arith, is, most))
  ]

  pub take_failed : (fault : TreeFault) → Refuses fault book new_book → KeepsWord (store_of history stop)
      → HasFailed (store_of history start) (store_of history stop) fault
  take_failed faults.Memory is word = record {
    same = same_pages (ap (λ (b : Book). b.states) is) (ap (λ (b : Book). b.turn) is) (omega (arith, ap (λ (b : Book). b.failed_allocations) is)) word;
    cause = tt;
  }
  take_failed faults.Full (none, is) word = record {
    same = same_pages (ap (λ (b : Book). b.states) is) (ap (λ (b : Book). b.turn) is) (omega (arith, ap (λ (b : Book). b.failed_allocations) is, count)) word;
    cause = counted_full (ap (λ (b : Book). b.failed_allocations) is);
  }
  take_failed faults.Device is word = absurd is
  take_failed faults.Kind is word = absurd is
  take_failed faults.Number is word = absurd is
  take_failed faults.Order is word = absurd is
  take_failed faults.Length is word = absurd is

-- ---- as the call has it

pub allocate_refused : {D : Type 0} (history : D → History) (store : Store D) (made more : List PageModel) (retired : List ℕ) (book new_book : Book)
    (old : State D)
    → book.failed_allocations < 2 ^ 64
    → record { store = store; made = made; retired = retired; book = book } ≡ old → more ≡ made → (fault : TreeFault) → Refuses fault book new_book
    → (content : Content) (result : Result ℕ TreeFault) → result ≡ Err fault
    → let new : State D = record { store = store; made = more; retired = retired; book = new_book } in KeepsWord (store_of history new)
    → MatchResult result (λ page. IsMade (store_of history old) (store_of history new) page content) (HasFailed (store_of history old) (store_of history new))
allocate_refused {D = D} history store made more retired book new_book old count view_is same fault refuses content result is =
    let new : List PageModel → State D = λ m. record { store = store; made = m; retired = retired; book = new_book } in
    subst (λ (m : List PageModel). KeepsWord (store_of history (new m))
    → MatchResult result (λ page. IsMade (store_of history old) (store_of history (new m)) page content)
    (HasFailed (store_of history old) (store_of history (new m)))) (sym same)
    (subst (λ (s : State D). KeepsWord (store_of history (new made))
    → MatchResult result (λ page. IsMade (store_of history s) (store_of history (new made)) page content)
    (HasFailed (store_of history s) (store_of history (new made)))) view_is
    (λ word. subst
    (λ (r : Result ℕ TreeFault). MatchResult r
    (λ page. IsMade (store_of history (start history store made retired book new_book count)) (store_of history (new made)) page content)
    (HasFailed (store_of history (start history store made retired book new_book count)) (store_of history (new made)))) (sym is)
    (take_failed history store made retired book new_book count fault refuses word)))

pub allocate_done : {D : Type 0} {listed places : List ℕ} (history : D → History) (store : Store D) (cache : PageCache) (made more : List PageModel)
    (retired : List ℕ) (book new_book : Book)
    (old : State D) → IsKept history store cache made book listed places
    → record { store = store; made = made; retired = retired; book = book } ≡ old → (model : PageModel) → more ≡ made ++ model ∷ []
    → Takes (Some model.page) book new_book → (page : ℕ) → model.page ≡ page → (content : Content) → model.content ≡ content
    → let new : State D = record { store = store; made = more; retired = retired; book = new_book } in KeepsWord (store_of history new)
    → IsMade (store_of history old) (store_of history new) page content
allocate_done {D = D} history store cache made more retired book new_book old so view_is model pushed takes page page_is content content_is =
    let new : List PageModel → Book → State D = λ m b. record { store = store; made = m; retired = retired; book = b } in
    subst (λ (m : List PageModel). KeepsWord (store_of history (new m new_book)) → IsMade (store_of history old) (store_of history (new m new_book)) page
    content)
    (sym pushed)
    (subst (λ (b : Book). KeepsWord (store_of history (new (made ++ model ∷ []) b))
    → IsMade (store_of history old) (store_of history (new (made ++ model ∷ []) b)) page content) (sym takes.1)
    (subst (λ (s : State D). KeepsWord (store_of history (new (made ++ model ∷ []) (taken model.page book)))
    → IsMade (store_of history s) (store_of history (new (made ++ model ∷ []) (taken model.page book))) page content) view_is
    (subst (λ (n : ℕ). KeepsWord (store_of history (new (made ++ model ∷ []) (taken model.page book)))
    → IsMade (store_of history (new made book)) (store_of history (new (made ++ model ∷ []) (taken model.page book))) n content) page_is
    (subst (λ (x : Content). KeepsWord (store_of history (new (made ++ model ∷ []) (taken model.page book)))
    → IsMade (store_of history (new made book)) (store_of history (new (made ++ model ∷ []) (taken model.page book))) model.page x) content_is
    (one_made history store cache made retired book so model takes.0)))))

pub allocate_kept : {D : Type 0} {listed places : List ℕ} (history : D → History) (store : Store D) (cache after_cache : PageCache) (made more : List PageModel)
    (book new_book : Book)
    → IsKept history store cache made book listed places
    → (model : PageModel) → more ≡ made ++ model ∷ [] → Takes (Some model.page) book new_book → (page : ℕ) → model.page ≡ page → kept after_cache page ≡ None
    → ((n : ℕ) → n ≢ page → kept after_cache n ≡ kept cache n)
    → (generation : ℕ) → model.generation ≡ generation → generation ≡ min ((durable_root store).generation + 1) (2 ^ 64 - 1)
    → (at : ℕ) → StandsAt made places page at → (later : List ℕ) → later ≡ insert places at (length made)
    → IsKept history store after_cache more new_book listed later
allocate_kept {listed = listed} {places = places} history store cache after_cache made more book new_book so model pushed takes page page_is this others
    generation born is at stands later put =
    subst (λ (ps : List ℕ). IsKept history store after_cache more new_book listed ps) (sym put)
    (subst (λ (m : List PageModel). IsKept history store after_cache m new_book listed (insert places at (length made))) (sym pushed)
    (subst (λ (b : Book). IsKept history store after_cache (made ++ model ∷ []) b listed (insert places at (length made))) (sym takes.1)
    (one_kept history store cache made [] book so model takes.0 after_cache (ap (kept after_cache) page_is ∙ this)
    (λ n ne. others n (λ same. ne (same ∙ sym page_is))) (omega (arith, born, is)) (omega (arith, born, is)) (omega (arith, born, is)) at
    (subst (λ (n : ℕ). StandsAt made places n at) (sym page_is) stands))))

pub allocate_stays_refused : {D : Type 0} (history : D → History) (store : Store D) (made more : List PageModel) (retired : List ℕ) (book new_book : Book)
    (old : State D) → book.failed_allocations < 2 ^ 64
    → record { store = store; made = made; retired = retired; book = book } ≡ old → more ≡ made → (fault : TreeFault) → Refuses fault book new_book
    → Stays (store_of history old) (store_of history (record { store = store; made = more; retired = retired; book = new_book }))
allocate_stays_refused {D = D} history store made more retired book new_book old count view_is same fault refuses =
    let after : List PageModel → State D = λ m. record { store = store; made = m; retired = retired; book = new_book } in
    subst (λ (m : List PageModel). Stays (store_of history old) (store_of history (after m))) (sym same)
    (subst (λ (s : State D). Stays (store_of history s) (store_of history (after made))) view_is
    (refused_stays history store made retired book new_book count fault refuses))

pub allocate_stays : {D : Type 0} {listed places : List ℕ} (history : D → History) (store : Store D) (cache : PageCache) (made more : List PageModel)
    (retired : List ℕ) (book new_book : Book)
    (old : State D) → IsKept history store cache made book listed places
    → record { store = store; made = made; retired = retired; book = book } ≡ old → (model : PageModel) → more ≡ made ++ model ∷ []
    → Takes (Some model.page) book new_book
    → Stays (store_of history old) (store_of history (record { store = store; made = more; retired = retired; book = new_book }))
allocate_stays {D = D} history store cache made more retired book new_book old so view_is model pushed takes =
    let after : List PageModel → Book → State D = λ m b. record { store = store; made = m; retired = retired; book = b } in
    subst (λ (m : List PageModel). Stays (store_of history old) (store_of history (after m new_book))) (sym pushed)
    (subst (λ (b : Book). Stays (store_of history old) (store_of history (after (made ++ model ∷ []) b))) (sym takes.1)
    (subst (λ (s : State D). Stays (store_of history s) (store_of history (after (made ++ model ∷ []) (taken model.page book)))) view_is
    (one_stays history store cache made retired book so model takes.0)))
