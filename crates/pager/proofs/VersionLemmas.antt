-- A version is pinned, and kept while others are pinned and unpinned.
use Rattle.std.proofs.Common.{◌≡◌, ℕ, ◌<◌, ◌≤◌, true, List, [], ◌∷◌, length, get_or, refl, sym, ◌∙◌, ap, subst, arith, inl, inr}
use Rattle.std.specs.Prelude.{◌&&◌, is_ok, nat_lt, not, IsErr, Result, Ok, Err}
use Rattle.std.specs.List.{AllByRecursion}
use Rattle.std.proofs.lemmas.Bool.{cases_lt}
use Rattle.std.proofs.lemmas.List.{get_or_past}
use Rattle.page.specs.Format.{PageModel}
use Rattle.page.specs.History.{History, KeepsWord}
use Rattle.page.specs.declared.page_cache.PageCache.{PageCache}
use Rattle.tree_model.specs.Keys.{Entry, times}
use Rattle.tree_model.specs.Reach.{HasMap}
use Rattle.tree_model.proofs.ReachLemmas.{Moves, map_moved}
use Rattle.freelist.specs.Book.{Book, is_free_state, is_pinned, pinned, unpinned, without}
use Rattle.freelist.specs.Sound.{retired_count, times as listed}
use Rattle.freelist.specs.declared.states.PageState.TheVariants as states
use Rattle.freelist.specs.declared.turns.Retirement.{Retirement}
use Rattle.roots.specs.Store.{durable_root}
use Rattle.roots.specs.declared.store.Store.{Store}
use Rattle.pager.specs.Commit.{IsTurn}
use Rattle.pager.specs.Kept.{IsBookFor, IsKept}
use Rattle.pager.specs.Pinning.{IsPinned, KeepsEach, KeepsVersion, Pins, Unpins, WaitSince}
use Rattle.pager.specs.State.{State}
use Rattle.pager.specs.Turn.{IsBegun}
use Rattle.pager.specs.View.{pager_history, models_of, store_of}
use Rattle.pager.specs.declared.version.Version.{Version}
use Rattle.pager.proofs.AgainLemmas.{goes_on_with, tree_in_use}
use Rattle.pager.proofs.BookLemmas.{LeavesUse, booked_leaves, each_listed, freed_kept, nothing_leaves, one_time, pin_leaves, unpin_leaves, used_unlisted}
use Rattle.pager.proofs.CapacityLemmas.{each_there}
use Rattle.pager.proofs.ListLemmas.{all_weaker}
use Rattle.pager.proofs.MemberLemmas.{all_filter, times_append}
use Rattle.pager.proofs.OrderLemmas.{all_positive}
use Rattle.pager.proofs.StayLemmas.{map_at, pinned_since, times_without}

-- ---- a pin

module _ {D : Type 0} (history : D → History) (p : State D) (booked : IsBookFor p.made p.book) where
  abbrev generation : ℕ
  generation = (durable_root p.store).generation

  abbrev pinned_now : State D
  pinned_now = record { store = p.store; made = p.made; retired = p.retired; book = pinned generation p.book }

  -- none of the pages of the turn's tree waits
  module _ (start : State D) (live : List ℕ) (before : List Entry) (begun : IsBegun history start live before) (root : ℕ) (pages : List ℕ)
      (after : List Entry) (turn : IsTurn history start p root live pages after) (k : KeepsWord (pager_history history p)) where
    not_listed : (n : ℕ) → 1 ≤ listed n p.book.waiting → 1 ≤ times n pages → ⊥
    not_listed n some reached = elim (cases_lt n (length p.book.states)) [
      | inl within ↦
          omega (
            arith,
            some,
            used_unlisted p.book booked.sound n (tree_in_use history p start live before begun booked root pages after turn k n reached within),
          )
      | inr past ↦ omega (arith, some, booked.sound.listed n, ap retired_count (get_or_past p.book.states n states.Free past))
    ]

    new_waits : WaitSince generation pages p.book.waiting
    new_waits = all_weaker (λ (r : Retirement). 1 ≤ listed r.page p.book.waiting)
        (λ (r : Retirement). 1 ≤ times r.page pages → generation ≤ r.version)
        (λ r some reached. absurd (not_listed r.page some reached)) p.book.waiting (each_listed p.book.waiting)

  -- a tree is there still
  pinned_map : (root : ℕ) (pages : List ℕ) (entries : List Entry) → HasMap (store_of history p) root pages entries
      → HasMap (store_of history pinned_now) root pages entries
  pinned_map root pages entries =
      map_at (store_of history p) (store_of history pinned_now) root pages entries
      (λ n content at. record { number = at.number; live = at.live; holds = at.holds })

  pub pin_keeps : (root : ℕ) (start : State D) (live : List ℕ) (before : List Entry) → IsBegun history start live before → (pages : List ℕ)
      (after : List Entry) → (KeepsWord (pager_history history p) → IsTurn history start p root live pages after)
      → KeepsVersion history (record { generation = generation; root = root }) pages after pinned_now
  pin_keeps root start live before begun pages after turn = record {
    pinned = omega (arith, times_append generation p.book.pins (generation ∷ []), one_time generation generation [] refl);
    since = omega arith;
    waits = λ k. new_waits start live before begun root pages after (turn k) k;
    holds = λ k. pinned_map root pages after (turn k).holds;
  }

  pub pin_each : KeepsEach history p pinned_now
  pin_each version pages entries keeps = record {
    pinned = omega (arith, keeps.pinned, times_append version.generation p.book.pins (generation ∷ []));
    since = keeps.since;
    waits = keeps.waits;
    holds = λ k. pinned_map version.root pages entries (keeps.holds k);
  }

-- ---- the end of one

module _ {D : Type 0} (history : D → History) (p : State D) (gone : ℕ) where
  abbrev pins : List ℕ
  pins = without gone p.book.pins

  abbrev unpinned_now : State D
  unpinned_now = record { store = p.store; made = p.made; retired = p.retired; book = unpinned gone p.book }

  module _ (version : Version) (pages : List ℕ) (entries : List Entry) (keeps : KeepsVersion history version pages entries p)
      (still : IsPinned version unpinned_now) (k : KeepsWord (pager_history history p)) where
    state_same : (n : ℕ) → 1 ≤ times n pages → get_or unpinned_now.book.states n states.Retired ≡ get_or p.book.states n states.Retired
    state_same n some =
        freed_kept pins p.book.waiting n p.book.states states.Retired
        (all_weaker (λ (r : Retirement). 1 ≤ times r.page pages → version.generation ≤ r.version)
        (λ (r : Retirement). r.page ≡ n → is_pinned pins r.version ≡ true)
        (λ r since is. pinned_since version.generation r.version pins still (since (subst (λ (m : ℕ). 1 ≤ times m pages) (sym is) some)))
        p.book.waiting (keeps.waits k))

    moved : (n : ℕ) → 1 ≤ times n pages → Moves (store_of history p) (store_of history unpinned_now) n
    moved n some content at = record {
      number = at.number;
      live = (λ i. is_ok (models_of history p n) && not (nat_lt 0 n && is_free_state (state_same n some i))) ∙ at.live;
      holds = at.holds;
    }

  pub unpin_each : (version : Version) (pages : List ℕ) (entries : List Entry) → KeepsVersion history version pages entries p
      → IsPinned version unpinned_now → KeepsVersion history version pages entries unpinned_now
  unpin_each version pages entries keeps still = record {
    pinned = still;
    since = keeps.since;
    waits = λ k. all_filter (λ (r : Retirement). 1 ≤ times r.page pages → version.generation ≤ r.version)
        (λ (r : Retirement). is_pinned pins r.version) p.book.waiting (keeps.waits k);
    holds = λ k. map_moved (store_of history p) (store_of history unpinned_now) version.root pages entries
        (each_there (Moves (store_of history p) (store_of history unpinned_now)) pages (moved version pages entries keeps still k)) (keeps.holds k);
  }

-- ---- as the calls have it

pub kept_with : {D : Type 0} {listed places : List ℕ} (history : D → History) (store : Store D) (cache : PageCache) (made : List PageModel) (book other : Book)
    → LeavesUse book other → IsKept history store cache made book listed places → IsKept history store cache made other listed places
kept_with history store cache made book other leaves so = record {
  cached = so.cached;
  order = so.order;
  each = so.each;
  booked = booked_leaves made book other leaves so.booked;
  listed = so.listed;
  wide = omega (arith, so.wide, leaves.long);
}

pub kept_pinned : {D : Type 0} {listed places : List ℕ} (history : D → History) (store : Store D) (cache : PageCache) (made : List PageModel) (book : Book)
    (generation : ℕ) (other : Book) → other ≡ pinned generation book → IsKept history store cache made book listed places
    → IsKept history store cache made other listed places
kept_pinned {listed = listed} {places = places} history store cache made book generation other is so =
    subst (λ (b : Book). IsKept history store cache made b listed places) (sym is)
    (kept_with history store cache made book (pinned generation book) (pin_leaves generation book so.booked.sound) so)

pub kept_unpinned : {D : Type 0} {listed places : List ℕ} (history : D → History) (store : Store D) (cache : PageCache) (made : List PageModel) (book : Book)
    (generation : ℕ) (other : Book) → other ≡ unpinned generation book → IsKept history store cache made book listed places
    → IsKept history store cache made other listed places
kept_unpinned {listed = listed} {places = places} history store cache made book generation other is so =
    subst (λ (b : Book). IsKept history store cache made b listed places) (sym is)
    (kept_with history store cache made book (unpinned generation book) (unpin_leaves generation book so.booked.sound) so)

module _ {D : Type 0} {listed places : List ℕ} (history : D → History) (store : Store D) (cache : PageCache) (made : List PageModel) (retired : List ℕ)
    (book : Book) (so : IsKept history store cache made book listed places) where
  abbrev now_with : Book → State D
  now_with other = record { store = store; made = made; retired = retired; book = other }

  positive : AllByRecursion (λ (m : PageModel). 0 < m.page) made
  positive = all_positive made places so.order

  pins_now : {E : Type 0} (root : ℕ)
      → let version : Version = record { generation = (durable_root store).generation; root = root } in
      Pins history root {E = E} (Ok version) (now_with book) (now_with (pinned (durable_root store).generation book))
  pins_now root = record {
    pinned = refl;
    version = refl;
    counts = λ n. omega (arith, times_append n book.pins ((durable_root store).generation ∷ []));
    err = tt;
    keeps = pin_keeps history (now_with book) so.booked root;
    others = pin_each history (now_with book) so.booked;
    goes_on = goes_on_with history (now_with book) so.booked positive (pinned (durable_root store).generation book)
        (pin_leaves (durable_root store).generation book so.booked.sound)
        (λ version pages entries keeps still. pin_each history (now_with book) so.booked version pages entries keeps);
  }

  pub pins_done : {E : Type 0} (root generation : ℕ) (other : Book) (old : State D) → now_with book ≡ old → generation ≡ (durable_root store).generation
      → other ≡ pinned generation book → Pins history root {E = E} (Ok (record { generation = generation; root = root })) old (now_with other)
  pins_done {E = E} root generation other old view_is is done =
      subst (λ (s : State D). Pins history root {E = E} (Ok (record { generation = generation; root = root })) s (now_with other)) view_is
      (subst (λ (b : Book). Pins history root {E = E} (Ok (record { generation = generation; root = root })) (now_with book) (now_with b)) (sym done)
      (subst (λ (n : ℕ). Pins history root {E = E} (Ok (record { generation = n; root = root })) (now_with book) (now_with (pinned n book))) (sym is)
      (pins_now root)))

  pins_nothing : {E : Type 0} (root : ℕ) (result : Result Version E) → IsErr result → Pins history root result (now_with book) (now_with book)
  pins_nothing root (Ok version) is = absurd cc
  pins_nothing root (Err e) is = record {
    pinned = tt;
    version = tt;
    counts = tt;
    err = refl;
    keeps = λ start live before begun pages after turn. tt;
    others = λ version pages entries keeps. keeps;
    goes_on = goes_on_with history (now_with book) so.booked positive book (nothing_leaves book so.booked.sound)
        (λ version pages entries keeps still. keeps);
  }

  pub pins_failed : {E : Type 0} (root : ℕ) (result : Result Version E) (other : Book) (old : State D) → now_with book ≡ old → IsErr result → other ≡ book
      → Pins history root result old (now_with other)
  pins_failed root result other old view_is is same =
      subst (λ (s : State D). Pins history root result s (now_with other)) view_is
      (subst (λ (b : Book). Pins history root result (now_with book) (now_with b)) (sym same) (pins_nothing root result is))

  unpins_now : (version : Version) → Unpins history version (now_with book) (now_with (unpinned version.generation book))
  unpins_now version = record {
    unpinned = refl;
    counts = times_without version.generation book.pins;
    others = unpin_each history (now_with book) version.generation;
    goes_on = goes_on_with history (now_with book) so.booked positive (unpinned version.generation book)
        (unpin_leaves version.generation book so.booked.sound) (unpin_each history (now_with book) version.generation);
  }

  pub unpins_done : (version : Version) (other : Book) (old : State D) → now_with book ≡ old → other ≡ unpinned version.generation book
      → Unpins history version old (now_with other)
  unpins_done version other old view_is done =
      subst (λ (s : State D). Unpins history version s (now_with other)) view_is
      (subst (λ (b : Book). Unpins history version (now_with book) (now_with b)) (sym done) (unpins_now version))
