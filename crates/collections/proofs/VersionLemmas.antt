-- Versions are pinned, and keep their collections while the turn goes on, is taken back and is committed.
use Rattle.std.proofs.Common.{◌≡◌, ◌≢◌, ℕ, ◌≤◌, false, [], List, ◌++◌, length, take, drop, reverse, refl, sym, ◌∙◌, ap, subst, arith}
use Rattle.std.specs.Prelude.{◌==◌, not, Result, Ok, Err, IfOk, OnErr}
use Rattle.std.proofs.lemmas.List.{drop-map, length-map, reverse-append, reverse-reverse}
use Rattle.std.proofs.Math.Seq.{drop-append_seam}
use Rattle.page.specs.History.{History, KeepsWord}
use Rattle.tree_model.specs.Keys.{Entry, times}
use Rattle.tree_model.specs.Reach.{HasMap}
use Rattle.tree_model.specs.Store.{Grows, flag}
use Rattle.tree_model.proofs.OnceLemmas.{IsLive, map_live}
use Rattle.roots.specs.Store as stores
use Rattle.roots.specs.Turn.{numbers_of}
use Rattle.roots.specs.declared.store.CommitFault.{CommitFault}
use Rattle.roots.specs.declared.store.CommitFault.TheVariants as faults
use Rattle.roots.specs.declared.store.Store.{Store}
use Rattle.roots.proofs.OneMap.{one_map}
use Rattle.pager.specs.Capacity.{TreesFit}
use Rattle.pager.specs.Commit.{CommitsPages as CommitsPages, CountsTakes}
use Rattle.pager.specs.Pinning.{IsPinned, KeepsOlder, KeepsVersion, KeepsVersions, Pins, TurnGoesOn, Unpins}
use Rattle.pager.specs.State.{State as PagerState}
use Rattle.pager.specs.Turn.{IsBegun, undone_to}
use Rattle.pager.specs.View.{pager_history, store_of}
use Rattle.pager.specs.declared.version.Version.{Version}
use Rattle.pager.proofs.BeginLemmas.{begun_map}
use Rattle.pager.proofs.BookLemmas.{flag_most, one_time}
use Rattle.pager.proofs.CapacityLemmas.{has_times}
use Rattle.pager.proofs.MemberLemmas.{times_append, times_reverse}
use Rattle.pager.proofs.StayLemmas.{versions_stay as pages_stay}
use Rattle.entries.proofs.OneStateLaws.{spells_one}
use Rattle.entry_model.specs.State.{Collection}
use Rattle.entry_model.specs.StateEntries.{Spells}
use Rattle.collections.specs.Calls.{ExtendsTurn}
use Rattle.collections.specs.Laws.{HasOneVersion}
use Rattle.collections.specs.Standing.{IsTurnOf}
use Rattle.collections.specs.State.{State}
use Rattle.collections.specs.Versions.{CommitsVersions, HasOnePinMore, HasSinceStart, HasVersion, KeepsEach, KeepsSinceStart, PinsNow, PinsStay}
use Rattle.collections.specs.Versions.{SinceStartStays, StaysInTurn, UnpinsVersion, VersionsStay, pins_of}
use Rattle.collections.specs.View.{disk_history, is_changed, is_stopped}
use Rattle.collections.proofs.CommitLemmas.{goes_full}
use Rattle.collections.proofs.LawLemmas.{goes_from_itself, goes_further, rested_tree}
use Rattle.collections.proofs.StandingLemmas.{is_at}

-- What the pages of a version keep, its collections keep.
pub version_on : {D : Type 0} (history : D → History) (old new : State D) (version : Version) (collections : List Collection)
    (h : HasVersion history old version collections) → KeepsVersion history version h.pages h.entries new.pager → HasVersion history new version collections
version_on history old new version collections h keeps =
    record { pages = h.pages; entries = h.entries; keeps = keeps; spells = h.spells; state = h.state; few = h.few }

-- ---- while the turn goes on

pub versions_stay : {D : Type 0} (history : D → History) → VersionsStay history
versions_stay history old new continues version collections h =
    version_on history old new version collections h ((pages_stay history old.pager new.pager continues).each version h.pages h.entries h.keeps)

pub has_one_version : {D : Type 0} (history : D → History) → HasOneVersion history
has_one_version history c version a b k one two =
    let same : one.entries ≡ two.entries =
    (one_map (store_of history c.pager) version.root one.pages two.pages one.entries two.entries (one.keeps.holds k) (two.keeps.holds k)).entries_are in
    spells_one one.entries a b one.state two.state one.spells (subst (λ (es : List Entry). Spells es b) (sym same) two.spells)

pub pins_stay : {D : Type 0} (history : D → History) → PinsStay history
pins_stay history old new continues = (pages_stay history old.pager new.pager continues).pins

pub since_start_stays : {D : Type 0} (history : D → History) → SinceStartStays history
since_start_stays history old new continues version collections h =
    record { start = h.start; made = h.made; extends = goes_further history h.start old new h.extends continues; had = h.had }

pub has_still : {D : Type 0} (history : D → History) (c : State D) (version : Version) (collections : List Collection)
    → HasSinceStart history c version collections → HasVersion history c version collections
has_still history c version collections h = versions_stay history h.start c h.extends version collections h.had

-- no page was made yet
begins_so : {D : Type 0} (history : D → History) (c : State D) (version : Version) (collections : List Collection) → c.pager.made ≡ []
    → HasVersion history c version collections → HasSinceStart history c version collections
begins_so history c version collections made h = record { start = c; made = made; extends = goes_from_itself history c; had = h }

-- ---- when it is taken back

-- what was made since a moment of the turn
made_since : (xs ys more : List ℕ) → reverse ys ≡ more ++ reverse xs → drop (length xs) ys ≡ reverse more
made_since xs ys more is =
    ap (drop (length xs)) (sym (reverse-reverse ys) ∙ ap reverse is ∙ reverse-append more (reverse xs) ∙ ap (λ zs. zs ++ reverse more) (reverse-reverse xs))
    ∙ drop-append_seam xs (reverse more)

-- is no page of what was pinned then: its pages were live, and none of them was made again.
older_so : {D : Type 0} (history : D → History) (earlier old : PagerState D) → Grows (store_of history earlier) (store_of history old) → (made : ℕ)
    → made ≡ length earlier.made → (version : Version) (pages : List ℕ) (entries : List Entry) → KeepsVersion history version pages entries earlier
    → KeepsWord (pager_history history old) → (n : ℕ) → 1 ≤ times n pages → times n (numbers_of (drop made old.made)) ≡ 0
older_so history earlier old grows made is version pages entries keeps k n some =
    let frame = grows.frame k in
    let there : IsLive (store_of history earlier) n =
    has_times (IsLive (store_of history earlier)) n pages (map_live (store_of history earlier) version.root pages entries (keeps.holds frame.word)) some in
    let long : made ≡ length (numbers_of earlier.made) = is ∙ sym (length-map earlier.made (λ model. model.page)) in
    let since : numbers_of (drop made old.made) ≡ reverse frame.made_on.0 =
    sym (drop-map (λ model. model.page) made old.made) ∙ ap (λ (m : ℕ). drop m (numbers_of old.made)) long
    ∙ made_since (numbers_of earlier.made) (numbers_of old.made) frame.made_on.0 frame.made_on.1 in
    omega (
      arith,
      frame.made n,
      ap flag there,
      flag_most ((store_of history old).live n),
      ap (times n) frame.made_on.1,
      times_append n frame.made_on.0 (reverse (numbers_of earlier.made)),
      times_reverse n frame.made_on.0,
      ap (times n) since,
    )

pub older_keep : {D : Type 0} (history : D → History) (earlier old : State D) (pager : PagerState D) (root made : ℕ) → ExtendsTurn history earlier old
    → made ≡ length earlier.pager.made → KeepsOlder history made old.pager pager
    → KeepsEach history earlier (record { pager = pager; root = root })
older_keep history earlier old pager root made continues is keeps version collections h =
    version_on history earlier (record { pager = pager; root = root }) version collections h
    (keeps version h.pages h.entries ((pages_stay history earlier.pager old.pager continues).each version h.pages h.entries h.keeps)
    (older_so history earlier.pager old.pager continues made is version h.pages h.entries h.keeps))

pub undone_keeps : {D : Type 0} (history : D → History) (old : State D) (pager : PagerState D) (root made retired : ℕ) → made ≡ 0
    → pager ≡ undone_to made retired old.pager → KeepsOlder history made old.pager pager
    → KeepsSinceStart history old (record { pager = pager; root = root })
undone_keeps {D = D} history old pager root made retired none undone keeps version collections h =
    begins_so history (record { pager = pager; root = root }) version collections
    (ap (λ (p : PagerState D). p.made) undone ∙ ap (λ (n : ℕ). take n old.pager.made) none)
    (older_keep history h.start old pager root made h.extends (none ∙ sym (ap length h.made)) keeps version collections h.had)

-- ---- when it is committed

module _ {D : Type 0} (history : D → History) (old : State D) (pager : PagerState D) (keeps : KeepsVersions history old.pager pager) where
  abbrev after : State D
  after = record old { pager = pager }

  abbrev IsNoDevice : Result (Unit {0}) CommitFault → Type 0
  IsNoDevice result = result ≢ Err faults.Device

  each_kept : KeepsEach history old after
  each_kept version collections h = version_on history old after version collections h (keeps.each version h.pages h.entries h.keeps)

  pub commit_keeps : (result : Result (Unit {0}) CommitFault) → CommitsPages history old.root result old.pager pager
      → CountsTakes result old.pager pager → CommitsVersions history result old after
  commit_keeps (Ok u) commits takes =
      let begun : (version : Version) (collections : List Collection) → HasVersion history old version collections
      → HasSinceStart history after version collections = λ version collections h.
      begins_so history after version collections commits.made (each_kept version collections h) in
      record { each = each_kept; begun = begun; still = λ ne version collections h. begun version collections (has_still history old version collections h) }
  commit_keeps (Err fault) commits takes = record { each = each_kept; begun = tt; still = by_fault fault commits takes }
    where
      as_it_was : pager ≡ old.pager → KeepsSinceStart history old after
      as_it_was same = subst (λ (p : PagerState D). KeepsSinceStart history old (record old { pager = p })) (sym same) (λ version collections h. h)

      by_fault : (fault : CommitFault) → CommitsPages history old.root (Err fault) old.pager pager → CountsTakes (Err fault) old.pager pager
          → IsNoDevice (Err fault) → KeepsSinceStart history old after
      by_fault faults.Memory commits takes ne = as_it_was (commits.memory refl)
      by_fault faults.Full commits takes ne = since_start_stays history old after (goes_full history old pager takes.grows (commits.full refl))
      by_fault faults.Device commits takes ne = absurd (ne refl)

-- ---- a pin and the end of one

module _ {D : Type 0} (history : D → History) (old : State D) (pager : PagerState D) where
  abbrev new : State D
  new = record old { pager = pager }

  -- The turn goes on as one that began where undoing it leads to.
  stays_so : pager.store ≡ old.pager.store → pager.book.failed_allocations ≡ old.pager.book.failed_allocations → TurnGoesOn history old.pager pager
      → StaysInTurn history old new
  stays_so same takes continues = record {
    untouched = record {
      disk = ap (λ (s : Store D). stores.disk_history history s) same;
      stopped = ap (λ (s : Store D). stores.is_stopped s) same;
      version = ap (λ (s : Store D). (stores.durable_root s).generation) same;
      reads = ap (λ (s : Store D). stores.failed_reads s) same;
    };
    takes = takes;
    unchanged = ap (λ (s : Store D). not (old.root == (stores.durable_root s).tree)) same;
    state = λ start now has running k.
        let t : IsTurnOf history old start now =
        has (ap (λ (s : Store D). stores.is_stopped s) (sym same) ∙ running) (subst (λ (s : Store D). KeepsWord (stores.disk_history history s)) same k) in
        record {
          began = undone_to 0 0 pager;
          live = t.live;
          before = t.before;
          begun = continues.begun t.began t.live t.before t.begun t.turn.grows;
          spells_start = t.spells_start;
          start_state = t.start_state;
          pages = t.pages;
          after = t.after;
          turn = continues.turn t.began t.live t.before t.begun old.root t.pages t.after t.turn k;
          spells_now = t.spells_now;
          now_state = t.now_state;
        };
    since_start = λ version collections h pinned. record {
      start = record { pager = undone_to 0 0 pager; root = h.start.root };
      made = refl;
      extends = continues.grows;
      had = version_on history h.start (record { pager = undone_to 0 0 pager; root = h.start.root }) version collections h.had
          (continues.versions h.start.pager h.made h.extends version h.had.pages h.had.entries h.had.keeps pinned);
    };
  }

  -- The tree of a turn that has changed nothing is there still where undoing it leads to.
  rested_pin : {start now : List Collection} (t : IsTurnOf history old start now) → KeepsWord (disk_history history old) → is_changed old ≡ false
      → length t.after ≤ 4294967295 → pager.store ≡ old.pager.store → TurnGoesOn history old.pager pager → (version : Version)
      → version.root ≡ old.root → KeepsVersion history version t.pages t.after pager → HasSinceStart history new version now
  rested_pin {start} {now} t k clean few same continues version root keeps =
      let began = undone_to 0 0 pager in
      let begun : IsBegun history began t.live t.before = continues.begun t.began t.live t.before t.begun t.turn.grows in
      let trees = rested_tree history old start now t k clean in
      let tree : (stores.durable_root pager.store).tree ≡ version.root =
      ap (λ (s : Store D). (stores.durable_root s).tree) same ∙ sym (is_at old.root (stores.durable_root old.pager.store).tree clean) ∙ sym root in
      record {
        start = record { pager = began; root = old.root };
        made = refl;
        extends = continues.grows;
        had = record {
          pages = t.pages;
          entries = t.after;
          keeps = record {
            pinned = keeps.pinned;
            since = keeps.since;
            waits = keeps.waits;
            holds = λ word.
                subst (λ (page : ℕ). HasMap (store_of history began) page t.pages t.after) tree
                (subst (λ (es : List Entry). HasMap (store_of history began) (stores.durable_root pager.store).tree t.pages es) (sym trees.0)
                (subst (λ (ps : List ℕ). HasMap (store_of history began) (stores.durable_root pager.store).tree ps t.before) (sym trees.1)
                (begun_map history began t.live t.before begun word)));
          };
          spells = t.spells_now;
          state = t.now_state;
          few = few;
        };
      }

  pinned_version : {E : Type 0} (result : Result Version E) → Pins history old.root result old.pager pager
      → IfOk result (λ version. IsPinned version pager)
  pinned_version (Ok version) pins =
      let generation = (stores.durable_root old.pager.store).generation in
      subst (λ (v : Version). IsPinned v pager) (sym pins.version)
      (omega (arith, pins.counts generation, one_time generation generation old.pager.book.pins refl))
  pinned_version (Err e) pins = tt

  one_pin_more : {E : Type 0} (result : Result Version E) → Pins history old.root result old.pager pager
      → IfOk result (λ version. HasOnePinMore version (pins_of old) (pins_of new))
  one_pin_more (Ok version) pins = subst (λ (v : Version). HasOnePinMore v (pins_of old) (pins_of new)) (sym pins.version) pins.counts
  one_pin_more (Err e) pins = tt

  store_of_pin : {E : Type 0} (result : Result Version E) → Pins history old.root result old.pager pager → pager.store ≡ old.pager.store
  store_of_pin (Ok version) pins = ap (λ (p : PagerState D). p.store) pins.pinned
  store_of_pin (Err e) pins = ap (λ (p : PagerState D). p.store) pins.err

  takes_of_pin : {E : Type 0} (result : Result Version E) → Pins history old.root result old.pager pager
      → pager.book.failed_allocations ≡ old.pager.book.failed_allocations
  takes_of_pin (Ok version) pins = ap (λ (p : PagerState D). p.book.failed_allocations) pins.pinned
  takes_of_pin (Err e) pins = ap (λ (p : PagerState D). p.book.failed_allocations) pins.err

  old_of_pin : {E : Type 0} (result : Result Version E) → Pins history old.root result old.pager pager → OnErr result (new ≡ old)
  old_of_pin (Ok version) pins = tt
  old_of_pin (Err e) pins = ap (λ (p : PagerState D). record old { pager = p }) pins.err

  pub pins_so : {E : Type 0} (result : Result Version E) → TreesFit history old.pager → Pins history old.root result old.pager pager
      → PinsNow history result old new
  pins_so {E = E} result fits pins = record {
    version = λ start now running k has. let t : IsTurnOf history old start now = has running k in
        has_pinned t result (pins.keeps t.began t.live t.before t.begun t.pages t.after (λ _. t.turn))
        (omega (arith, (fits t.began t.live t.before t.begun old.root t.pages t.after t.turn k).few));
    rested = λ start now running k has clean. let t : IsTurnOf history old start now = has running k in
        rested_so t k clean (omega (arith, (fits t.began t.live t.before t.begun old.root t.pages t.after t.turn k).few)) result pins
        (pins.keeps t.began t.live t.before t.begun t.pages t.after (λ _. t.turn));
    pinned = pinned_version result pins;
    once = one_pin_more result pins;
    stays = stays_so (store_of_pin result pins) (takes_of_pin result pins) pins.goes_on;
    others = λ version collections h. version_on history old new version collections h (pins.others version h.pages h.entries h.keeps);
    err = old_of_pin result pins;
  }
    where
      has_pinned : {start now : List Collection} (t : IsTurnOf history old start now) (result : Result Version E)
          → IfOk result (λ version. KeepsVersion history version t.pages t.after pager) → length t.after ≤ 4294967295
          → IfOk result (λ version. HasVersion history new version now)
      has_pinned t (Ok version) keeps few =
          record { pages = t.pages; entries = t.after; keeps = keeps; spells = t.spells_now; state = t.now_state; few = few }
      has_pinned t (Err e) keeps few = tt

      rested_so : {start now : List Collection} (t : IsTurnOf history old start now) → KeepsWord (disk_history history old) → is_changed old ≡ false
          → length t.after ≤ 4294967295 → (result : Result Version E) → Pins history old.root result old.pager pager
          → IfOk result (λ version. KeepsVersion history version t.pages t.after pager)
          → IfOk result (λ version. HasSinceStart history new version now)
      rested_so t k clean few (Ok version) pins keeps =
          rested_pin t k clean few (store_of_pin (Ok version) pins) pins.goes_on version (ap (λ (v : Version). v.root) pins.version) keeps
      rested_so t k clean few (Err e) pins keeps = tt

  pub unpins_so : (version : Version) → Unpins history version old.pager pager → UnpinsVersion history version old new
  unpins_so version unpins = record {
    once = unpins.counts;
    stays = stays_so (ap (λ (p : PagerState D). p.store) unpins.unpinned)
        (ap (λ (p : PagerState D). p.book.failed_allocations) unpins.unpinned) unpins.goes_on;
    others = λ other collections h pinned.
        version_on history old new other collections h (unpins.others other h.pages h.entries h.keeps pinned);
  }
