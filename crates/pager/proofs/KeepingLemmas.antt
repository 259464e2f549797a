-- A commit keeps each version that is pinned.
use Rattle.std.proofs.Common.{◌≡◌, ◌≢◌, ℕ, ◌+◌, ◌≤◌, Bool, true, false, List, [], ◌∷◌, length, refl, sym, ◌∙◌, ap, subst, arith, inl, inr, None}
use Rattle.std.specs.Prelude.{◌&&◌, ◌||◌, is_ok, not, Result, Ok, Err}
use Rattle.std.specs.List.{AllByRecursion}
use Rattle.std.proofs.lemmas.Bool.{cases_Bool, cases_eq}
use Rattle.page.specs.Cache.{kept}
use Rattle.page.specs.Content.{IsContent, is_of_tree}
use Rattle.page.specs.Format.{PageModel}
use Rattle.page.specs.History.{History, KeepsWord, now, reads}
use Rattle.page.specs.PageLaws.{IsPageModel}
use Rattle.page.specs.declared.page_cache.PageCache.{PageCache}
use Rattle.page.specs.declared.page_fault.PageFault.{PageFault}
use Rattle.tree_model.specs.Keys.{Entry, times}
use Rattle.tree_model.specs.Reach.{HasMap}
use Rattle.tree_model.proofs.ListLemmas.{each_map}
use Rattle.tree_model.proofs.ReachLemmas.{Moves, map_moved}
use Rattle.freelist.specs.Book.{Book, committed, is_free, is_in_use, is_pinned, retired, retired_in, taken}
use Rattle.freelist.specs.FreeList.{first_page, written}
use Rattle.freelist.specs.ListWriting.{IsMade, TakesAll}
use Rattle.freelist.specs.declared.states.PageState.{PageState}
use Rattle.freelist.specs.declared.turns.Retirement.{Retirement}
use Rattle.freelist.proofs.SoundBooks.{retired_in_retired, retired_in_taken}
use Rattle.roots.specs.declared.root.Root.{Root}
use Rattle.roots.specs.declared.store.CommitFault.{CommitFault}
use Rattle.roots.specs.declared.store.CommitFault.TheVariants as faults
use Rattle.roots.specs.declared.store.Store.{Store}
use Rattle.roots.specs.Commit.{LeavesPages}
use Rattle.roots.specs.Image.{content_in, model_at}
use Rattle.roots.specs.Listed.{list_models}
use Rattle.roots.specs.Store.{disk_history, durable_root}
use Rattle.roots.specs.Turn.{LieBehind, next_root}
use Rattle.roots.proofs.WalkLemmas.{IsFound, found_at}
use Rattle.pager.specs.Kept.{IsKept, IsNew, takes_of}
use Rattle.pager.specs.Order.{pages_at}
use Rattle.pager.specs.Pinning.{KeepsVersion, KeepsVersions, WaitSince}
use Rattle.pager.specs.Planning.{PlanFails, next_generation, pages_with}
use Rattle.pager.specs.State.{State}
use Rattle.pager.specs.View.{models_of, store_of}
use Rattle.pager.specs.Writing.{IsAmong, KeepsAll, retired_all}
use Rattle.pager.specs.declared.version.Version.{Version}
use Rattle.pager.proofs.AfterLemmas.{each_there, next_is, still_failed, still_there}
use Rattle.pager.proofs.BookLemmas.{all_pins, all_waiting, freed_none}
use Rattle.pager.proofs.ListLemmas.{all_joined, all_more, all_weaker, made_none}
use Rattle.pager.proofs.ListedLemmas.{free_before, models_of as each_model}
use Rattle.pager.proofs.MemberLemmas.{all_among, all_filter, among_filter, member}
use Rattle.pager.proofs.MergeLemmas.{all_merged, among_first}
use Rattle.pager.proofs.OrderLemmas.{all_at, in_order}
use Rattle.pager.proofs.PlanLemmas.{all, all_lie, all_new, all_models, free_then, planned, tree, wide}
use Rattle.pager.proofs.TakeLemmas.{not_free, others_free}
use Rattle.pager.proofs.TreeLemmas.{IsOfTree, map_pages}
use Rattle.pager.proofs.StayLemmas.{map_at, pinned_since}

-- ---- what a commit makes of the book

abbrev AreSince : ℕ → List Retirement → Type 0
AreSince version rs = AllByRecursion (λ (r : Retirement). version ≤ r.version) rs

retired_since : (v p : ℕ) (b : Book) → AreSince v (retired_in b.turn) → AreSince v (retired_in (retired p v b).turn)
retired_since v p b since = elim (cases_Bool (is_in_use b.states p)) [
  | inl so ↦ rw so (subst (AreSince v) (sym (retired_in_retired b.turn p v))
      (all_more (λ (r : Retirement). v ≤ r.version) (retired_in b.turn) (record { page = p; version = v }) since (omega arith)))
  | inr not_so ↦ rw not_so since
]

all_since : (v : ℕ) (pages : List ℕ) (b : Book) → AreSince v (retired_in b.turn) → AreSince v (retired_in (retired_all v pages b).turn)
all_since v [] b since = since
all_since v (p ∷ pages) b since = all_since v pages (retired p v b) (retired_since v p b since)

taken_since : (v : ℕ) (pages : List ℕ) (b final : Book) → TakesAll pages b final → AreSince v (retired_in b.turn) → AreSince v (retired_in final.turn)
taken_since v [] b final same since = subst (λ (c : Book). AreSince v (retired_in c.turn)) (sym same) since
taken_since v (p ∷ pages) b final takes since =
    taken_since v pages (taken p b) final takes.1 (subst (AreSince v) (sym (retired_in_taken b.turn p)) since)

takes_retire_none : (made : List PageModel) → retired_in (takes_of made) ≡ []
takes_retire_none [] = refl
takes_retire_none (m ∷ made) = takes_retire_none made

-- what is free after some takes was free before
free_before_takes : (pages : List ℕ) (b final : Book) → TakesAll pages b final → (n : ℕ) → is_free final.states n ≡ true → is_free b.states n ≡ true
free_before_takes [] b final same n free = ap (λ (c : Book). is_free c.states n) (sym same) ∙ free
free_before_takes (p ∷ pages) b final takes n free =
    let free_then : is_free (taken p b).states n ≡ true = free_before_takes pages (taken p b) final takes.1 n free in
    elim (cases_eq n p) [
      | inl is ↦ let never : true ≡ false = sym free_then ∙ ap (is_free (taken p b).states) is ∙ not_free b p takes.0 in absurd cc
      | inr ne ↦ sym (others_free b p takes.0 n ne) ∙ free_then
    ]

never_free : (a b : Bool) → (a ≡ true → b ≡ true) → b ≡ false → a ≡ false
never_free false b to not_b = refl
never_free true b to not_b = let never : true ≡ false = sym (to refl) ∙ not_b in absurd cc

or_true : (a b : Bool) → b ≡ true → (a || b) ≡ true
or_true true b is = refl
or_true false b is = is

first_part : (a b : Bool) → (a && b) ≡ true → a ≡ true
first_part true b is = refl
first_part false b is = absurd cc

-- a page that is live isn't free
last_part : (a b : Bool) → (a && not b) ≡ true → b ≡ false
last_part true true is = absurd cc
last_part true false is = refl
last_part false b is = absurd cc

-- ---- a book that counts otherwise

module _ {D : Type 0} (history : D → History) (store : Store D) (made : List PageModel) (retired_now : List ℕ) (book : Book) where
  abbrev counts : ℕ → State D
  counts count = record { store = store; made = made; retired = retired_now; book = record book { failed_allocations = count } }

  pub counted_versions : (count : ℕ) → KeepsVersions history (record { store = store; made = made; retired = retired_now; book = book }) (counts count)
  counted_versions count = record {
    pins = refl;
    each = λ version pages entries keeps. record {
      pinned = keeps.pinned;
      since = keeps.since;
      waits = keeps.waits;
      holds = λ k. map_at (store_of history (counts book.failed_allocations)) (store_of history (counts count)) version.root pages entries
          (λ n content at. record { number = at.number; live = at.live; holds = at.holds }) (keeps.holds k);
    };
  }

planned_same : (root : Root) (made : List PageModel) (pages : List ℕ) (fault : CommitFault) (old new : Book) → PlanFails root made pages fault old new
    → new ≡ record old { failed_allocations = new.failed_allocations }
planned_same root made pages faults.Memory old new is = let back = sym is in is ∙ (λ i. record old { failed_allocations = (back i).failed_allocations })
planned_same root made pages faults.Full old new (lacks, is) = let back = sym is in is ∙ (λ i. record old { failed_allocations = (back i).failed_allocations })
planned_same root made pages faults.Device old new is = absurd is

pub planned_versions : {D : Type 0} (history : D → History) (store : Store D) (made : List PageModel) (retired_now : List ℕ) (book other : Book)
    (root : Root) (written : List PageModel) (pages : List ℕ) (fault : CommitFault) → PlanFails root written pages fault book other
    → KeepsVersions history (record { store = store; made = made; retired = retired_now; book = book })
    (record { store = store; made = made; retired = retired_now; book = other })
planned_versions history store made retired_now book other root written pages fault fails =
    subst (λ (b : Book). KeepsVersions history (record { store = store; made = made; retired = retired_now; book = book })
    (record { store = store; made = made; retired = retired_now; book = b })) (sym (planned_same root written pages fault book other fails))
    (counted_versions history store made retired_now book other.failed_allocations)

-- ---- what is written and what isn't

module _ {D : Type 0} {listed places : List ℕ} (history : D → History) (store : Store D) (cache : PageCache) (made : List PageModel) (retired_now gone : List ℕ)
    (book : Book) (so : IsKept history store cache made book listed places) (pages named : List ℕ) (final : Book)
    (list : IsMade (pages_with (durable_root store) (tree history store cache made gone book so)) pages named
    (planned history store cache made gone book so) final) (uncached : (n : ℕ) → 1 ≤ times n pages → kept cache n ≡ None) where
  abbrev p : State D
  p = record { store = store; made = made; retired = retired_now; book = book }

  abbrev mid : Book
  mid = planned history store cache made gone book so

  abbrev those : List PageModel
  those = tree history store cache made gone book so

  abbrev written_all : List PageModel
  written_all = all history store cache made gone book so pages named final list

  abbrev version : ℕ
  version = (durable_root store).generation

  abbrev models : List PageModel
  models = list_models (next_generation (durable_root store)) (written pages named)

  abbrev test : PageModel → Bool
  test model = is_of_tree model.content && (is_in_use mid.states model.page || is_pinned mid.pins version)

  abbrev disk : ℕ → Result PageModel PageFault
  disk n = model_at (reads (now (disk_history history store))) (durable_root store) n

  lies : LieBehind 0 written_all
  lies = all_lie history store cache made gone book so pages named final list

  news : AllByRecursion (IsNew version cache) written_all
  news = all_new history store cache made gone book so pages named final list uncached

  -- a page that the turn didn't make and that isn't free isn't written
  none_written : (n : ℕ) → is_free book.states n ≡ false → AllByRecursion (λ (m : PageModel). m.page ≢ n) made
      → AllByRecursion (λ (m : PageModel). m.page ≢ n) written_all
  none_written n not_free_now none =
      all_merged (λ (m : PageModel). m.page ≢ n) those models
      (all_filter (λ (m : PageModel). m.page ≢ n) test (pages_at made places) (all_at (λ (m : PageModel). m.page ≢ n) made places so.order.inside none))
      (each_model (λ (m : PageModel). m.page ≢ n) (next_generation (durable_root store)) pages named (λ m is taken_now same.
      let never : true ≡ false =
      sym (free_then history store cache made gone book so pages named final list m.page taken_now) ∙ ap (is_free book.states) same ∙ not_free_now in
      absurd cc))

  -- ---- the commit failed

  module _ (new : Store D) (root free_list free_count : ℕ) (fault : CommitFault)
      (leaves : LeavesPages history written_all root free_list free_count (Err fault) store new)
      (extends : KeepsWord (disk_history history new) → KeepsWord (disk_history history store)) where
    abbrev failed_now : State D
    failed_now = record { store = new; made = made; retired = retired_now; book = book }

    module _ (k : KeepsWord (disk_history history new)) where
      failed_page : (n : ℕ) → Moves (store_of history p) (store_of history failed_now) n
      failed_page n content at =
          let there : is_ok (models_of history p n) ≡ true = first_part (is_ok (models_of history p n)) _ at.live in
          let not_free_now : is_free book.states n ≡ false = last_part (is_ok (models_of history p n)) (is_free book.states n) at.live in
          elim (member made n) [
            | inl none ↦
                let found : IsFound (models_of history p n) content = found_at (models_of history p) n content there at.holds in
                let was : disk n ≡ Ok found.model = sym (made_none made n (disk n) none) ∙ found.is in
                let is : models_of history failed_now n ≡ Ok found.model =
                made_none made n _ none
                ∙ still_failed history store cache so.cached written_all lies news new root free_list free_count fault leaves k n found.model was
                (none_written n not_free_now none) in
                record { number = at.number; live = (λ i. is_ok (is i) && not (not_free_now i)); holds = ap content_in is ∙ found.holds }
            | inr r ↦
                let was : models_of history p n ≡ Ok r.model = r.there (disk n) in
                let is : models_of history failed_now n ≡ Ok r.model = r.there _ in
                record { number = at.number; live = (λ i. is_ok (is i) && not (not_free_now i)); holds = ap content_in (is ∙ sym was) ∙ at.holds }
          ]

    pub failed_keeps : KeepsVersions history p failed_now
    failed_keeps = record {
      pins = refl;
      each = λ pin reached entries keeps. record {
        pinned = keeps.pinned;
        since = subst (λ (r : Root). pin.generation ≤ r.generation) (sym leaves.still) keeps.since;
        waits = λ k. keeps.waits (extends k);
        holds = λ k. map_at (store_of history p) (store_of history failed_now) pin.root reached entries (failed_page k) (keeps.holds (extends k));
      };
    }

  -- ---- it was done

  pins_same : final.pins ≡ book.pins
  pins_same = (wide history store cache made gone book so pages named final list).pins ∙ all_pins version gone book

  waiting_same : final.waiting ≡ book.waiting
  waiting_same = (wide history store cache made gone book so pages named final list).waiting ∙ all_waiting version gone book

  -- what the turn retired, it did at the version from before
  since_then : AreSince version (retired_in final.turn)
  since_then =
      taken_since version pages mid final list.takes
      (all_since version gone book
      (subst (AreSince version) (sym (ap retired_in so.booked.turn ∙ takes_retire_none made)) tt))

  module _ (pin : Version) (reached : List ℕ) (entries : List Entry) (keeps : KeepsVersion history pin reached entries p) (last : ℕ) where
    -- so nothing is freed
    states_same : (committed last final).states ≡ final.states
    states_same =
        freed_none final.pins (retired_in final.turn) final.states
        (all_weaker (λ (r : Retirement). version ≤ r.version) (λ (r : Retirement). is_pinned final.pins r.version ≡ true)
        (λ r later. subst (λ (pins : List ℕ). is_pinned pins r.version ≡ true) (sym pins_same)
        (pinned_since pin.generation r.version book.pins keeps.pinned (omega (arith, keeps.since, later)))) (retired_in final.turn) since_then)

    free_after : (n : ℕ) → is_free book.states n ≡ false → is_free (committed last final).states n ≡ false
    free_after n not_free_now =
        never_free (is_free (committed last final).states n) (is_free book.states n)
        (λ free. free_before version gone book n (free_before_takes pages mid final list.takes n
        (ap (λ (pages : List PageState). is_free pages n) (sym states_same) ∙ free))) not_free_now

    waits_after : WaitSince pin.generation reached book.waiting → WaitSince pin.generation reached (committed last final).waiting
    waits_after waits =
        all_joined (λ (r : Retirement). 1 ≤ times r.page reached → pin.generation ≤ r.version) final.waiting _
        (subst (WaitSince pin.generation reached) (sym waiting_same) waits)
        (all_filter (λ (r : Retirement). 1 ≤ times r.page reached → pin.generation ≤ r.version) (λ (r : Retirement). is_pinned final.pins r.version)
        (retired_in final.turn)
        (all_weaker (λ (r : Retirement). version ≤ r.version) (λ (r : Retirement). 1 ≤ times r.page reached → pin.generation ≤ r.version)
        (λ r later some. omega (arith, keeps.since, later)) (retired_in final.turn) since_then))

    -- and what the turn made is written
    passes : (model : PageModel) → is_of_tree model.content ≡ true → test model ≡ true
    passes model whole =
        let pinned_now : is_pinned mid.pins version ≡ true =
        subst (λ (pins : List ℕ). is_pinned pins version ≡ true) (sym (all_pins version gone book))
        (pinned_since pin.generation version book.pins keeps.pinned keeps.since) in
        (λ i. whole i && (is_in_use mid.states model.page || is_pinned mid.pins version))
        ∙ or_true (is_in_use mid.states model.page) (is_pinned mid.pins version) pinned_now

    module _ (new : Store D) (after : PageCache) (root : ℕ)
        (leaves : LeavesPages history written_all root (first_page (written pages named)) (length named) (Ok tt) store new)
        (content : AllByRecursion (λ (m : PageModel). IsContent m.content) those) (keeps_all : KeepsAll written_all cache after)
        (extends : KeepsWord (disk_history history new) → KeepsWord (disk_history history store)) (k : KeepsWord (disk_history history new)) where
      abbrev done_now : State D
      done_now = record { store = new; made = []; retired = []; book = committed last final }

      models_so : AllByRecursion (IsPageModel (version + 1)) written_all
      models_so = all_models history store cache made gone book so pages named final list content

      abbrev list_first : ℕ
      list_first = first_page (written pages named)

      abbrev behind : Root → ℕ → Result PageModel PageFault
      behind r n = model_at (reads (now (disk_history history new))) r n

      abbrev next : Root
      next = next_root (durable_root store) written_all root list_first (length named)

      root_now : durable_root new ≡ next
      root_now = next_is history store cache so.cached written_all lies news new after root list_first (length named) leaves models_so keeps_all extends

      done_page : (n : ℕ) → IsOfTree (store_of history p) n → Moves (store_of history p) (store_of history done_now) n
      done_page n whole content_now at =
          let there : is_ok (models_of history p n) ≡ true = first_part (is_ok (models_of history p n)) _ at.live in
          let not_free_now : is_free book.states n ≡ false = last_part (is_ok (models_of history p n)) (is_free book.states n) at.live in
          elim (member made n) [
            | inl none ↦
                let found : IsFound (models_of history p n) content_now = found_at (models_of history p) n content_now there at.holds in
                let was : disk n ≡ Ok found.model = sym (made_none made n (disk n) none) ∙ found.is in
                let is : behind (durable_root new) n ≡ Ok found.model =
                ap (λ (r : Root). behind r n) root_now
                ∙ still_there history store cache so.cached written_all lies news new after root list_first (length named) leaves models_so keeps_all extends
                k n
                found.model was (none_written n not_free_now none) in
                record { number = at.number; live = (λ i. is_ok (is i) && not (free_after n not_free_now i)); holds = ap content_in is ∙ found.holds }
            | inr r ↦
                let was : models_of history p n ≡ Ok r.model = r.there (disk n) in
                let fits : is_of_tree r.model.content ≡ true = ap (λ (found : Result PageModel PageFault). is_of_tree (content_in found)) (sym was) ∙ whole in
                let among : IsAmong r.model those =
                among_filter test (pages_at made places) r.model (passes r.model fits) (in_order made places so.order r.model r.among) in
                let is_next =
                all_among (λ (m : PageModel). behind next m.page ≡ Ok m) written_all r.model
                (each_there history store cache so.cached written_all lies news new after root list_first (length named) leaves models_so keeps_all extends k)
                (among_first those models r.model among) in
                let is : behind (durable_root new) n ≡ Ok r.model =
                subst (λ (m : ℕ). behind (durable_root new) m ≡ Ok r.model) r.is (ap (λ (x : Root). behind x r.model.page) root_now ∙ is_next) in
                record {
                  number = at.number;
                  live = (λ i. is_ok (is i) && not (free_after n not_free_now i));
                  holds = ap content_in (is ∙ sym was) ∙ at.holds;
                }
          ]

      done_map : HasMap (store_of history done_now) pin.root reached entries
      done_map =
          map_moved (store_of history p) (store_of history done_now) pin.root reached entries
          (each_map (IsOfTree (store_of history p)) (Moves (store_of history p) (store_of history done_now)) done_page reached
          (map_pages (store_of history p) pin.root reached entries (keeps.holds (extends k)))) (keeps.holds (extends k))

  pub done_keeps : (new : Store D) (after : PageCache) (root : ℕ)
      → LeavesPages history written_all root (first_page (written pages named)) (length named) (Ok tt) store new
      → AllByRecursion (λ (m : PageModel). IsContent m.content) those → KeepsAll written_all cache after
      → (KeepsWord (disk_history history new) → KeepsWord (disk_history history store)) → version ≤ (durable_root new).generation → (last : ℕ)
      → KeepsVersions history p (record { store = new; made = []; retired = []; book = committed last final })
  done_keeps new after root leaves content keeps_all extends later last = record {
    pins = pins_same;
    each = λ pin reached entries keeps. record {
      pinned = subst (λ (pins : List ℕ). 1 ≤ times pin.generation pins) (sym pins_same) keeps.pinned;
      since = omega (arith, keeps.since, later);
      waits = λ k. waits_after pin reached entries keeps last (keeps.waits (extends k));
      holds = done_map pin reached entries keeps last new after root leaves content keeps_all extends;
    };
  }
