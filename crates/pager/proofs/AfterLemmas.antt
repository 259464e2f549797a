-- What every pager keeps holds after a commit.
use Rattle.std.proofs.Common.{◌≡◌, ◌≢◌, ℕ, ◌+◌, ◌<◌, ◌≤◌, max, Bool, true, false, List, [], ◌∷◌, length, refl, sym, ◌∙◌, ap, subst, arith, inl, inr, Option}
use Rattle.std.proofs.Common.{Some, None}
use Rattle.std.specs.Prelude.{◌&&◌, nat_lt, if◌then◌else◌, Ok, Err}
use Rattle.std.specs.List.{AllByRecursion}
use Rattle.std.proofs.lemmas.Bool.{cases_lt}
use Rattle.std.proofs.lemmas.Bool.Decides.{nat_tests}
use Rattle.page.specs.Cache.{kept}
use Rattle.page.specs.Content.{IsContent}
use Rattle.page.specs.Format.{PageModel, model_in}
use Rattle.page.specs.History.{History, KeepsWord, now, reads}
use Rattle.page.specs.Page.{IsSectorOf, page_at}
use Rattle.page.specs.PageLaws.{IsPageModel}
use Rattle.page.specs.declared.page_cache.PageCache.{PageCache}
use Rattle.page.specs.declared.page_fault.PageFault.TheVariants as page_faults
use Rattle.tree_model.specs.Keys.{times}
use Rattle.freelist.specs.Book.{Book, committed}
use Rattle.freelist.specs.FreeList.{IsFreeList, first_page, pages_of, written}
use Rattle.freelist.specs.ListWriting.{IsMade}
use Rattle.freelist.proofs.MadeLists.{there as list_there}
use Rattle.freelist.proofs.WrittenLists.{reading_is_exact, written_pages}
use Rattle.roots.specs.declared.root.Root.{Root}
use Rattle.roots.specs.declared.store.CommitFault.{CommitFault}
use Rattle.roots.specs.declared.store.CommitFault.TheVariants as faults
use Rattle.roots.specs.declared.store.Store.{Store}
use Rattle.roots.specs.Commit.{CommitsRoot, LeavesPages}
use Rattle.roots.specs.Image.{IsOnPages, list_in, model_at}
use Rattle.roots.specs.Listed.{list_models}
use Rattle.roots.specs.Store.{disk_history, durable_root}
use Rattle.roots.specs.Turn.{LieBehind, end_behind, made_or, next_root, numbers_of}
use Rattle.roots.proofs.ImageLemmas.{model_same}
use Rattle.roots.proofs.KeptPages.{made_there, still_read}
use Rattle.roots.proofs.MadeLemmas.{inside_end, models_after}
use Rattle.pager.specs.Kept.{Agrees, AreListed, IsKept, IsNew}
use Rattle.pager.specs.Planning.{next_generation, pages_with}
use Rattle.pager.specs.Writing.{Forgets, KeepsAll}
use Rattle.pager.proofs.CallLemmas.{no_longer}
use Rattle.pager.proofs.ListLemmas.{all_both, all_weaker, made_none}
use Rattle.pager.proofs.ListedLemmas.{holds_listed}
use Rattle.pager.proofs.MemberLemmas.{all_among, member}
use Rattle.pager.proofs.MergeLemmas.{all_parts}
use Rattle.pager.proofs.OrderLemmas.{order_none}
use Rattle.pager.proofs.PlanLemmas.{all, all_lie, all_new, all_models, booked_after, count_is, planned, tree, wide_after}
use Rattle.pager.proofs.ReadLemmas.{IsListIn}

-- a page that is there has a number above 0
some_number : (image : ℕ → List ℕ) (root : Root) (n : ℕ) (model : PageModel) → model_at image root n ≡ Ok model → 0 < n
some_number image root n model is = by_test (nat_lt 0 n) refl is
  where
    by_test : (some : Bool) → nat_lt 0 n ≡ some
        → (if some && nat_lt n root.pages then model_in n root.generation (page_at image n) else Err page_faults.Number) ≡ Ok model → 0 < n
    by_test true test is = grind (arith, nat_tests, test)
    by_test false test is = absurd cc

module _ {D : Type 0} (history : D → History) (store : Store D) (cache : PageCache) (cached : Agrees history store cache) (all : List PageModel)
    (lie : LieBehind 0 all) (new_all : AllByRecursion (IsNew (durable_root store).generation cache) all) where
  -- what is written wasn't in the cache
  none_written : (n : ℕ) (found : PageModel) → kept cache n ≡ Some found → AllByRecursion (λ (m : PageModel). m.page ≢ n) all
  none_written n found is = elim (member all n) [
    | inl none ↦ none
    | inr r ↦
        let one = all_among (IsNew (durable_root store).generation cache) all r.model new_all r.among in
        let never : Some found ≡ None = sym is ∙ ap (kept cache) (sym r.is) ∙ one.uncached in absurd cc
  ]

  module _ (new : Store D) (after : PageCache) (tree free_list free_count : ℕ)
      (leaves : LeavesPages history all tree free_list free_count (Ok tt) store new)
      (models : AllByRecursion (IsPageModel ((durable_root store).generation + 1)) all) (keeps : KeepsAll all cache after)
      (extends : KeepsWord (disk_history history new) → KeepsWord (disk_history history store)) where
    abbrev pub next : Root
    next = next_root (durable_root store) all tree free_list free_count

    abbrev before : ℕ → List ℕ
    before = reads (now (disk_history history store))

    abbrev behind : ℕ → List ℕ
    behind = reads (now (disk_history history new))

    -- what was there, with the roots of now
    abbrev joined : ℕ → List ℕ
    joined n = if nat_lt n 2 then behind n else before n

    joined_high : (n : ℕ) → 2 ≤ n → joined n ≡ before n
    joined_high n le =
        let high : nat_lt n 2 ≡ false = grind (arith, nat_tests, le) in
        ap (λ (b : Bool). if b then behind n else before n) high

    joined_off : KeepsWord (disk_history history new) → (n : ℕ) → (IsOnPages (numbers_of all) n → ⊥) → behind n ≡ joined n
    joined_off k n off = elim (cases_lt n 2) [
      | inl less ↦
          let low : nat_lt n 2 ≡ true = grind (arith, nat_tests, less) in
          sym (ap (λ (b : Bool). if b then behind n else before n) low)
      | inr le ↦ leaves.others k n le off ∙ sym (joined_high n le)
    ]

    joined_model : (root : Root) (n : ℕ) → 0 < n → model_at joined root n ≡ model_at before root n
    joined_model root n some = model_same before joined root n (λ k here. joined_high k (omega (arith, some, here.0)))

    inside_next : AllByRecursion (λ (m : PageModel). m.page < next.pages) all
    inside_next =
        all_weaker (λ (m : PageModel). m.page < end_behind 1 all) (λ (m : PageModel). m.page < next.pages) (λ m less. omega (arith, less)) all
        (inside_end all 0 1 lie)

    now_read : KeepsWord (disk_history history new) → (n : ℕ) → 0 < n → model_at behind next n ≡ made_or all n (model_at before next n)
    now_read k n some =
        models_after joined behind next all lie inside_next models (leaves.written k lie) (joined_off k) n
        ∙ ap (made_or all n) (joined_model next n some)

    pub next_is : durable_root new ≡ next
    next_is = leaves.root (all_weaker (IsNew (durable_root store).generation cache) (λ (m : PageModel). m.page < 1048576) (λ m one. one.inside) all new_all)

    above : (last : ℕ) (ms : List PageModel) → LieBehind last ms → AllByRecursion (λ (m : PageModel). 0 < m.page) ms
    above last [] lies = tt
    above last (m ∷ ms) lies = (omega (arith, lies.0), above m.page ms lies.1)

    -- each page that was all is read then
    pub each_there : KeepsWord (disk_history history new) → AllByRecursion (λ (m : PageModel). model_at behind next m.page ≡ Ok m) all
    each_there k =
        all_both (λ (m : PageModel). made_or all m.page (model_at before next m.page) ≡ Ok m) (λ (m : PageModel). 0 < m.page)
        (λ (m : PageModel). model_at behind next m.page ≡ Ok m) (λ m there some. now_read k m.page some ∙ there) all
        (made_there (λ m. model_at before next m) 0 all lie) (above 0 all lie)

    -- and so is each that was there and isn't written
    pub still_there : KeepsWord (disk_history history new) → (n : ℕ) (found : PageModel) → model_at before (durable_root store) n ≡ Ok found
        → AllByRecursion (λ (m : PageModel). m.page ≢ n) all → model_at behind next n ≡ Ok found
    still_there k n found there none =
        now_read k n (some_number before (durable_root store) n found there) ∙ made_none all n (model_at before next n) none
        ∙ still_read before (durable_root store) next n found (omega arith) (omega arith) there

    agrees_next : KeepsWord (disk_history history new) → (n : ℕ) (found : PageModel) → kept after n ≡ Some found → model_at behind next n ≡ Ok found
    agrees_next k n found is = elim (keeps n found is) [
      | inl earlier ↦ still_there k n found (cached (extends k) n found earlier) (none_written n found earlier)
      | inr (at, among) ↦
          subst (λ (m : ℕ). model_at behind next m ≡ Ok found) at
          (all_among (λ (m : PageModel). model_at behind next m.page ≡ Ok m) all found (each_there k) among)
    ]

    pub agrees_after : Agrees history new after
    agrees_after k n found is = ap (λ (r : Root). model_at behind r n) next_is ∙ agrees_next k n found is

  -- a commit that failed: what it didn't write is there still
  pub still_failed : (new : Store D) (tree free_list free_count : ℕ) (fault : CommitFault)
      → LeavesPages history all tree free_list free_count (Err fault) store new → KeepsWord (disk_history history new) → (n : ℕ) (found : PageModel)
      → model_at (reads (now (disk_history history store))) (durable_root store) n ≡ Ok found → AllByRecursion (λ (m : PageModel). m.page ≢ n) all
      → model_at (reads (now (disk_history history new))) (durable_root new) n ≡ Ok found
  still_failed new tree free_list free_count fault leaves k n found there none =
      let some : 0 < n = some_number (reads (now (disk_history history store))) (durable_root store) n found there in
      ap (λ (r : Root). model_at (reads (now (disk_history history new))) r n) leaves.still
      ∙ model_same (reads (now (disk_history history store))) (reads (now (disk_history history new))) (durable_root store) n
      (λ j here. leaves.others k j (omega (arith, some, here.0)) (off_written n j here all none))
      ∙ there
    where
      off_written : (n j : ℕ) → IsSectorOf n j → (ms : List PageModel) → AllByRecursion (λ (m : PageModel). m.page ≢ n) ms → IsOnPages (numbers_of ms) j → ⊥
      off_written n j here [] ne on_it = on_it
      off_written n j here (m ∷ ms) ne (inl there) = ne.0 (omega (arith, here.0, here.1, there.0, there.1))
      off_written n j here (m ∷ ms) ne (inr later) = off_written n j here ms ne.1 later

  -- and the pages that it wrote aren't in the cache
  pub agrees_failed : (new : Store D) (tree free_list free_count : ℕ) (fault : CommitFault)
      → LeavesPages history all tree free_list free_count (Err fault) store new
      → (KeepsWord (disk_history history new) → KeepsWord (disk_history history store)) → Agrees history new cache
  agrees_failed new tree free_list free_count fault leaves extends k n found is =
      still_failed new tree free_list free_count fault leaves k n found (cached (extends k) n found is) (none_written n found is)

-- ---- what every pager keeps

-- where the list's pages went out of the cache
pub kept_forgotten : {D : Type 0} {listed places : List ℕ} (history : D → History) (store : Store D) (cache after : PageCache) (made : List PageModel)
    (book : Book)
    (pages : List ℕ) → IsKept history store cache made book listed places → Forgets pages cache after → IsKept history store after made book listed places
kept_forgotten history store cache after made book pages so forgets = record {
  cached = λ k n found is. so.cached k n found (forgets n found is).0;
  order = so.order;
  each = all_weaker (IsNew (durable_root store).generation cache) (IsNew (durable_root store).generation after)
      (λ m one. record {
        inside = one.inside;
        some = one.some;
        small = one.small;
        until = one.until;
        uncached = no_longer (kept after m.page) (kept cache m.page) one.uncached (λ found is. (forgets m.page found is).0);
      }) made so.each;
  booked = so.booked;
  listed = so.listed;
  wide = so.wide;
}

pub gone_then : (pages : List ℕ) (cache after : PageCache) → Forgets pages cache after → (n : ℕ) → 1 ≤ times n pages → kept after n ≡ None
gone_then pages cache after forgets n some = by_case (kept after n) (λ found is. omega (arith, some, (forgets n found is).1))
  where
    by_case : (found : Option PageModel) → ((model : PageModel) → found ≡ Some model → ⊥) → found ≡ None
    by_case None never = refl
    by_case (Some model) never = absurd (never model refl)

module _ {D : Type 0} {listed places : List ℕ} (history : D → History) (store : Store D) (cache : PageCache) (made : List PageModel) (retired : List ℕ)
    (book : Book) (so : IsKept history store cache made book listed places) (pages named : List ℕ) (final : Book)
    (list : IsMade (pages_with (durable_root store) (tree history store cache made retired book so)) pages named
    (planned history store cache made retired book so) final) (gone : (n : ℕ) → 1 ≤ times n pages → kept cache n ≡ None) where
  abbrev written_all : List PageModel
  written_all = all history store cache made retired book so pages named final list

  lies : LieBehind 0 written_all
  lies = all_lie history store cache made retired book so pages named final list

  news : AllByRecursion (IsNew (durable_root store).generation cache) written_all
  news = all_new history store cache made retired book so pages named final list gone

  module _ (new : Store D) (after : PageCache) (root : ℕ)
      (leaves : LeavesPages history written_all root (first_page (written pages named)) (length named) (Ok tt) store new)
      (content : AllByRecursion (λ (m : PageModel). IsContent m.content) (tree history store cache made retired book so))
      (keeps : KeepsAll written_all cache after)
      (extends : KeepsWord (disk_history history new) → KeepsWord (disk_history history store)) where
    abbrev next_root_is : Root
    next_root_is = next_root (durable_root store) written_all root (first_page (written pages named)) (length named)

    models_so : AllByRecursion (IsPageModel ((durable_root store).generation + 1)) written_all
    models_so = all_models history store cache made retired book so pages named final list content

    pub root_is : durable_root new ≡ next_root_is
    root_is =
        next_is history store cache so.cached written_all lies news new after root (first_page (written pages named)) (length named) leaves models_so keeps
        extends

    -- the list is there
    pub list_now : KeepsWord (disk_history history new) → IsListIn (written pages named) (now (disk_history history new)) (durable_root new)
    list_now k =
        let behind = reads (now (disk_history history new)) in
        let root_then = durable_root store in
        let those = tree history store cache made retired book so in
        let holds = holds_listed (model_at behind next_root_is) (next_generation root_then) pages named
        (all_parts (λ (m : PageModel). model_at behind next_root_is m.page ≡ Ok m) those (list_models (next_generation root_then) (written pages named))
        (each_there history store cache so.cached written_all lies news new after root (first_page (written pages named)) (length named) leaves models_so keeps
        extends k)).1 in
        subst (IsListIn (written pages named) (now (disk_history history new))) (sym root_is)
        (subst (λ (n : ℕ). IsFreeList (list_in (model_at behind next_root_is)) n (first_page (written pages named)) (length named) (written pages named))
        (sym (count_is history store cache made retired book so pages named final list))
        (list_there (pages_with root_then those) pages named (planned history store cache made retired book so) final list
        (list_in (model_at behind next_root_is))
        holds))

    pub kept_after : (last : ℕ) → IsKept history new after [] (committed last final) pages []
    kept_after last = record {
      cached = agrees_after history store cache so.cached written_all lies news new after root (first_page (written pages named)) (length named) leaves
          models_so keeps extends;
      order = order_none;
      each = tt;
      booked = booked_after history store cache made retired book so pages named final list last;
      listed = λ running k parts other.
          let r = durable_root new in
          let contents = list_in (model_at (reads (now (disk_history history new))) r) in
          sym (written_pages pages named) ∙ ap pages_of
          (reading_is_exact contents r.pages r.free_list r.free_count r.free_count (written pages named) parts (list_now k) other);
      wide = subst (λ (r : Root). max r.pages 1 ≤ length (committed last final).states) (sym root_is)
          (wide_after history store cache made retired book so pages named final list last);
    }

  -- A store that goes on after a commit that failed is as it was.
  listed_failed : (new : Store D) (root : ℕ) (fault : CommitFault) → CommitsRoot history root (Err fault) store new → AreListed history new listed
  listed_failed new root faults.Device commits = λ running. let never : true ≡ false = sym (commits.stops refl) ∙ running in absurd cc
  listed_failed new root faults.Memory commits = absurd (commits.no_memory refl)
  listed_failed new root faults.Full commits = subst (λ (s : Store D). AreListed history s listed) (sym (commits.full refl).1) so.listed

  pub kept_failed : (new : Store D) (root free_list free_count : ℕ) (fault : CommitFault) → CommitsRoot history root (Err fault) store new
      → LeavesPages history written_all root free_list free_count (Err fault) store new → IsKept history new cache made book listed places
  kept_failed new root free_list free_count fault commits leaves = record {
    cached = agrees_failed history store cache so.cached written_all lies news new root free_list free_count fault leaves commits.extends.kept;
    order = so.order;
    each = subst (λ (r : Root). AllByRecursion (IsNew r.generation cache) made) (sym leaves.still) so.each;
    booked = so.booked;
    listed = listed_failed new root fault commits;
    wide = subst (λ (r : Root). max r.pages 1 ≤ length book.states) (sym leaves.still) so.wide;
  }
