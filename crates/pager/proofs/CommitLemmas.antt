-- A commit, by what was planned for it.
use Rattle.std.proofs.Common.{◌≡◌, ℕ, ◌≤◌, true, false, List, [], ◌++◌, length, refl, sym, ◌∙◌, ap, subst, arith, inr, None}
use Rattle.std.specs.Prelude.{Ok, Err}
use Rattle.page.specs.Cache.{kept}
use Rattle.page.specs.Format.{PageModel}
use Rattle.page.specs.History.{History}
use Rattle.page.specs.declared.page_cache.PageCache.{PageCache}
use Rattle.page.proofs.Moments.{goes_nowhere}
use Rattle.tree_model.specs.Keys.{times}
use Rattle.freelist.specs.Book.{Book, committed, undone}
use Rattle.freelist.specs.FreeList.{first_page, written}
use Rattle.freelist.specs.ListWriting.{IsMade}
use Rattle.freelist.proofs.TakenPages.{goes_back}
use Rattle.roots.specs.Commit.{CommitsRoot, LeavesPages, MovesMaps}
use Rattle.roots.specs.Store.{IsRunning, disk_history, durable_root}
use Rattle.roots.specs.declared.root.Root.{Root}
use Rattle.roots.specs.declared.store.CommitFault.{CommitFault}
use Rattle.roots.specs.declared.store.CommitFault.TheVariants as faults
use Rattle.roots.specs.declared.store.Store.{Store}
use Rattle.pager.specs.Commit.{CommitsPages, MovesTurns}
use Rattle.pager.specs.Kept.{IsKept}
use Rattle.pager.specs.Order.{pages_at}
use Rattle.pager.specs.Pinning.{KeepsVersions}
use Rattle.pager.specs.Planning.{IsPlanned, PlanFails, pages_with}
use Rattle.pager.specs.State.{State}
use Rattle.pager.specs.Writing.{Forgets, KeepsAll}
use Rattle.pager.specs.declared.planning.Plan.{Plan}
use Rattle.pager.proofs.AfterLemmas.{gone_then, kept_after, kept_failed, kept_forgotten, list_now, root_is}
use Rattle.pager.proofs.BookLemmas.{all_full, all_longer, back_all, back_both}
use Rattle.pager.proofs.EndLemmas.{moves_done, moves_failed}
use Rattle.pager.proofs.KeepingLemmas.{done_keeps, failed_keeps}
use Rattle.pager.proofs.PlanLemmas.{all, count_is as count_of_plan, named_few, none_unused, planned, tree, tree_inside, wide}

-- what is told of the parts that a call was handed is told of those of the pager
pub told_of : {root then : Root} {one made : List PageModel} {those places gone retired other listed : List ℕ} (P : Root → List PageModel → List ℕ → Type 0)
    → root ≡ then → one ≡ made → those ≡ places → gone ≡ retired → other ≡ listed → P root (pages_at one those) (gone ++ other)
    → P then (pages_at made places) (retired ++ listed)
told_of {root = root} {one = one} {made = made} {those = those} {places = places} {retired = retired} {listed = listed} P root_is made_is places_is
    retired_is listed_is so =
    subst (λ (r : Root). P r (pages_at made places) (retired ++ listed)) root_is
    (subst (λ (m : List PageModel). P root m (retired ++ listed)) (λ j. pages_at (made_is j) (places_is j))
    (subst (P root (pages_at one those)) (λ j. retired_is j ++ listed_is j) so))

pub told : {root then : Root} {one made : List PageModel} {those places gone retired other listed : List ℕ} (plan : Plan) (book final : Book) → root ≡ then
    → one ≡ made → those ≡ places → gone ≡ retired → other ≡ listed → IsPlanned root (pages_at one those) (gone ++ other) plan book final
    → IsPlanned then (pages_at made places) (retired ++ listed) plan book final
told plan book final = told_of (λ root made pages. IsPlanned root made pages plan book final)

-- nothing was planned
module _ {D : Type 0} {listed places : List ℕ} (history : D → History) (store : Store D) (cache : PageCache) (made : List PageModel) (retired : List ℕ)
    (book : Book) (so : IsKept history store cache made book listed places) (running : IsRunning store) where
  abbrev old : State D
  old = record { store = store; made = made; retired = retired; book = book }

  pub unplanned : (root : ℕ) (fault : CommitFault) (new : Book) → PlanFails (durable_root store) (pages_at made places) (retired ++ listed) fault book new
      → CommitsPages history root (Err fault) old (record old { book = new })
  unplanned root faults.Memory new same = record {
    extends = goes_nowhere (disk_history history store);
    running = tt;
    version = tt;
    still = refl;
    tree = tt;
    listed = tt;
    made = tt;
    retired = tt;
    memory = λ _. ap (λ (b : Book). record old { book = b }) same;
    full = λ e. absurd cc;
    device = λ e. absurd cc;
    stops = λ e. absurd cc;
    idle = λ stopped. let never : true ≡ false = sym stopped ∙ running in absurd cc;
  }
  unplanned root faults.Full new (lacks, is) = record {
    extends = goes_nowhere (disk_history history store);
    running = tt;
    version = tt;
    still = refl;
    tree = tt;
    listed = tt;
    made = tt;
    retired = tt;
    memory = λ e. absurd cc;
    full = λ _. inr (
      record {
        listed = listed;
        are = so.listed;
        places = places;
        order = so.order;
        short = lacks (tree_inside history store cache made (retired ++ listed) book so);
      },
      ap (λ (b : Book). record old { book = b }) is,
    );
    device = λ e. absurd cc;
    stops = λ e. absurd cc;
    idle = λ stopped. let never : true ≡ false = sym stopped ∙ running in absurd cc;
  }
  unplanned root faults.Device new none = absurd none

module _ {D : Type 0} {listed places : List ℕ} (history : D → History) (store : Store D) (before cache : PageCache) (made : List PageModel) (retired : List ℕ)
    (book final : Book) (so_before : IsKept history store before made book listed places) (plan : Plan)
    (is : IsPlanned (durable_root store) (pages_at made places) (retired ++ listed) plan book final) (forgets : Forgets plan.listed.items before cache) where
  abbrev p : State D
  p = record { store = store; made = made; retired = retired; book = book }

  so : IsKept history store cache made book listed places
  so = kept_forgotten history store before cache made book plan.listed.items so_before forgets

  abbrev pages : List ℕ
  pages = plan.listed.items

  abbrev mid : Book
  mid = planned history store cache made (retired ++ listed) book so

  abbrev those : List PageModel
  those = tree history store cache made (retired ++ listed) book so

  list : IsMade (pages_with (durable_root store) those) pages is.named mid final
  list = is.list (tree_inside history store cache made (retired ++ listed) book so)

  gone : (n : ℕ) → 1 ≤ times n pages → kept cache n ≡ None
  gone = gone_then pages before cache forgets

  abbrev written_all : List PageModel
  written_all = all history store cache made (retired ++ listed) book so pages is.named final list

  abbrev first : ℕ
  first = first_page (written pages is.named)

  count_is : plan.free_count ≡ length is.named
  count_is = omega (arith, is.count, named_few history store cache made (retired ++ listed) book so pages is.named final list)

  -- what is said of the plan's pages, in the words of its parts
  recast : (P : List PageModel → ℕ → ℕ → Type 0) → P plan.written.items plan.free_list plan.free_count → P written_all first (length is.named)
  recast P holds =
      subst (λ (models : List PageModel). P models first (length is.named)) is.writes
      (subst (λ (n : ℕ). P plan.written.items n (length is.named)) is.first (subst (P plan.written.items plan.free_list) count_is holds))

  -- undoing leads back
  pub goes_back_all : undone (length book.turn) final ≡ book
  goes_back_all =
      back_both book mid final (all_longer (durable_root store).generation (retired ++ listed) book)
      (wide history store cache made (retired ++ listed) book so pages is.named final list).longer (goes_back pages mid final list.takes)
      (back_all (durable_root store).generation (retired ++ listed) book)

  pub full_same : final.failed_allocations ≡ book.failed_allocations
  full_same =
      (wide history store cache made (retired ++ listed) book so pages is.named final list).full
      ∙ all_full (durable_root store).generation (retired ++ listed) book

  -- ---- it failed

  module _ (root : ℕ) (fault : CommitFault) (new : Store D) (commits : CommitsRoot history root (Err fault) store new) where
    pub failed_kept : LeavesPages history plan.written.items root plan.free_list plan.free_count (Err fault) store new
        → IsKept history new cache made book listed places
    failed_kept leaves =
        kept_failed history store cache made (retired ++ listed) book so pages is.named final list gone new root first (length is.named) fault commits
        (recast (λ models free_list free_count. LeavesPages history models root free_list free_count (Err fault) store new) leaves)

    pub failed_moves : MovesMaps history plan.written.items root plan.free_list plan.free_count (Err fault) store new
        → MovesTurns history root (Err fault) p (record { store = new; made = made; retired = retired; book = book })
    failed_moves moves =
        moves_failed history store cache made retired book so pages is.named final list root fault new commits
        (recast (λ models free_list free_count. MovesMaps history models root free_list free_count (Err fault) store new) moves) is.content

    pub failed_versions : LeavesPages history plan.written.items root plan.free_list plan.free_count (Err fault) store new
        → KeepsVersions history p (record { store = new; made = made; retired = retired; book = book })
    failed_versions leaves =
        failed_keeps history store cache made retired (retired ++ listed) book so pages is.named final list gone new root first (length is.named) fault
        (recast (λ models free_list free_count. LeavesPages history models root free_list free_count (Err fault) store new) leaves) commits.extends.kept

  -- ---- it was done

  module _ (root : ℕ) (new : Store D) (commits : CommitsRoot history root (Ok tt) store new)
      (leaves : LeavesPages history plan.written.items root plan.free_list plan.free_count (Ok tt) store new) (after : PageCache)
      (keeps : KeepsAll plan.written.items cache after) (last : ℕ) where
    leaves_all : LeavesPages history written_all root first (length is.named) (Ok tt) store new
    leaves_all = recast (λ models free_list free_count. LeavesPages history models root free_list free_count (Ok tt) store new) leaves

    keeps_all : KeepsAll written_all cache after
    keeps_all = subst (λ (models : List PageModel). KeepsAll models cache after) is.writes keeps

    pub done_kept : IsKept history new after [] (committed last final) pages []
    done_kept =
        kept_after history store cache made (retired ++ listed) book so pages is.named final list gone new after root leaves_all is.content keeps_all
        commits.extends.kept last

    pub done_moves : MovesMaps history plan.written.items root plan.free_list plan.free_count (Ok tt) store new
        → MovesTurns history root (Ok tt) p (record { store = new; made = []; retired = []; book = committed last final })
    done_moves moves =
        moves_done history store cache made retired book so pages is.named final list root new commits
        (recast (λ models free_list free_count. MovesMaps history models root free_list free_count (Ok tt) store new) moves) is.content
        (list_now history store cache made (retired ++ listed) book so pages is.named final list gone new after root leaves_all is.content keeps_all
        commits.extends.kept) last

    pub done_versions : KeepsVersions history p (record { store = new; made = []; retired = []; book = committed last final })
    done_versions =
        done_keeps history store cache made retired (retired ++ listed) book so pages is.named final list gone new after root leaves_all is.content keeps_all
        commits.extends.kept (omega (arith, commits.version)) last

    pub done_commits : CommitsPages history root (Ok tt) p (record { store = new; made = []; retired = []; book = committed last final })
    done_commits = record {
      extends = commits.extends;
      running = commits.running;
      version = commits.version;
      still = tt;
      tree = commits.tree;
      listed = λ none n inside below.
          let root_now = root_is history store cache made (retired ++ listed) book so pages is.named final list gone new after root leaves_all is.content
          keeps_all
          commits.extends.kept in
          let count = count_of_plan history store cache made (retired ++ listed) book so pages is.named final list in
          let first_none : first ≡ 0 = sym (ap (λ (r : Root). r.free_list) root_now) ∙ none in
          none_unused history store cache made (retired ++ listed) book so pages is.named final list last first_none n inside
          (omega (arith, ap (λ (r : Root). r.pages) root_now, count, below));
      made = refl;
      retired = refl;
      memory = λ e. absurd cc;
      full = λ e. absurd cc;
      device = λ e. absurd cc;
      stops = λ e. absurd cc;
      idle = λ stopped. let never : true ≡ false = sym stopped ∙ commits.running.0 in absurd cc;
    }
