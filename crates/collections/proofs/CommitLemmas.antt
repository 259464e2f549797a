-- How the commit of a turn ends.
use Rattle.std.proofs.Common.{◌≡◌, ◌⊎◌, ℕ, ◌+◌, ◌-◌, ◌<◌, ◌≤◌, ◌^◌, false, List, refl, sym, ap, subst, inl, inr, arith}
use Rattle.std.specs.Prelude.{Result, Ok, Err, min}
use Rattle.std.proofs.lemmas.Bool.{cases_lt}
use Rattle.page.specs.Crash.{ReadsOnly}
use Rattle.page.specs.History.{History, KeepsWord}
use Rattle.page.proofs.Moments.{reads_nothing}
use Rattle.tree_model.specs.Store.{IsSame, Store as Pages}
use Rattle.tree_model.proofs.StoreLemmas.{counts_same, grows_itself, grows_same}
use Rattle.roots.specs.declared.store.CommitFault.{CommitFault}
use Rattle.roots.specs.Image.{StandsFor}
use Rattle.roots.specs.Store as stores
use Rattle.roots.specs.declared.root.Root.{Root}
use Rattle.pager.specs.Commit.{CommitsPages as CommitsPages, CountsTakes, FindsNoRoom as FindsNoRoomFor, MovesTurns, Moves as MovesPages}
use Rattle.pager.specs.State.{State as PagerState}
use Rattle.pager.specs.View.{pager_history, store_of}
use Rattle.entry_model.specs.State.{Collection}
use Rattle.collections.specs.State.{State}
use Rattle.collections.specs.Calls.{ExtendsTurn}
use Rattle.collections.specs.Committing.{CommitsCollections, FindsNoRoom}
use Rattle.collections.specs.Holding.{HoldsState}
use Rattle.collections.specs.Standing.{HasState, IsTurnOf}
use Rattle.collections.specs.View.{disk_history, is_stopped, pages_of}
use Rattle.collections.proofs.FreePageLemmas.{names_free_pages}
use Rattle.collections.proofs.StandingLemmas.{begins, rests_at, state_stays}

-- a count that stops at the greatest number
counted_once : (old new : ℕ) → new ≡ min (old + 1) (2 ^ 64 - 1) → (old < new) ⊎ (new ≡ 18446744073709551615)
counted_once old new is = elim (cases_lt old (2 ^ 64 - 1)) [
  | inl less ↦ inl (omega (arith, is, less))
  | inr most ↦ inr (omega (arith, is, most))
]

module _ {D : Type 0} (history : D → History) (old : State D) (pager : PagerState D) where
  abbrev new : State D
  new = record old { pager = pager }

  -- an image of the entries from before, or of those of the turn
  held : (start now : List Collection) (t : IsTurnOf history old start now) (image : ℕ → List ℕ) → StandsFor image t.before ⊎ StandsFor image t.after
      → HoldsState image start ⊎ HoldsState image now
  held start now t image (inl stands) = inl (record { entries = t.before; stands = stands; spells = t.spells_start; state = t.start_state })
  held start now t image (inr stands) = inr (record { entries = t.after; stands = stands; spells = t.spells_now; state = t.now_state })

  module _ (result : Result (Unit {0}) CommitFault) (commits : CommitsPages history old.root result old.pager pager)
      (moves : MovesTurns history old.root result old.pager pager)
      (running : is_stopped old ≡ false) (start now : List Collection) (has : HasState history old start now) where
    turn : KeepsWord (disk_history history new) → IsTurnOf history old start now
    turn k = has running (commits.extends.kept k)

    moved : (k : KeepsWord (disk_history history new)) → MovesPages history (turn k).pages (turn k).before (turn k).after result old.pager pager
    moved k = moves (turn k).began (turn k).live (turn k).before (turn k).begun (turn k).pages (turn k).after (λ _. (turn k).turn)

  -- The pages are as they were, but for the count.
  abbrev IsCounted : Type 0
  IsCounted = store_of history pager ≡ record (store_of history old.pager) { failed_allocations = pager.book.failed_allocations }

  module _ (more : old.pager.book.failed_allocations ≤ pager.book.failed_allocations) (is : IsCounted) where
    counted_same : KeepsWord (disk_history history new) → IsSame (pages_of history old) (pages_of history new)
    counted_same k = record {
      word = subst KeepsWord (ap (λ (s : Pages). s.history) is) k;
      page = ap (λ (s : Pages). s.page) is;
      live = ap (λ (s : Pages). s.live) is;
      made = ap (λ (s : Pages). s.made) is;
      retired = ap (λ (s : Pages). s.retired) is;
      failures = omega (arith, ap (λ (s : Pages). s.history.failures) is);
      failed_allocations = more;
      counts = counts_same (pages_of history old) (pages_of history new) (ap (λ (s : Pages). s.failed_reads) is)
          (ap (λ (s : Pages). s.history.failures) is);
    }

    counted_on : ExtendsTurn history old new
    counted_on =
        grows_same (pages_of history old) (pages_of history new) (record {
          base = ap (λ (s : Pages). s.base) is;
          reads = subst (ReadsOnly (disk_history history old)) (sym (ap (λ (s : Pages). s.history) is)) (reads_nothing (disk_history history old));
        }) counted_same

  abbrev counted : PagerState D → Pages
  counted p = record (store_of history p) { failed_allocations = pager.book.failed_allocations }

  pub goes_full : old.pager.book.failed_allocations ≤ pager.book.failed_allocations → FindsNoRoomFor history old.pager pager → ExtendsTurn history old new
  goes_full more (inl (most, same)) =
      subst (λ (p : PagerState D). ExtendsTurn history old (record old { pager = p })) (sym same) (grows_itself (store_of history old.pager))
  goes_full more (inr (lacks, is)) = counted_on more (ap counted is)

  finds_no_room : old.pager.book.failed_allocations ≤ pager.book.failed_allocations → FindsNoRoomFor history old.pager pager → FindsNoRoom history old new
  finds_no_room more (inl (most, same)) = inl (most, ap (λ (p : PagerState D). record old { pager = p }) same)
  finds_no_room more (inr (lacks, is)) =
      let same = counted_same more (ap counted is) in
      inr (record {
        counted = counted_once old.pager.book.failed_allocations pager.book.failed_allocations (ap (λ (p : PagerState D). p.book.failed_allocations) is);
        untouched = record {
          disk = ap (λ (p : PagerState D). pager_history history p) is;
          stopped = ap (λ (p : PagerState D). stores.is_stopped p.store) is;
          version = ap (λ (p : PagerState D). (stores.durable_root p.store).generation) is;
          reads = ap (λ (p : PagerState D). stores.failed_reads p.store) is;
        };
        state = λ start now has. state_stays history old new start now (goes_full more (inr (lacks, is))) refl (λ k. (same k).made) (λ k. (same k).retired) has;
      })

  pub committed : CommitsPages history old.root (Ok tt) old.pager pager → CountsTakes (Ok tt) old.pager pager
      → MovesTurns history old.root (Ok tt) old.pager pager → CommitsCollections history (Ok tt) old new
  committed commits takes moves = record {
    takes = takes.grows;
    found = takes.same;
    extends = commits.extends;
    running = commits.running;
    version = commits.version;
    still = tt;
    clean = rests_at old.root _ (sym commits.tree);
    memory = λ is. absurd cc;
    full = λ is. absurd cc;
    stops = λ is. absurd cc;
    device = λ is. absurd cc;
    idle = λ is. ap (λ (p : PagerState D). record old { pager = p }) (commits.idle is);
    moves = λ running start now has. record {
      any_moment =
          λ k image left. held start now (turn (Ok tt) commits moves running start now has k) image
          ((moved (Ok tt) commits moves running start now has k).any_moment k image left);
      acknowledged = λ k image is.
          let t = turn (Ok tt) commits moves running start now has k in
          record {
            entries = t.after;
            stands = (moved (Ok tt) commits moves running start now has k).acknowledged k image is;
            spells = t.spells_now;
            state = t.now_state;
          };
      begun = λ still k.
          let t = turn (Ok tt) commits moves running start now has k in
          begins history new t.pages t.after now (sym commits.tree) k (moved (Ok tt) commits moves running start now has k).begun t.spells_now t.now_state;
      listed = λ k image is.
          let t = turn (Ok tt) commits moves running start now has k in
          names_free_pages history pager t.pages t.after (moved (Ok tt) commits moves running start now has k).begun commits.listed k image is;
    };
  }

  pub not_committed : (fault : CommitFault) → CommitsPages history old.root (Err fault) old.pager pager → CountsTakes (Err fault) old.pager pager
      → MovesTurns history old.root (Err fault) old.pager pager → CommitsCollections history (Err fault) old new
  not_committed fault commits takes moves = record {
    takes = takes.grows;
    found = takes.same;
    extends = commits.extends;
    running = tt;
    version = tt;
    still = ap (λ (r : Root). r.generation) commits.still;
    clean = tt;
    memory = λ is. ap (λ (p : PagerState D). record old { pager = p }) (commits.memory is);
    full = λ is. finds_no_room takes.grows (commits.full is);
    stops = λ is. (commits.stops is).0;
    device = λ is k. commits.device is k;
    idle = λ is. ap (λ (p : PagerState D). record old { pager = p }) (commits.idle is);
    moves = λ running start now has. record {
      any_moment =
          λ k image left. held start now (turn (Err fault) commits moves running start now has k) image
          ((moved (Err fault) commits moves running start now has k).any_moment k image left);
      acknowledged = tt;
      begun = tt;
      listed = tt;
    };
  }

  pub commits_so : (result : Result (Unit {0}) CommitFault) → CommitsPages history old.root result old.pager pager
      → CountsTakes result old.pager pager
      → MovesTurns history old.root result old.pager pager → CommitsCollections history result old new
  commits_so (Ok tt) commits takes moves = committed commits takes moves
  commits_so (Err fault) commits takes moves = not_committed fault commits takes moves
