-- How a commit ends.
use Rattle.std.proofs.Common.{◌≡◌, ℕ, ◌<◌, List, [], ◌++◌, length, refl, sym, ◌∙◌, ap, subst, arith, inl}
use Rattle.std.specs.Prelude.{◌⊎◌, Result, Ok, Err}
use Rattle.std.specs.List.{AllByRecursion}
use Rattle.page.specs.Content.{IsContent}
use Rattle.page.specs.Format.{PageModel}
use Rattle.page.specs.History.{History, KeepsWord, now, reads}
use Rattle.page.specs.declared.page_cache.PageCache.{PageCache}
use Rattle.page.proofs.Moments.{started}
use Rattle.tree_model.specs.Keys.{Entry, times}
use Rattle.tree_model.specs.Store.{flag}
use Rattle.freelist.specs.Book.{Book, committed, is_in_use}
use Rattle.freelist.specs.FreeList.{Part, first_page, pages_of, written}
use Rattle.freelist.specs.ListWriting.{IsMade}
use Rattle.freelist.proofs.WrittenLists.{reading_is_exact, written_pages}
use Rattle.roots.specs.declared.store.CommitFault.{CommitFault}
use Rattle.roots.specs.declared.store.Store.{Store}
use Rattle.roots.specs.Commit.{CommitsRoot, MovesMap, MovesMaps}
use Rattle.roots.specs.Image.{StandsFor, list_in, reached_by, model_at}
use Rattle.roots.specs.Store.{disk_history, durable_root}
use Rattle.roots.specs.Turn.{next_root}
use Rattle.roots.proofs.TurnLemmas.{stands_now}
use Rattle.pager.specs.Commit.{CommitsPages, IsTurn, MovesTurns}
use Rattle.pager.specs.Kept.{IsKept}
use Rattle.pager.specs.Planning.{pages_with}
use Rattle.pager.specs.State.{State}
use Rattle.pager.specs.Turn.{AreInUse, IsBegun}
use Rattle.pager.proofs.BookLemmas.{committed_length, committed_use, others_of}
use Rattle.pager.proofs.ListedLemmas.{used_by_takes}
use Rattle.pager.proofs.MemberLemmas.{times_append}
use Rattle.pager.proofs.PlanLemmas.{all, booked_after, final_sound, planned, planned_long, tree, wide}
use Rattle.pager.proofs.ReadLemmas.{HasListIn, IsListIn}
use Rattle.pager.proofs.TurnLemmas.{committed_still}
use Rattle.pager.proofs.WrittenLemmas.{roots_turn, tree_use}

module _ {D : Type 0} {listed places : List ℕ} (history : D → History) (store : Store D) (cache : PageCache) (made : List PageModel) (retired : List ℕ)
    (book : Book) (so : IsKept history store cache made book listed places) where
  abbrev p : State D
  p = record { store = store; made = made; retired = retired; book = book }

  abbrev mid : Book
  mid = planned history store cache made (retired ++ listed) book so

  abbrev those : List PageModel
  those = tree history store cache made (retired ++ listed) book so

  module _ (pages named : List ℕ) (final : Book) (list : IsMade (pages_with (durable_root store) those) pages named mid final) where
    abbrev written_all : List PageModel
    written_all = all history store cache made (retired ++ listed) book so pages named final list

    -- in the book the pages that the new root reaches are in use
    module _ (root : ℕ) (start : State D) (live : List ℕ) (before : List Entry) (begun : IsBegun history start live before) (reached : List ℕ)
        (after : List Entry) (turn : IsTurn history start p root live reached after) (k : KeepsWord (disk_history history store)) (last : ℕ) where
      use_after : (n : ℕ) → n < length (committed last final).states
          → times n (reached ++ pages) ≡ flag (is_in_use (committed last final).states n)
      use_after n within =
          let sound = final_sound history store cache made (retired ++ listed) book so pages named final list in
          let more = wide history store cache made (retired ++ listed) book so pages named final list in
          let long = planned_long history store cache made (retired ++ listed) book so in
          let low : n < length book.states = omega (arith, within, committed_length last final, more.long, long) in
          omega (
            arith,
            times_append n reached pages,
            tree_use history p start turn.grows.stays k live before begun cache so root reached after turn n low,
            used_by_takes pages mid final list.takes n,
            ap flag (committed_use last final sound n),
          )

      in_use_after : (new : Store D) → IsListIn (written pages named) (now (disk_history history new)) (durable_root new) → (parts : List Part)
          → HasListIn reached parts (now (disk_history history new)) (durable_root new) → AreInUse (reached_by reached parts) (committed last final)
      in_use_after new there parts has =
          let r = durable_root new in
          let contents = list_in (model_at (reads (now (disk_history history new))) r) in
          let same : pages_of parts ≡ pages =
          ap pages_of (reading_is_exact contents r.pages r.free_list r.free_count r.free_count parts (written pages named) has.list there)
          ∙ written_pages pages named in
          subst (λ (own : List ℕ). AreInUse (reached ++ own) (committed last final)) (sym same) (record {
            used = use_after;
            others = others_of (committed last final)
                (booked_after history store cache made (retired ++ listed) book so pages named final list last).sound;
          })

    module _ (root : ℕ) (result : Result (Unit {0}) CommitFault) (new : Store D) (commits : CommitsRoot history root result store new)
        (moves : MovesMaps history written_all root (first_page (written pages named)) (length named) result store new)
        (content : AllByRecursion (λ (m : PageModel). IsContent m.content) those) where
      moved : (start : State D) (live : List ℕ) (before : List Entry) → IsBegun history start live before → (reached : List ℕ) (after : List Entry)
          → (KeepsWord (disk_history history store) → IsTurn history start p root live reached after)
          → KeepsWord (disk_history history new)
          → MovesMap history (next_root (durable_root store) written_all root (first_page (written pages named)) (length named)) reached before after result
          store
          new
      moved start live before begun reached after turn k2 =
          let k = commits.extends.kept k2 in
          moves before live (committed_still history p start (turn k).grows.stays k live before begun) after reached
          (roots_turn history p start (turn k).grows.stays k live before begun cache so root reached after (turn k) pages named final list content)

    pub moves_done : (root : ℕ) (new : Store D) → CommitsRoot history root (Ok tt) store new
        → MovesMaps history written_all root (first_page (written pages named)) (length named) (Ok tt) store new
        → AllByRecursion (λ (m : PageModel). IsContent m.content) those
        → (KeepsWord (disk_history history new) → IsListIn (written pages named) (now (disk_history history new)) (durable_root new)) → (last : ℕ)
        → MovesTurns history root (Ok tt) p (record { store = new; made = []; retired = []; book = committed last final })
    moves_done root new commits moves content there last start live before begun reached after turn =
        let all_moves = moved root (Ok tt) new commits moves content start live before begun reached after turn in
        record {
          any_moment = λ k2 image left. (all_moves k2).any_moment k2 image left;
          acknowledged = λ k2 image is. (all_moves k2).acknowledged k2 image is;
          begun = record {
            made = refl;
            retired = refl;
            turn = refl;
            committed = λ k2. (all_moves k2).committed;
            in_use = λ k2.
                in_use_after root start live before begun reached after (turn (commits.extends.kept k2)) (commits.extends.kept k2) last new (there k2);
          };
        }

    pub moves_failed : (root : ℕ) (fault : CommitFault) (new : Store D) → CommitsRoot history root (Err fault) store new
        → MovesMaps history written_all root (first_page (written pages named)) (length named) (Err fault) store new
        → AllByRecursion (λ (m : PageModel). IsContent m.content) those
        → MovesTurns history root (Err fault) p (record { store = new; made = made; retired = retired; book = book })
    moves_failed root fault new commits moves content start live before begun reached after turn =
        let all_moves = moved root (Err fault) new commits moves content start live before begun reached after turn in
        record {
          any_moment = λ k2 image left. (all_moves k2).any_moment k2 image left;
          acknowledged = tt;
          begun = tt;
        }

  -- ---- where nothing is written

  -- the pager, with another book
  abbrev with_book : Book → State D
  with_book other = record { store = store; made = made; retired = retired; book = other }

  pub moves_nothing : (root : ℕ) (fault : CommitFault) (other : Book) → MovesTurns history root (Err fault) p (with_book other)
  moves_nothing root fault other start live before begun pages after turn = record {
    any_moment = λ k image left.
        let committed_now = committed_still history p start (turn k).grows.stays k live before begun in
        started (disk_history history store) (λ i. StandsFor i before ⊎ StandsFor i after)
        (λ k1 i is. inl (stands_now (disk_history history store) (durable_root store) live before committed_now.keeps k1 i is)) k image left;
    acknowledged = tt;
    begun = tt;
  }

  pub commits_failed : (root : ℕ) (fault : CommitFault) (new : Store D) → CommitsRoot history root (Err fault) store new → durable_root new ≡ durable_root store
      → CommitsPages history root (Err fault) p (record { store = new; made = made; retired = retired; book = book })
  commits_failed root fault new commits still = record {
    extends = commits.extends;
    running = tt;
    version = tt;
    still = still;
    tree = tt;
    listed = tt;
    made = tt;
    retired = tt;
    memory = λ is. absurd (commits.no_memory is);
    full = λ is. inl ((commits.full is).0, (λ i. record { store = (commits.full is).1 i; made = made; retired = retired; book = book }));
    device = commits.device;
    stops = λ is. (commits.stops is, refl);
    idle = λ is i. record { store = commits.idle is i; made = made; retired = retired; book = book };
  }

-- what isn't a fault is done
pub ok_of : {E : Type 0} (result : Result (Unit {0}) E) → ((e : E) → result ≡ Err e → ⊥) → result ≡ Ok tt
ok_of (Ok tt) not_err = refl
ok_of (Err e) not_err = absurd (not_err e refl)
