-- The pages of a file are counted by reads of its disk alone.
use Rattle.std.proofs.Common.{◌≡◌, ℕ, ◌≤◌, max, List, ◌∷◌, ◌++◌, length, refl, sym, ap, subst, arith}
use Rattle.std.specs.Prelude.{◌&&◌, is_ok, not, Result}
use Rattle.std.specs.List.{AllByRecursion}
use Rattle.page.specs.Format.{PageModel}
use Rattle.page.specs.History.{History, KeepsWord}
use Rattle.page.specs.declared.page_cache.PageCache.{PageCache}
use Rattle.tree_model.specs.Store.{IsSame, Stays, flag}
use Rattle.tree_model.proofs.StoreLemmas.{grows_same}
use Rattle.freelist.specs.Book.{Book, is_free, rewind}
use Rattle.roots.specs.Counting.{CountsPages as CountsStore}
use Rattle.roots.specs.Image.{content_in}
use Rattle.roots.specs.Store.{disk_history}
use Rattle.roots.specs.Turn.{made_or}
use Rattle.roots.specs.Walk.{Looks}
use Rattle.roots.specs.declared.counting.PageCounts.{PageCounts}
use Rattle.roots.specs.declared.opening.OpenFault.{OpenFault}
use Rattle.roots.specs.declared.root.Root.{Root}
use Rattle.roots.specs.declared.store.Store.{Store}
use Rattle.pager.specs.Calls.{OnlyRead}
use Rattle.pager.specs.Counting.{CountsPages}
use Rattle.pager.specs.Kept.{IsKept, IsNew}
use Rattle.pager.specs.State.{State}
use Rattle.pager.specs.View.{book_numbers, pager_history, root_numbers, models_of, store_of}
use Rattle.pager.proofs.ReadLemmas.{still_agrees, still_listed, still_there}
use Rattle.pager.proofs.TurnLemmas.{committed_still}

module _ {D : Type 0} (history : D → History) (store new : Store D) (only : OnlyRead history store new) (made : List PageModel) (book : Book) where
  pub kept_read : {places : List ℕ} (cache : PageCache) (listed : List ℕ) → IsKept history store cache made book listed places
      → IsKept history new cache made book listed places
  kept_read cache listed so = record {
    cached = still_agrees history store new only cache cache (λ n found is. is) so.cached;
    order = so.order;
    each = subst (λ (root : Root). AllByRecursion (IsNew root.generation cache) made) (sym only.root) so.each;
    booked = so.booked;
    listed = still_listed history store new only listed so.listed;
    wide = subst (λ (root : Root). max root.pages 1 ≤ length book.states) (sym only.root) so.wide;
  }

  module _ (retired : List ℕ) where
    abbrev before : State D
    before = record { store = store; made = made; retired = retired; book = book }

    abbrev after : State D
    after = record { store = new; made = made; retired = retired; book = book }

    stays_read : Stays (store_of history before) (store_of history after)
    stays_read = record {
      base = (λ i. flag (only.stopped i) ∷ root_numbers (only.root i) ++ book_numbers book (rewind book.turn book.states));
      reads = only.reads;
    }

    same_read : KeepsWord (pager_history history after) → IsSame (store_of history before) (store_of history after)
    same_read k =
        let there : (n : ℕ) → models_of history after n ≡ models_of history before n = λ n. ap (made_or made n) (still_there history store new only k n) in
        record {
          word = only.reads.extends.kept k;
          page = (λ i n. content_in (there n i));
          live = (λ i n. is_ok (there n i) && not (is_free book.states n));
          made = refl;
          retired = refl;
          failures = only.reads.extends.failures k;
          failed_allocations = omega arith;
          counts = (let noted = only.noted k in record { rises = noted.rises; paced = noted.paced; counted = noted.counted });
        }

    pub counts_so : (result : Result PageCounts OpenFault) → Looks result (disk_history history store) (disk_history history new)
        → CountsStore history result store new → CountsPages history result before after
    counts_so result looks counts = record {
      grows = grows_same (store_of history before) (store_of history after) stays_read same_read;
      same = same_read;
      cause = looks.cause;
      stands = counts.stands;
      counts = λ k start live entries begun grows.
          counts.counts k live entries (committed_still history before start grows.stays (only.reads.extends.kept k) live entries begun);
    }
