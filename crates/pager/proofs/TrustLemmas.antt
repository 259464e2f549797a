-- A pager over a disk that is trusted: what is said of the same pager over the disk itself.
use Rattle.std.proofs.Common.{◌≡◌, ℕ, Bool, List, sym, ap, subst}
use Rattle.std.specs.Prelude.{IsTrue}
use Rattle.page.specs.History.{History, KeepsWord}
use Rattle.page.specs.Format.{PageModel}
use Rattle.page.specs.declared.page_cache.PageCache.{PageCache}
use Rattle.tree_model.specs.Keys.{Entry}
use Rattle.tree_model.specs.Reach.{HasMap}
use Rattle.tree_model.specs.Store.{Grows, Store as Pages}
use Rattle.freelist.specs.Book.{Book}
use Rattle.trusted_disk.specs.Trusting.{trusting, trusted_history}
use Rattle.trusted_disk.proofs.TrustingLemmas.{tells_word, trusts_all}
use Rattle.roots.specs.Store.{IsCommitted, Keeps, durable_root}
use Rattle.roots.specs.Trusting.{trusting_store}
use Rattle.roots.specs.declared.store.Store.{Store}
use Rattle.pager.specs.Commit.{IsTurn}
use Rattle.pager.specs.Kept.{IsKept}
use Rattle.pager.specs.State.{State}
use Rattle.pager.specs.Trusting.{trusting_pager}
use Rattle.pager.specs.Turn.{IsBegun}
use Rattle.pager.specs.View.{pager_history, store_of}

-- Its invariant says no more than that over the disk itself.
pub kept_trusting : {D : Type 0} (history : D → History) (b : Bool) (store : Store D) (cache : PageCache) (made : List PageModel) (book : Book)
    (listed places : List ℕ) → IsKept history store cache made book listed places
    → IsKept (trusted_history history) (trusting_store b store) cache made book listed places
kept_trusting history b store cache made book listed places kept = record {
  cached = λ k. kept.cached (word k);
  order = kept.order;
  each = kept.each;
  booked = kept.booked;
  listed = λ running k. kept.listed running (word k);
  wide = kept.wide;
}
  where
    word : KeepsWord (trusting b (history store.disk)) → KeepsWord (history store.disk)
    word k = ((tells_word b (history store.disk)).0 k).0

module _ {D : Type 0} (history : D → History) (b : Bool) (is : IsTrue b) where
  same : (p : State D) → pager_history (trusted_history history) (trusting_pager b p) ≡ pager_history history p
  same p = trusts_all b (pager_history history p) is

  pages_same : (p : State D) → store_of (trusted_history history) (trusting_pager b p) ≡ store_of history p
  pages_same p = ap (λ (h : History). record (store_of history p) { history = h }) (same p)

  committed_trusting : (p : State D) (live : List ℕ) (entries : List Entry) → IsCommitted history p.store live entries
      → IsCommitted (trusted_history history) (trusting_store b p.store) live entries
  committed_trusting p live entries committed = record {
    running = committed.running;
    keeps = subst (λ (h : History). Keeps h (durable_root p.store) live entries) (sym (same p)) committed.keeps;
  }

  pub begun_trusting : (p : State D) (live : List ℕ) (entries : List Entry) → IsBegun history p live entries
      → IsBegun (trusted_history history) (trusting_pager b p) live entries
  begun_trusting p live entries begun = record {
    made = begun.made;
    retired = begun.retired;
    turn = begun.turn;
    committed = λ k. committed_trusting p live entries (begun.committed (subst KeepsWord (same p) k));
    in_use = λ k. begun.in_use (subst KeepsWord (same p) k);
  }

  pub turn_trusting : (start now : State D) (root : ℕ) (live pages : List ℕ) (entries : List Entry)
      → IsTurn history start now root live pages entries
      → IsTurn (trusted_history history) (trusting_pager b start) (trusting_pager b now) root live pages entries
  turn_trusting start now root live pages entries turn = record {
    grows = subst (λ (s : Pages). Grows s (store_of (trusted_history history) (trusting_pager b now))) (sym (pages_same start))
        (subst (Grows (store_of history start)) (sym (pages_same now)) turn.grows);
    holds = subst (λ (s : Pages). HasMap s root pages entries) (sym (pages_same now)) turn.holds;
    account = turn.account;
  }
