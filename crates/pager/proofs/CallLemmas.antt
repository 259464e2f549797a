-- What a read of a pager gives, and what it leaves.
use Rattle.std.proofs.Common.{◌≡◌, ◌≢◌, ℕ, ◌+◌, ◌<◌, ◌≤◌, max, Bool, true, false, List, ◌∷◌, ◌++◌, length, refl, sym, ◌∙◌, ap, subst, Option, Some, None}
use Rattle.std.specs.Prelude.{◌&&◌, is_ok, not, Result, Ok, Err, IfOk, IfErr}
use Rattle.std.specs.List.{AllByRecursion}
use Rattle.page.specs.Cache.{kept}
use Rattle.page.specs.Content.{Content}
use Rattle.page.specs.Format.{PageModel}
use Rattle.page.specs.History.{History}
use Rattle.page.specs.declared.page_cache.PageCache.{PageCache}
use Rattle.tree_model.specs.Store.{HasCause, IsAt, KeepsWord, Stays, Store as Pages, flag}
use Rattle.tree_model.specs.declared.pages.TreeFault.{TreeFault}
use Rattle.tree_model.specs.declared.pages.TreeFault.TheVariants as faults
use Rattle.freelist.specs.Book.{Book, is_free, rewind}
use Rattle.roots.specs.declared.root.Root.{Root}
use Rattle.roots.specs.declared.store.Store.{Store}
use Rattle.roots.specs.Image.{content_in}
use Rattle.roots.specs.Store.{disk_history, durable_root}
use Rattle.roots.proofs.WalkLemmas.{IsFound, found_at}
use Rattle.pager.specs.Calls.{HasReadCause, ReadsPage}
use Rattle.pager.specs.Kept.{IsKept, IsNew}
use Rattle.pager.specs.State.{State}
use Rattle.pager.specs.View.{book_numbers, root_numbers, models_of, store_of}
use Rattle.pager.proofs.ListLemmas.{all_both, made_none}
use Rattle.pager.proofs.ReadLemmas.{model_in, still_listed}

pub no_longer : {X : Type 0} (a b : Option X) → b ≡ None → ((x : X) → a ≡ Some x → b ≡ Some x) → a ≡ None
no_longer None b none less = refl
no_longer {X = X} (Some x) b none less = let never : Some x ≡ None = sym (less x refl) ∙ none in absurd cc

pub read_kept : {D : Type 0} {listed places : List ℕ} (history : D → History) (store new : Store D) (cache after : PageCache) (made : List PageModel)
    (book : Book)
    (page : ℕ)
    (result : Result PageModel TreeFault) → IsKept history store cache made book listed places
    → ReadsPage history page result store new cache after → AllByRecursion (λ (m : PageModel). m.page ≢ page) made
    → IsKept history new after made book listed places
read_kept {listed = listed} {places = places} history store new cache after made book page result so read ne = record {
  cached = read.agrees so.cached;
  order = so.order;
  each = all_both (IsNew (durable_root store).generation cache) (λ (m : PageModel). m.page ≢ page) (IsNew (durable_root new).generation after)
      (λ m new_one other. record {
        inside = new_one.inside;
        some = new_one.some;
        small = new_one.small;
        until = subst (λ (root : Root). m.generation ≤ root.generation + 1) (sym read.only.root) new_one.until;
        uncached = no_longer (kept after m.page) (kept cache m.page) new_one.uncached (λ found is. read.others m.page found other is);
      }) made so.each ne;
  booked = so.booked;
  listed = still_listed history store new read.only listed so.listed;
  wide = subst (λ (root : Root). max root.pages 1 ≤ length book.states) (sym read.only.root) so.wide;
}

pub read_value : {D : Type 0} {listed places : List ℕ} (history : D → History) (store new : Store D) (cache after : PageCache) (made : List PageModel)
    (retired : List ℕ) (book : Book)
    (page : ℕ) (result : Result PageModel TreeFault) (old : State D)
    → record { store = store; made = made; retired = retired; book = book } ≡ old → IsKept history store cache made book listed places
    → ReadsPage history page result store new cache after → AllByRecursion (λ (m : PageModel). m.page ≢ page) made
    → KeepsWord (store_of history (record { store = new; made = made; retired = retired; book = book }))
    → IfOk result (λ shared. content_in (models_of history old page) ≡ shared.content)
read_value {D = D} history store new cache after made retired book page result old view_is so read ne word =
    subst (λ (p : State D). IfOk result (λ shared. content_in (models_of history p page) ≡ shared.content)) view_is (go result (read.value so.cached word))
  where
    go : (r : Result PageModel TreeFault) → IfOk r (λ shared. model_in history store page ≡ Ok shared)
        → IfOk r (λ shared. content_in (models_of history (record { store = store; made = made; retired = retired; book = book }) page) ≡ shared.content)
    go (Ok shared) is = ap content_in (made_none made page (model_in history store page) ne ∙ is)
    go (Err fault) is = tt

pub read_stays : {D : Type 0} (history : D → History) (store new : Store D) (cache after : PageCache) (made : List PageModel) (retired : List ℕ) (book : Book)
    (page : ℕ) (result : Result PageModel TreeFault) (old : State D)
    → record { store = store; made = made; retired = retired; book = book } ≡ old → ReadsPage history page result store new cache after
    → Stays (store_of history old) (store_of history (record { store = new; made = made; retired = retired; book = book }))
read_stays {D = D} history store new cache after made retired book page result old view_is read =
    let last : State D = record { store = new; made = made; retired = retired; book = book } in
    subst (λ (p : State D). Stays (store_of history p) (store_of history last)) view_is (record {
      base = (λ i. flag (read.only.stopped i) ∷ root_numbers (read.only.root i) ++ book_numbers book (rewind book.turn book.states));
      reads = read.only.reads;
    })

first_true : (a b : Bool) → (a && b) ≡ true → a ≡ true
first_true true b is = refl
first_true false b is = absurd cc

more_cause : (old new : Pages) (h0 h1 : History) (fault : TreeFault) → (h0.failures < h1.failures → old.history.failures < new.history.failures)
    → HasReadCause h0 h1 fault → HasCause old new fault
more_cause old new h0 h1 faults.Memory to cause = tt
more_cause old new h0 h1 faults.Device to cause = to cause
more_cause old new h0 h1 faults.Full to cause = absurd cause
more_cause old new h0 h1 faults.Kind to cause = cause
more_cause old new h0 h1 faults.Number to cause = cause
more_cause old new h0 h1 faults.Order to cause = cause
more_cause old new h0 h1 faults.Length to cause = cause

pub read_cause : {D : Type 0} (history : D → History) (store new : Store D) (cache after : PageCache) (made : List PageModel) (retired : List ℕ) (book : Book)
    (page : ℕ) (result : Result PageModel TreeFault) (old : State D)
    → record { store = store; made = made; retired = retired; book = book } ≡ old → ReadsPage history page result store new cache after
    → AllByRecursion (λ (m : PageModel). m.page ≢ page) made
    → let last : State D = record { store = new; made = made; retired = retired; book = book } in KeepsWord (store_of history last) → (content : Content)
    → IsAt (store_of history old) page content
    → IfErr result (HasCause (store_of history old) (store_of history last))
read_cause {D = D} history store new cache after made retired book page result old view_is read ne word content =
    subst (λ (p : State D). IsAt (store_of history p) page content
    → IfErr result (HasCause (store_of history p) (store_of history (record { store = new; made = made; retired = retired; book = book })))) view_is caused
  where
    go : (r : Result PageModel TreeFault) → IfErr r (HasReadCause (disk_history history store) (disk_history history new))
        → IfErr r (HasCause (store_of history (record { store = store; made = made; retired = retired; book = book }))
        (store_of history (record { store = new; made = made; retired = retired; book = book })))
    go (Ok shared) cause = tt
    go (Err fault) cause =
        more_cause (store_of history (record { store = store; made = made; retired = retired; book = book }))
        (store_of history (record { store = new; made = made; retired = retired; book = book })) (disk_history history store) (disk_history history new) fault
        (λ less. less) cause

    caused : IsAt (store_of history (record { store = store; made = made; retired = retired; book = book })) page content
        → IfErr result
        (HasCause (store_of history (record { store = store; made = made; retired = retired; book = book }))
        (store_of history (record { store = new; made = made; retired = retired; book = book })))
    caused at =
        let p : State D = record { store = store; made = made; retired = retired; book = book } in
        let found : IsFound (models_of history p page) content =
        found_at (models_of history p) page content (first_true (is_ok (models_of history p page)) (not (is_free book.states page)) at.live) at.holds in
        go result (read.cause word found.model (sym (made_none made page (model_in history store page) ne) ∙ found.is))
