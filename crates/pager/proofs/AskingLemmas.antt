-- What a commit asks of the disk, by what was planned for it.
use Rattle.std.proofs.Common.{◌≡◌, ℕ, suc, ◌+◌, ◌*◌, Bool, true, false, List, [], ◌∷◌, ◌++◌, length, drop, refl, sym, ◌∙◌, ap, arith}
use Rattle.std.specs.Prelude.{nat_lt, if◌then◌else◌, Result, Err}
use Rattle.page.specs.Calls.{MakesCalls}
use Rattle.page.specs.Format.{PageModel}
use Rattle.page.specs.History.{History}
use Rattle.page.specs.declared.page_cache.PageCache.{PageCache}
use Rattle.page.proofs.CallLemmas.{no_calls}
use Rattle.freelist.specs.Book.{Book}
use Rattle.freelist.specs.FreeList.{written}
use Rattle.roots.specs.Listed.{list_models}
use Rattle.roots.specs.Store.{durable_root, is_stopped}
use Rattle.roots.specs.declared.store.CommitFault.{CommitFault}
use Rattle.roots.specs.declared.store.CommitFault.TheVariants as faults
use Rattle.roots.specs.declared.store.Store.{Store}
use Rattle.pager.specs.Asking.{OnlyWrites}
use Rattle.pager.specs.Kept.{IsKept}
use Rattle.pager.specs.Order.{merged, pages_at, put_before}
use Rattle.pager.specs.Planning.{IsPlanned, PlanFails, next_generation}
use Rattle.pager.specs.State.{State}
use Rattle.pager.specs.View.{pager_history}
use Rattle.pager.specs.Writing.{retired_all, written_of}
use Rattle.pager.specs.declared.planning.Plan.{Plan}
use Rattle.pager.proofs.PlanLemmas.{tree_inside}

-- ---- how many pages are written

long_if : (b : Bool) (xs ys : List PageModel) (n : ℕ) → length xs ≡ n → length ys ≡ n → length (if b then xs else ys) ≡ n
long_if true xs ys n one other = one
long_if false xs ys n one other = other

long_put : (x : PageModel) (next : List PageModel → List PageModel) (k : ℕ) → ((zs : List PageModel) → length (next zs) ≡ k + length zs) → (ys : List PageModel)
    → length (put_before x next ys) ≡ suc (k + length ys)
long_put x next k long [] = omega (arith, long [])
long_put x next k long (y ∷ ys) =
    long_if (nat_lt x.page y.page) (x ∷ next (y ∷ ys)) (y ∷ put_before x next ys) (suc (k + length (y ∷ ys))) (omega (arith, long (y ∷ ys)))
    (omega (arith, long_put x next k long ys))

long_merged : (xs ys : List PageModel) → length (merged xs ys) ≡ length xs + length ys
long_merged [] ys = omega arith
long_merged (x ∷ xs) ys = omega (arith, long_put x (merged xs) (length xs) (λ zs. long_merged xs zs) ys)

long_models : (born : ℕ) (pages named : List ℕ) → length (list_models born (written pages named)) ≡ length pages
long_models born [] named = refl
long_models born (page ∷ pages) named = omega (arith, long_models born pages (drop 1019 named))

-- ---- a commit

-- a stopped store is asked nothing
pub stopped_writes : {D : Type 0} (history : D → History) (p : State D) → is_stopped p.store ≡ true → OnlyWrites history (Err faults.Device) p p
stopped_writes history p stopped = record {
  count = 0;
  pages = λ running memory full. let never : true ≡ false = sym stopped ∙ running in absurd cc;
  calls = no_calls faults.Device (pager_history history p) (8 * 0 + 3);
}

module _ {D : Type 0} {listed places : List ℕ} (history : D → History) (store : Store D) (cache : PageCache) (made : List PageModel) (retired : List ℕ)
    (book : Book) (so : IsKept history store cache made book listed places) where
  abbrev p : State D
  p = record { store = store; made = made; retired = retired; book = book }

  -- nothing was planned
  pub unplanned_writes : (fault : CommitFault) (new : Book) → PlanFails (durable_root store) (pages_at made places) (retired ++ listed) fault book new
      → OnlyWrites history (Err fault) p (record p { book = new })
  unplanned_writes faults.Memory new fails = record {
    count = 0;
    pages = λ running memory full. absurd (memory refl);
    calls = no_calls faults.Memory (pager_history history p) (8 * 0 + 3);
  }
  unplanned_writes faults.Full new fails = record {
    count = 0;
    pages = λ running memory full. absurd (full refl);
    calls = no_calls faults.Full (pager_history history p) (8 * 0 + 3);
  }
  unplanned_writes faults.Device new none = absurd none

  module _ (final : Book) (plan : Plan) (is : IsPlanned (durable_root store) (pages_at made places) (retired ++ listed) plan book final) where
    abbrev tree : List PageModel
    tree = written_of (durable_root store).generation (retired_all (durable_root store).generation (retired ++ listed) book) (pages_at made places)

    abbrev models : List PageModel
    models = list_models (next_generation (durable_root store)) (written plan.listed.items is.named)

    written_long : length plan.written.items ≡ length tree + length plan.listed.items
    written_long =
        let all : length plan.written.items ≡ length (merged tree models) = ap length is.writes in
        omega (arith, all, long_merged tree models, long_models (next_generation (durable_root store)) plan.listed.items is.named)

    pub planned_writes : (result : Result (Unit {0}) CommitFault) (new : State D)
        → MakesCalls (8 * length plan.written.items + 3) result (pager_history history p) (pager_history history new) → OnlyWrites history result p new
    planned_writes result new calls = record {
      count = length plan.written.items;
      pages = λ running memory full. record {
        listed = listed;
        are = so.listed;
        places = places;
        order = so.order;
        pages = plan.listed.items;
        named = is.named;
        last = final;
        list = is.list (tree_inside history store cache made (retired ++ listed) book so);
        all = written_long;
      };
      calls = calls;
    }
