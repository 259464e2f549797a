-- How many pages a file may have stays.
use Rattle.std.proofs.Common.{◌≡◌, ℕ, ◌∷◌, List, [], ◌++◌, length, drop, sym, ◌∙◌, ap, arith}
use Rattle.std.proofs.lemmas.List.{length-set}
use Rattle.page.specs.Format.{PageModel}
use Rattle.page.specs.History.{History}
use Rattle.page.specs.declared.page_cache.PageCache.{PageCache}
use Rattle.freelist.specs.Book.{Book, committed, rewind, undone, unpinned, without}
use Rattle.freelist.specs.declared.states.PageState.{PageState}
use Rattle.freelist.specs.declared.states.PageState.TheVariants as states
use Rattle.freelist.specs.declared.turns.Change.{Change}
use Rattle.freelist.specs.declared.turns.Change.TheVariants as changes
use Rattle.roots.specs.Store.{durable_root}
use Rattle.roots.specs.declared.root.Root.{Root}
use Rattle.roots.specs.declared.store.CommitFault.{CommitFault}
use Rattle.roots.specs.declared.store.CommitFault.TheVariants as faults
use Rattle.roots.specs.declared.store.Store.{Store}
use Rattle.pager.specs.Kept.{IsKept}
use Rattle.pager.specs.Limit.{IsWithinLimit, LimitStays}
use Rattle.pager.specs.Order.{pages_at}
use Rattle.pager.specs.Planning.{IsPlanned, PlanFails}
use Rattle.pager.specs.Writing.{retired_all}
use Rattle.pager.specs.declared.planning.Plan.{Plan}
use Rattle.pager.proofs.BookLemmas.{all_length, committed_length, length_freed, made_below}
use Rattle.pager.proofs.ListedLemmas.{as_wide}
use Rattle.pager.proofs.PlanLemmas.{tree_inside}
use Rattle.pager.proofs.TurnLemmas.{same_beginning}

rewound_long : (turn : List Change) (pages : List PageState) → length (rewind turn pages) ≡ length pages
rewound_long [] pages = omega arith
rewound_long (changes.Taken page ∷ turn) pages = length-set (rewind turn pages) page states.Free ∙ rewound_long turn pages
rewound_long (changes.Retired page version ∷ turn) pages = length-set (rewind turn pages) page states.InUse ∙ rewound_long turn pages

pub limit_stays : {D : Type 0} (history : D → History) → LimitStays history
limit_stays history old new grows =
    sym (rewound_long new.book.turn new.book.states) ∙ ap length (same_beginning new old grows.stays.base) ∙ rewound_long old.book.turn old.book.states

pub undone_limit : (n : ℕ) (b : Book) → length (undone n b).states ≡ length b.states
undone_limit n b = rewound_long (drop n b.turn) b.states

pub unpinned_limit : (version : ℕ) (b : Book) → length (unpinned version b).states ≡ length b.states
unpinned_limit version b = length_freed (without version b.pins) b.waiting b.states

-- where no commit was planned
pub unplanned_limit : (root : Root) (made : List PageModel) (pages : List ℕ) (fault : CommitFault) (old new : Book) → PlanFails root made pages fault old new
    → length new.states ≡ length old.states
unplanned_limit root made pages faults.Memory old new same = ap (λ (b : Book). length b.states) same
unplanned_limit root made pages faults.Full old new fails = ap (λ (b : Book). length b.states) fails.1
unplanned_limit root made pages faults.Device old new none = absurd none

module _ {D : Type 0} {listed places : List ℕ} (history : D → History) (store : Store D) (cache : PageCache) (made : List PageModel) (retired : List ℕ)
    (book : Book) (so : IsKept history store cache made book listed places) where
  pub within_limit : IsWithinLimit {D = D} (record { store = store; made = made; retired = retired; book = book })
  within_limit = record { file = omega (arith, so.wide); made = λ n some. made_below made book so.booked n some }

  -- once the commit that was planned is done
  pub planned_limit : (final : Book) (plan : Plan) → IsPlanned (durable_root store) (pages_at made places) (retired ++ listed) plan book final → (version : ℕ)
      → length (committed version final).states ≡ length book.states
  planned_limit final plan is version =
      let mid : Book = retired_all (durable_root store).generation (retired ++ listed) book in
      let list = is.list (tree_inside history store cache made (retired ++ listed) book so) in
      committed_length version final ∙ (as_wide plan.listed.items mid final list.takes).long
      ∙ all_length (durable_root store).generation (retired ++ listed) book
