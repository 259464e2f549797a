-- Turns that are taken back.
use Rattle.std.proofs.Common.{◌≡◌, ℕ, List, sym, ◌∙◌, ap, subst}
use Rattle.std.specs.Prelude.{◌==◌, not}
use Rattle.page.specs.History.{History, KeepsWord}
use Rattle.roots.specs.Store as stores
use Rattle.pager.specs.State.{State as PagerState}
use Rattle.pager.specs.Turn.{IsBegun, LeadsBack, Returns, undone_to}
use Rattle.pager.specs.View.{pager_history, store_of}
use Rattle.entry_model.specs.State.{Collection}
use Rattle.collections.specs.State.{State}
use Rattle.collections.specs.declared.mark.Mark.{Mark}
use Rattle.collections.specs.Calls.{ExtendsTurn}
use Rattle.collections.specs.Marks.{IsBackAt, IsUntouched, ReturnsTo, Undoes}
use Rattle.collections.specs.Standing.{HasState, IsTurnOf}
use Rattle.collections.specs.View.{disk_history}
use Rattle.collections.proofs.StandingLemmas.{begins, rests_at, state_stays, tree_same}

-- back to a mark
pub back_at : {D : Type 0} (history : D → History) (earlier new : State D) → ExtendsTurn history earlier new → new.root ≡ earlier.root
    → (KeepsWord (disk_history history new) → (store_of history new.pager).made ≡ (store_of history earlier.pager).made)
    → (KeepsWord (disk_history history new) → (store_of history new.pager).retired ≡ (store_of history earlier.pager).retired)
    → IsBackAt history earlier new
back_at history earlier new continues same made retired = record {
  extends = continues;
  state = λ start then has. state_stays history earlier new start then continues same made retired has;
  changed = (λ i. not (same i == tree_same history earlier.pager new.pager continues.stays i));
}

-- what undoing leaves as it was
untouched_so : {D : Type 0} (history : D → History) (old : State D) (pager : PagerState D) (root made retired : ℕ) → pager ≡ undone_to made retired old.pager
    → IsUntouched history old (record { pager = pager; root = root })
untouched_so {D = D} history old pager root made retired undone = record {
  disk = ap (λ (p : PagerState D). pager_history history p) undone;
  stopped = ap (λ (p : PagerState D). stores.is_stopped p.store) undone;
  version = ap (λ (p : PagerState D). (stores.durable_root p.store).generation) undone;
  reads = ap (λ (p : PagerState D). (store_of history p).failed_reads) undone;
}

pub returns_so : {D : Type 0} (history : D → History) (mark : Mark) (old : State D) (pager : PagerState D)
    → pager ≡ undone_to mark.pages.made mark.pages.retired old.pager → Returns history mark.pages.made mark.pages.retired old.pager pager
    → ReturnsTo history mark old (record { pager = pager; root = mark.root })
returns_so {D = D} history mark old pager undone returns = record {
  takes = ap (λ (p : PagerState D). p.book.failed_allocations) undone;
  untouched = untouched_so history old pager mark.root mark.pages.made mark.pages.retired undone;
  back = λ earlier is continues.
      let r = returns earlier.pager is.orderly continues is.made is.retired in
      back_at history earlier (record { pager = pager; root = mark.root }) r.0 is.root (λ k. (r.1 k).made) (λ k. (r.1 k).retired);
}

-- back to the beginning
begun_again : {D : Type 0} (history : D → History) (old new : State D) (made retired : ℕ) → LeadsBack history made retired old.pager new.pager → made ≡ 0
    → retired ≡ 0 → IsUntouched history old new
    → new.root ≡ (stores.durable_root new.pager.store).tree → (start now : List Collection) → HasState history old start now → HasState history new start start
begun_again history old new made retired leads none empty same is start now has running k =
    let t : IsTurnOf history old start now = has (sym same.stopped ∙ running) (subst (λ (h : History). KeepsWord h) same.disk k) in
    let begun : IsBegun history new.pager t.live t.before = leads t.began t.live t.before t.begun t.turn.grows none empty in
    begins history new t.live t.before start is k begun t.spells_start t.start_state

pub undoes_so : {D : Type 0} (history : D → History) (old : State D) (pager : PagerState D) (root made retired : ℕ) → pager ≡ undone_to made retired old.pager
    → LeadsBack history made retired old.pager pager → made ≡ 0 → retired ≡ 0
    → root ≡ (stores.durable_root pager.store).tree → Undoes history old (record { pager = pager; root = root })
undoes_so {D = D} history old pager root made retired undone leads none empty is =
    let same = untouched_so history old pager root made retired undone in
    record {
      untouched = same;
      takes = ap (λ (p : PagerState D). p.book.failed_allocations) undone;
      clean = rests_at root (stores.durable_root pager.store).tree is;
      state = λ start now has. begun_again history old (record { pager = pager; root = root }) made retired leads none empty same is start now has;
    }
