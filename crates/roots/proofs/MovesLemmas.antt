-- How a commit moves from the one map to the other.
use Rattle.std.proofs.Common.{◌≡◌, ℕ, ◌+◌, ◌%◌, ◌^◌, ◌<◌, max, inl, List, ◌∙◌, ap, Ok, Err}
use Rattle.std.specs.Prelude.{◌⊎◌, Result, OnOk}
use Rattle.page.specs.Format.{PageModel}
use Rattle.page.specs.History.{History, KeepsWord, now, reads}
use Rattle.page.specs.Crash.{ExtendsHistory, LeavesOnly, IsImageOutside, AreDurable, put}
use Rattle.page.proofs.Moments.{leaves_weaker, started}
use Rattle.tree_model.specs.Keys.{Entry}
use Rattle.roots.specs.Replace.{IsOldOrPut}
use Rattle.roots.specs.Root.{root_bytes}
use Rattle.roots.specs.declared.root.Root.{Root}
use Rattle.roots.specs.declared.store.CommitFault.TheVariants as faults
use Rattle.roots.specs.declared.store.Store.{Store}
use Rattle.roots.specs.Commit.{MovesMap, MovesRoot}
use Rattle.roots.specs.Image.{StandsFor, IsOnPages}
use Rattle.roots.specs.Store.{IsCommitted, Keeps}
use Rattle.roots.specs.Turn.{AreWritten, IsTurn, end_behind, next_root, numbers_of}
use Rattle.roots.proofs.TurnLemmas.{writing, all_moments, now_kept, stands_now}

module _ (h0 h1 : History) (old next : Root) (live pages : List ℕ) (made : List PageModel) (before after : List Entry)
    (keeps : Keeps h0 old live before) (turn : IsTurn h0 old live made next pages after) (continues : ExtendsHistory h0 h1)
    (others : KeepsWord h1 → (k : ℕ) → (IsOnPages (numbers_of made) k → ⊥) → now h1 k ≡ now h0 k)
    (during : LeavesOnly h0 h1 (IsImageOutside (now h0) (IsOnPages (numbers_of made)))) where
  -- a page wasn't written
  pub cut : {E : Type 0} (r : Result (Unit {0}) E) → OnOk r (Keeps h1 next pages after) → MovesRoot next pages before after r h0 h1
  cut r none = record {
    any_moment = leaves_weaker h0 h1 (λ image. StandsFor image before) (λ image. StandsFor image before ⊎ StandsFor image after) (λ image is. inl is)
        (writing h0 h1 old next live pages made before after keeps turn continues others during);
    keeps = none;
  }

  -- all pages were written, and the root was or wasn't
  module _ (h2 : History) (is : next ≡ next_root old made next.tree next.free_list next.free_count) (few : next.generation < 2 ^ 64)
      (written : KeepsWord h1 → AreWritten (reads (now h1)) made)
      (sector : List ℕ) (sector_is : sector ≡ root_bytes next) (extends : ExtendsHistory h1 h2)
      (root_during : LeavesOnly h1 h2 (IsOldOrPut (now h1) (next.generation % 2) sector)) where
    number : next.generation ≡ old.generation + 1
    number = ap (λ (r : Root). r.generation) is

    count : next.pages ≡ max old.pages (end_behind 1 made)
    count = ap (λ (r : Root). r.pages) is

    kept_after : {E : Type 0} (r : Result (Unit {0}) E) → (KeepsWord h2 → OnOk r (AreDurable (now h2)))
        → (KeepsWord h2 → OnOk r (reads (now h2) ≡ put (reads (now h1)) (next.generation % 2) sector)) → OnOk r (Keeps h2 next pages after)
    kept_after (Ok u) synced there =
        now_kept h0 h1 old next live pages made before after keeps turn continues others number count few written h2 sector sector_is extends root_during
        synced there
    kept_after (Err e) synced there = tt

    pub moved : {E : Type 0} (r : Result (Unit {0}) E) → (KeepsWord h2 → OnOk r (AreDurable (now h2)))
        → (KeepsWord h2 → OnOk r (reads (now h2) ≡ put (reads (now h1)) (next.generation % 2) sector))
        → MovesRoot next pages before after r h0 h2
    moved r synced there = record {
      any_moment = all_moments h0 h1 old next live pages made before after keeps turn continues others number count few written h2 sector sector_is extends
          root_during
          during;
      keeps = kept_after r synced there;
    }

-- ---- what the store says

-- no greater generation is left
pub is_last : {D : Type 0} (history : D → History) (store : Store D) (next : Root) (live pages : List ℕ) (before after : List Entry)
    → IsCommitted history store live before
    → MovesMap history next pages before after (Err faults.Full) store store
is_last history store next live pages before after committed = record {
  any_moment = started (history store.disk) _ (λ k image is. inl (stands_now (history store.disk) store.root live before committed.keeps k image is));
  acknowledged = tt;
  committed = tt;
  root = tt;
  kept = λ is. stands_now (history store.disk) store.root live before committed.keeps;
}

-- the device failed
pub failed : {D : Type 0} (history : D → History) (old new : Store D) (root next : Root) (pages : List ℕ) (before after : List Entry) {E : Type 0} (e : E)
    → MovesRoot root pages before after (Err e) (history old.disk) (history new.disk) → MovesMap history next pages before after (Err faults.Device) old new
failed history old new root next pages before after e moves = record {
  any_moment = moves.any_moment;
  acknowledged = tt;
  committed = tt;
  root = tt;
  kept = λ is. absurd cc;
}

-- it is done
pub done : {D : Type 0} (history : D → History) (old : Store D) (disk : D) (root next : Root) (pages : List ℕ) (before after : List Entry)
    (live : List ℕ) {E : Type 0}
    → IsCommitted history old live before → root ≡ next → MovesRoot root pages before after {E = E} (Ok tt) (history old.disk) (history disk)
    → MovesMap history next pages before after (Ok tt) old (record old { disk = disk; root = root })
done history old disk root next pages before after live committed is moves = record {
  any_moment = moves.any_moment;
  acknowledged = stands_now (history disk) root pages after moves.keeps;
  committed = record { running = committed.running; keeps = moves.keeps };
  root = is;
  kept = λ is. absurd cc;
}

-- the root that is written is the next one
pub root_is : (old : Root) (made : List PageModel) (tree pages free_list free_count end : ℕ) → pages ≡ max old.pages end → end ≡ end_behind 1 made
    → record { generation = old.generation + 1; tree = tree; pages = pages; free_list = free_list; free_count = free_count }
    ≡ next_root old made tree free_list free_count
root_is old made tree pages free_list free_count end most is =
    let same : pages ≡ max old.pages (end_behind 1 made) = most ∙ ap (max old.pages) is in
    (λ i. record { generation = old.generation + 1; tree = tree; pages = same i; free_list = free_list; free_count = free_count })
