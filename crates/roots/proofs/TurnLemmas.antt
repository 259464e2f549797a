-- A turn's pages are written, and then its root.
use Rattle.std.proofs.Common.{◌≡◌, ℕ, ◌+◌, ◌%◌, ◌^◌, max, ◌≤◌, ◌<◌, inl, inr, List, [], ◌∷◌, refl, sym, ◌∙◌, ap, subst, arith}
use Rattle.std.specs.Prelude.{◌⊎◌}
use Rattle.std.specs.List.{AllByRecursion}
use Rattle.page.specs.History.{History, Sector, KeepsWord, now, reads}
use Rattle.page.specs.Crash.{ExtendsHistory, LeavesOnly, CrashLeaves, IsImageOutside, IsDurable, AreDurable, put}
use Rattle.page.specs.Format.{PageModel}
use Rattle.page.specs.PageLaws.{IsPageModel}
use Rattle.page.proofs.Moments.{leaves_further, leaves_weaker}
use Rattle.page.proofs.TwoFacts.{secured, secured_outside}
use Rattle.tree_model.specs.Keys.{Entry}
use Rattle.freelist.specs.FreeList.{Part}
use Rattle.roots.specs.Replace.{IsOldOrPut}
use Rattle.roots.specs.Root.{IsPossible, root_bytes}
use Rattle.roots.specs.declared.root.Root.{Root}
use Rattle.roots.specs.Image.{model_at, HasList, HoldsMap, OpensAs, StandsFor, IsOnPages, IsKept, reached_by}
use Rattle.roots.specs.Store.{Keeps}
use Rattle.roots.specs.Turn.{IsTurn, AreWritten, end_behind, numbers_of}
use Rattle.roots.proofs.OpeningRules.{known}
use Rattle.roots.proofs.CountLemmas.{list_below}
use Rattle.roots.proofs.ImageLemmas.{opens_same, holds_same, list_same, live_below, one_list, secures}
use Rattle.roots.proofs.MadeLemmas.{apart, end_grows, end_most, inside_end, models_after}
use Rattle.roots.proofs.RootLemmas.{put_opens, put_holds, stands_during}

-- what is kept is what a crash leaves
pub stands_now : (h : History) (root : Root) (live : List ℕ) (entries : List Entry) → Keeps h root live entries
    → CrashLeaves h (λ image. StandsFor image entries)
stands_now h root live entries keeps k image is =
    let holds = keeps.holds k in
    let parts = holds.listed.0 in
    secured (now h) (IsKept (reached_by live parts)) (λ image. StandsFor image entries)
    (secures (now h) root live parts entries (keeps.opens k) holds.listed.1 holds (keeps.durable k parts holds.listed.1)) image is

pub tree_below : (image : ℕ → List ℕ) (root : Root) (pages : List ℕ) (entries : List Entry) → 0 < root.pages
    → HoldsMap (model_at image root) root pages entries → root.tree < root.pages
tree_below image root pages entries some holds = elim holds.map [
  | inl (none, _) ↦ omega (arith, none, some)
  | inr has ↦ live_below image root root.tree has.tree.at.live
]

below_weaker : (end more : ℕ) → end ≤ more → (made : List PageModel) → AllByRecursion (λ (m : PageModel). m.page < end) made
    → AllByRecursion (λ (m : PageModel). m.page < more) made
below_weaker end more le [] all = tt
below_weaker end more le (m ∷ ms) all = (omega (arith, all.0, le), below_weaker end more le ms all.1)

module _ (h0 h1 : History) (old next : Root) (live pages : List ℕ) (made : List PageModel) (before after : List Entry)
    (keeps : Keeps h0 old live before) (turn : IsTurn h0 old live made next pages after) (continues : ExtendsHistory h0 h1)
    (others : KeepsWord h1 → (k : ℕ) → (IsOnPages (numbers_of made) k → ⊥) → now h1 k ≡ now h0 k) where
  -- the list that the committed root names
  abbrev parts : KeepsWord h1 → List Part
  parts k1 = (keeps.holds (continues.kept k1)).listed.0

  had_list : (k1 : KeepsWord h1) → HasList (model_at (reads (now h0)) old) old live (parts k1)
  had_list k1 = (keeps.holds (continues.kept k1)).listed.1

  not_made : (k1 : KeepsWord h1) (k : ℕ) → IsKept (reached_by live (parts k1)) k → IsOnPages (numbers_of made) k → ⊥
  not_made k1 k kept = apart (reached_by live (parts k1)) made k turn.ascending (turn.free (continues.kept k1) (parts k1) (had_list k1)) kept

  had_durable : (k1 : KeepsWord h1) (k : ℕ) → IsKept (reached_by live (parts k1)) k → IsDurable (now h0 k)
  had_durable k1 = keeps.durable (continues.kept k1) (parts k1) (had_list k1)

  -- while the pages are written
  pub writing : LeavesOnly h0 h1 (IsImageOutside (now h0) (IsOnPages (numbers_of made))) → LeavesOnly h0 h1 (λ image. StandsFor image before)
  writing during k1 image left =
      let k0 = continues.kept k1 in
      secured_outside (now h0) (IsKept (reached_by live (parts k1))) (IsOnPages (numbers_of made)) (λ image. StandsFor image before)
      (secures (now h0) old live (parts k1) before (keeps.opens k0) (had_list k1) (keeps.holds k0) (had_durable k1)) (not_made k1) image
      (during k1 image left)

  kept_same : (k1 : KeepsWord h1) (k : ℕ) → IsKept (reached_by live (parts k1)) k → now h1 k ≡ now h0 k
  kept_same k1 k kept = others k1 k (not_made k1 k kept)

  reads_same : (k1 : KeepsWord h1) (k : ℕ) → IsKept (reached_by live (parts k1)) k → reads (now h1) k ≡ reads (now h0) k
  reads_same k1 k kept = ap (λ (x : Sector). x.read) (kept_same k1 k kept)

  -- once they are written
  still_list : (k1 : KeepsWord h1) → HasList (model_at (reads (now h1)) old) old live (parts k1)
  still_list k1 = list_same (reads (now h0)) (reads (now h1)) old live (parts k1) (λ k extends. reads_same k1 k (inr extends)) (had_list k1)

  still_durable : (k1 : KeepsWord h1) (k : ℕ) → IsKept (reached_by live (parts k1)) k → IsDurable (now h1 k)
  still_durable k1 k kept = subst IsDurable (sym (kept_same k1 k kept)) (had_durable k1 k kept)

  pub still_kept : Keeps h1 old live before
  still_kept = record {
    opens = λ k1. opens_same (reads (now h0)) (reads (now h1)) old (reads_same k1 0 (inl (omega arith))) (reads_same k1 1 (inl (omega arith)))
        (keeps.opens (continues.kept k1));
    holds = λ k1. holds_same (reads (now h0)) (reads (now h1)) old live (parts k1) before (had_list k1) (λ k extends. reads_same k1 k (inr extends))
        (keeps.holds (continues.kept k1));
    durable = λ k1 rest has k kept.
        let same : parts k1 ≡ rest = one_list (model_at (reads (now h1)) old) old live live (parts k1) rest (still_list k1) has in
        still_durable k1 k (subst (λ (p : List Part). IsKept (reached_by live p) k) (sym same) kept);
  }

  module _ (number : next.generation ≡ old.generation + 1) (count : next.pages ≡ max old.pages (end_behind 1 made)) (few : next.generation < 2 ^ 64)
      (written : KeepsWord h1 → AreWritten (reads (now h1)) made) where
    ended : end_behind 1 made ≤ next.pages
    ended = omega (arith, count)

    pub has : KeepsWord h1 → HoldsMap (model_at (reads (now h1)) next) next pages after
    has k1 =
        subst (λ models. HoldsMap models next pages after)
        (sym (λ i n. models_after (reads (now h0)) (reads (now h1)) next made turn.ascending
        (below_weaker (end_behind 1 made) next.pages ended made (inside_end made 0 1 turn.ascending))
        (subst (λ (g : ℕ). AllByRecursion (IsPageModel g) made) (sym number) turn.models) (written k1)
        (λ k off. ap (λ (x : Sector). x.read) (others k1 k off)) n i))
        (turn.holds (continues.kept k1))

    pub possible : KeepsWord h1 → IsPossible next
    possible k1 =
        let old_known = known (reads (now h0) 0) (reads (now h0) 1) old (keeps.opens (continues.kept k1)) in
        let some : 1 ≤ end_behind 1 made = end_grows made 0 1 refl turn.ascending in
        let most : end_behind 1 made ≤ 1048576 = end_most 1048576 made 1 (omega arith) turn.inside in
        let pages_some : 0 < next.pages = omega (arith, count, some) in
        let file = has k1 in
        let list = list_below (model_at (reads (now h1)) next) next pages file.listed.0 pages_some file.listed.1 in
        record {
          committed = omega (arith, number);
          generation = few;
          tree = tree_below (reads (now h1)) next pages after pages_some file;
          pages = omega (arith, count, old_known.pages, most);
          free_list = list.0;
          free_count = list.1;
        }

    module _ (h2 : History) (sector : List ℕ) (sector_is : sector ≡ root_bytes next) (extends : ExtendsHistory h1 h2)
        (root_during : LeavesOnly h1 h2 (IsOldOrPut (now h1) (next.generation % 2) sector)) where
      root_moments : LeavesOnly h1 h2 (λ image. StandsFor image before ⊎ StandsFor image after)
      root_moments k2 image left =
          let k1 = extends.kept k2 in
          stands_during (now h1) old next live pages (parts k1) before after (still_kept.opens k1) (still_list k1) (still_kept.holds k1) (still_durable k1)
          (possible k1) number (has k1) image
          (subst (λ (b : List ℕ). IsOldOrPut (now h1) (next.generation % 2) b image) sector_is (root_during k2 image left))

      -- a crash at any moment
      pub all_moments : LeavesOnly h0 h1 (IsImageOutside (now h0) (IsOnPages (numbers_of made)))
          → LeavesOnly h0 h2 (λ image. StandsFor image before ⊎ StandsFor image after)
      all_moments during =
          leaves_further h0 h1 h2 (λ image. StandsFor image before ⊎ StandsFor image after) extends
          (leaves_weaker h0 h1 (λ image. StandsFor image before) (λ image. StandsFor image before ⊎ StandsFor image after) (λ image is. inl is)
          (writing during)) root_moments

      module _ (synced : KeepsWord h2 → AreDurable (now h2)) (reads_put : KeepsWord h2
          → reads (now h2) ≡ put (reads (now h1)) (next.generation % 2) sector) where
        reads_new : KeepsWord h2 → reads (now h2) ≡ put (reads (now h1)) (next.generation % 2) (root_bytes next)
        reads_new k2 = reads_put k2 ∙ ap (λ (b : List ℕ). put (reads (now h1)) (next.generation % 2) b) sector_is

        -- and at the end
        pub now_kept : Keeps h2 next pages after
        now_kept = record {
          opens = λ k2. subst (λ (f : ℕ → List ℕ). OpensAs f next) (sym (reads_new k2))
              (put_opens (reads (now h1)) old next (still_kept.opens (extends.kept k2)) (possible (extends.kept k2)) number);
          holds = λ k2. subst (λ (f : ℕ → List ℕ). HoldsMap (model_at f next) next pages after) (sym (reads_new k2))
              (put_holds (reads (now h1)) old next (still_kept.opens (extends.kept k2)) (possible (extends.kept k2)) number pages after
              (has (extends.kept k2)));
          durable = λ k2 _ _ k _. synced k2 k;
        }
