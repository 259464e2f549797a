-- The pages of the file are counted while a turn runs.
use Rattle.std.proofs.Common.{◌≡◌, ◌≢◌, ℕ, max, false, List, length, refl, sym, ◌∙◌, ap, subst, arith, inr}
use Rattle.std.specs.Prelude.{◌==◌, not, Result, Ok, Err, IfErr, MatchResult}
use Rattle.page.specs.History.{History, KeepsWord, now, reads}
use Rattle.tree_model.proofs.OnceLemmas.{old_trees_stay}
use Rattle.roots.specs.Counting.{AreCounts}
use Rattle.roots.specs.Image.{HasList, HoldsMap, StandsFor, reached_by, model_at, store_of as store_of_image}
use Rattle.roots.specs.Store.{IsCommitted, durable_root}
use Rattle.roots.specs.Walk.{HasCause}
use Rattle.roots.specs.declared.counting.PageCounts.{PageCounts}
use Rattle.roots.specs.declared.opening.OpenFault.{OpenFault}
use Rattle.roots.specs.declared.opening.OpenFault.TheVariants as faults
use Rattle.roots.specs.declared.root.Root.{Root}
use Rattle.roots.proofs.ImageLemmas.{one_list}
use Rattle.roots.proofs.OneMap.{one_map}
use Rattle.pager.specs.Counting.{CountsPages as CountsPager}
use Rattle.pager.specs.State.{State as PagerState}
use Rattle.pager.specs.View.{pager_history, store_of}
use Rattle.pager.proofs.TurnLemmas.{committed_still}
use Rattle.entry_model.specs.State.{Collection}
use Rattle.collections.specs.Counting.{CountsPages, HasCountCause, HasCounts}
use Rattle.collections.specs.Laws.{HasOneCount}
use Rattle.collections.specs.Standing.{IsTurnOf}
use Rattle.collections.specs.State.{State}
use Rattle.collections.specs.View.{disk_history, is_stopped}
use Rattle.collections.proofs.StandingLemmas.{state_stays, tree_same}

module _ {D : Type 0} (history : D → History) (old : State D) (pager : PagerState D) (result : Result PageCounts OpenFault)
    (counts : CountsPager history result old.pager pager) where
  abbrev new : State D
  new = record old { pager = pager }

  kinds_so : (r : Result PageCounts OpenFault) → IfErr r (HasCause (pager_history history old.pager) (pager_history history pager))
      → IfErr r (λ fault. (fault ≢ faults.NotADatabase) × (fault ≢ faults.NewerFormat))
  kinds_so (Ok x) cause = tt
  kinds_so (Err faults.Device) cause = (λ e. cc, λ e. cc)
  kinds_so (Err faults.Memory) cause = (λ e. cc, λ e. cc)
  kinds_so (Err faults.Damaged) cause = (λ e. cc, λ e. cc)
  kinds_so (Err faults.NotADatabase) cause = absurd cause
  kinds_so (Err faults.NewerFormat) cause = absurd cause

  cause_so : KeepsWord (pager_history history pager) → (fault : OpenFault) → HasCause (pager_history history old.pager) (pager_history history pager) fault
      → fault ≢ faults.Damaged → HasCountCause history old new fault
  cause_so k faults.Device cause ne = inr (cause k)
  cause_so k faults.Memory cause ne = tt
  cause_so k faults.Damaged cause ne = ne refl
  cause_so k faults.NotADatabase cause ne = cause
  cause_so k faults.NewerFormat cause ne = cause

  module _ (k : KeepsWord (pager_history history pager)) (start here : List Collection) (t : IsTurnOf history old start here) where
    committed : IsCommitted history old.pager.store t.live t.before
    committed = committed_still history old.pager t.began t.turn.grows.stays (counts.grows.frame k).word t.live t.before t.begun

    abbrev stands : StandsFor (reads (now (disk_history history old))) t.before
    stands = record {
      root = durable_root old.pager.store;
      pages = t.live;
      opens = committed.keeps.opens (counts.grows.frame k).word;
      holds = committed.keeps.holds (counts.grows.frame k).word;
    }

    answer_so : (r : Result PageCounts OpenFault) → IfErr r (HasCause (pager_history history old.pager) (pager_history history pager))
        → MatchResult r (AreCounts (durable_root old.pager.store) (reached_by t.live stands.holds.listed.0)) (λ fault. fault ≢ faults.Damaged)
        → MatchResult r (HasCounts (reads (now (disk_history history old))) start) (HasCountCause history old new)
    answer_so (Ok counted) cause are = record {
      holds = record { entries = t.before; stands = stands; spells = t.spells_start; state = t.start_state };
      are = are;
    }
    answer_so (Err fault) cause ne = cause_so k fault cause ne

  pub counts_so : is_stopped old ≡ false → CountsPages history result old new
  counts_so running = record {
    extends = counts.grows;
    unchanged = ap (λ (tree : ℕ). not (old.root == tree)) (tree_same history old.pager pager counts.grows.stays);
    same = λ start here. state_stays history old new start here counts.grows refl (λ k. (counts.same k).made) (λ k. (counts.same k).retired);
    stays = λ k entries has. record {
      pages = has.pages;
      map = old_trees_stay (store_of history old.pager) (store_of history pager) old.root has.pages entries (counts.grows.frame k) has.map;
    };
    kinds = kinds_so result counts.cause;
    stands = counts.stands;
    answers = λ k start here has.
        let t : IsTurnOf history old start here = has running (counts.grows.frame k).word in
        let listed = (stands k start here t).holds.listed in
        answer_so k start here t result counts.cause (counts.counts k t.began t.live t.before t.begun t.turn.grows listed.0 listed.1);
  }

-- an image has one root, and that one tree and one list
pub has_one_count : HasOneCount
has_one_count image a b counts others one two =
    let file : StandsFor image one.holds.entries = one.holds.stands in
    let other : StandsFor image two.holds.entries = two.holds.stands in
    let both : Ok other.root ≡ Ok file.root = sym other.opens ∙ file.opens in
    let same : other.root ≡ file.root = cc in
    let holds : HoldsMap (model_at image file.root) file.root other.pages two.holds.entries =
    subst (λ (r : Root). HoldsMap (model_at image r) r other.pages two.holds.entries) same other.holds in
    let live : file.pages ≡ other.pages =
    (one_map (store_of_image (model_at image file.root)) file.root.tree file.pages other.pages one.holds.entries two.holds.entries
    file.holds.map holds.map).pages_are in
    let listed : file.holds.listed.0 ≡ other.holds.listed.0 =
    one_list (model_at image file.root) file.root file.pages other.pages file.holds.listed.0 other.holds.listed.0 file.holds.listed.1
    (subst (λ (r : Root). HasList (model_at image r) r other.pages other.holds.listed.0) same other.holds.listed.1) in
    let reached : length (reached_by file.pages file.holds.listed.0) ≡ length (reached_by other.pages other.holds.listed.0) =
    (λ i. length (reached_by (live i) (listed i))) in
    let pages : counts.pages ≡ others.pages = one.are.pages ∙ ap (λ (r : Root). max r.pages 1) (sym same) ∙ sym two.are.pages in
    let free : counts.free ≡ others.free = omega (arith, one.are.all, two.are.all, pages, reached) in
    (λ i. record { pages = pages i; free = free i })
