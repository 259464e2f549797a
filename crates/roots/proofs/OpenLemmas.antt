-- What opening leaves: a disk that was read and synced.
use Rattle.std.proofs.Common.{◌≡◌, ℕ, List, Bool, false, refl, sym, ◌∙◌, ap, subst}
use Rattle.page.specs.History.{History, KeepsWord, now, reads, IsImage, Syncs, Ticks}
use Rattle.page.specs.Crash.{AreDurable, CrashLeaves, ReadsOnly}
use Rattle.page.proofs.Moments.{goes_further, goes_one, leaves_call, reads_moments, then_syncs}
use Rattle.page.proofs.TwoFacts.{all_durable, reads_synced}
use Rattle.roots.specs.declared.root.Root.{Root}
use Rattle.roots.specs.Root.{IsKnown}
use Rattle.roots.specs.Image.{HoldsMap, OpensAs, StandsFor, model_at}
use Rattle.roots.specs.Opening.{IsStoreOpened}

pub opened : {D : Type 0} {writes : Bool} (history : D → History) (before disk : D) (root : Root) (h1 : History) (ok : Bool) → ReadsOnly (history before) h1
    → (KeepsWord h1 → OpensAs (reads (now (history before))) root) → Ticks writes h1 (history disk) ok
    → (KeepsWord (history disk) → (k : ℕ) → Syncs (now h1 k) (now (history disk) k)) → IsKnown root
    → (KeepsWord (history disk) → (history disk).failures ≡ (history before).failures)
    → IsStoreOpened history before (record { disk = disk; root = root; stopped = false; failed_reads = 0 })
opened history before disk root h1 ok only opens tick syncs known clear =
    let h0 = history before in
    let h2 = history disk in
    let all : KeepsWord h2 → AreDurable (now h2) = λ k. all_durable (now h1) (now h2) (syncs k) in
    let same : KeepsWord h2 → reads (now h2) ≡ reads (now h0) = λ k. reads_synced (now h1) (now h2) (syncs k) ∙ ap reads (only.same (tick.kept k)) in
    let synced : CrashLeaves h2 (λ image. image ≡ reads (now h0)) = λ k image is. (λ i j. all k j (image j) (is j) i) ∙ same k in
    record {
      running = refl;
      uncounted = refl;
      known = known;
      clear = clear;
      extends = goes_further h0 h1 h2 only.extends (goes_one h1 h2 ok tick);
      only = then_syncs h0 h1 h2 ok only tick syncs;
      opens = λ k. opens (tick.kept k);
      synced = synced;
      committed = λ live entries holds. record {
        running = refl;
        keeps = record {
          opens = λ k. subst (λ (f : ℕ → List ℕ). OpensAs f root) (sym (same k)) (opens (tick.kept k));
          holds = λ k. subst (λ (f : ℕ → List ℕ). HoldsMap (model_at f root) root live entries) (sym (same k)) (holds k);
          durable = λ k _ _ j _. all k j;
        };
      };
      alone = λ entries stands k image is. subst (λ (f : ℕ → List ℕ). StandsFor f entries) (sym (synced k image is)) stands;
      any_moment =
          λ readable. leaves_call h0 h1 h2 ok (IsImage (now h0)) tick (reads_moments h0 h1 only)
          (λ k image is. subst (IsImage (now h0)) (sym (synced k image is)) readable);
    }
