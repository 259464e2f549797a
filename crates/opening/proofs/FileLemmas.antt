-- A file is opened: it has what the bytes of its disk hold.
use Rattle.std.proofs.Common.{◌≡◌, Bool, ℕ, List, refl, sym, subst}
use Rattle.std.specs.Prelude.{IsTrue}
use Rattle.page.specs.History.{History, KeepsWord, now, reads}
use Rattle.roots.specs.declared.opening.OpenFault.{OpenFault}
use Rattle.entry_model.specs.State.{Collection}
use Rattle.trusted_disk.specs.Trusting.{trusting}
use Rattle.trusted_disk.specs.declared.disk.TrustedDisk.{TrustedDisk}
use Rattle.trusted_disk.proofs.TrustingLemmas.{tells_word}
use Rattle.collections.specs.Holding as collections
use Rattle.collections.specs.Opening as files
use Rattle.collections.specs.State.{State}
use Rattle.collections.specs.Trusting.{trusting_state}
use Rattle.collections.specs.View.{disk_history}
use Rattle.collections.proofs.TrustLemmas.{trusting_keeps_state}
use Rattle.file_state.specs.HoldingTests.{holds_some}
use Rattle.file_state.specs.Laws.{AreStored}
use Rattle.file_state.specs.StoredTests.{stored_in}
use Rattle.file_state.proofs.HoldingTested.{some_tested, stored_is_held}
use Rattle.file_state.proofs.StoredTested.{gives_stored, stored_is_lawful}
use Rattle.opening.specs.FileOpening.{IsFileOpened}
use Rattle.opening.specs.TurnStates.{TurnStates}
use Rattle.opening.specs.Refusing.{IsFileRefused}
use Rattle.opening.proofs.HoldLemmas.{held_stored, stored_held}
use Rattle.opening.proofs.TakingLemmas.{loaded_lawful}

module _ {D : Type 0} (history : D → History) (disk : D) (c : State D) (opened : files.AreCollectionsOpened history disk c) where
  abbrev image : ℕ → List ℕ
  image = reads (now (history disk))

  abbrev held : List Collection
  held = stored_in image

  abbrev trusted : Bool
  trusted = holds_some image

  stored : AreStored held
  stored = (stored_is_lawful image).1

  inner_word : KeepsWord (trusting trusted (disk_history history c)) → KeepsWord (disk_history history c) × IsTrue trusted
  inner_word k = (tells_word trusted (disk_history history c)).0 k

  there : IsTrue trusted → collections.HoldsState image held
  there is = stored_is_held image is

  opened_with : IsFileOpened history disk (record { start = held; now = held }) (trusting_state trusted c)
  opened_with = record {
    lawful = loaded_lawful held (record { lawful = (stored_is_lawful image).0; stored = stored });
    idle = refl;
    running = opened.running;
    clean = opened.clean;
    pins = opened.pins;
    no_failed_allocations = opened.no_failed_allocations;
    no_failed_reads = λ k. opened.no_failed_reads (inner_word k).0;
    extends = opened.extends;
    trusted = λ cs h.
        ((some_tested image).1 (cs, h.file, held_stored image cs h), gives_stored image cs h.file (held_stored image cs h));
    file = trusting_keeps_state history trusted c held held (λ is. opened.begun held (λ _. there is));
    holds = λ k. stored_held image held (there (inner_word k).1) stored;
    alone = λ k left is.
        stored_held left held (opened.alone held (there (inner_word k).1) (inner_word k).0 left is) stored;
    any_moment = opened.any_moment;
  }

  -- by whatever image is the disk's
  pub file_opened : (same : ℕ → List ℕ) (kept : State (TrustedDisk D)) (known : TurnStates) → kept ≡ trusting_state (holds_some same) c
      → known ≡ record { start = stored_in same; now = stored_in same } → same ≡ image → IsFileOpened history disk known kept
  file_opened same kept known is are one =
      let kept_is : kept ≡ trusting_state trusted c = subst (λ (i : ℕ → List ℕ). kept ≡ trusting_state (holds_some i) c) one is in
      let known_is : known ≡ record { start = held; now = held } =
      subst (λ (i : ℕ → List ℕ). known ≡ record { start = stored_in i; now = stored_in i }) one are in
      subst (λ (s : State (TrustedDisk D)). IsFileOpened history disk known s) (sym kept_is)
      (subst (λ (k : TurnStates). IsFileOpened history disk k (trusting_state trusted c)) (sym known_is) opened_with)

pub open_refused : {D : Type 0} (history : D → History) (disk back : D) (fault : OpenFault) → files.AreCollectionsRefused history disk back fault
    → IsFileRefused history disk back fault
open_refused history disk back fault refused = record {
  extends = refused.extends;
  any_moment = refused.any_moment;
  damaged = λ no_device no_memory k cs h. refused.damaged no_device no_memory k cs h.file;
  foreign = refused.foreign;
  later = refused.later;
  device = refused.device;
  memory = refused.memory;
}
