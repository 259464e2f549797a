-- A first batch is given of documents that were read.
use Rattle.std.proofs.Common.{◌≡◌, ◌≢◌, ◌≤◌, inl, ℕ, List, Result, Ok, Err, length, refl, sym, ap, subst, ◌∙◌}
use Rattle.std.specs.Prelude.{All}
use Rattle.bson.specs.Tree.{Pairs}
use Rattle.page.specs.History.{History, KeepsWord}
use Rattle.path.specs.declared.refusal.Refusal.{Refusal}
use Rattle.path.specs.declared.refusal.Refusal.TheVariants as refusals
use Rattle.database_model.specs.Cursors.{batch_of, first_batch}
use Rattle.engine.specs.Durable.{disk_history}
use Rattle.database_model.specs.Lawful.{IsLawful, IsWithin}
use Rattle.engine.specs.Looking.{OnlyReads}
use Rattle.engine.specs.Performing.{RunsReadingCommand}
use Rattle.replies.specs.View.{with_ok, Runs}
use Rattle.engine.specs.View.{world}
use Rattle.database_model.specs.World.{World}
use Rattle.engine.specs.declared.engine.Engine.{Engine}
use Rattle.pinned_cursors.specs.Turns.{Releases}
use Rattle.engine.proofs.LawfulSteps.{good_batch}
use Rattle.engine.proofs.LookingLemmas.{performs_behind, performs_memory, performs_read, world_same}
use Rattle.engine.proofs.Sound.{lawful_world, performs_in_memory}

module _ (w new : World) (connection : ℕ) (name : List ℕ) (ds : List Pairs) (most : ℕ) where
  -- what it makes of a lawful world is lawful
  pub batch_lawful : (r : Result Pairs Refusal) → IsLawful w → length name ≤ 255 → All IsWithin ds
      → Runs w (first_batch w connection name ds (batch_of most ds)) new r → IsLawful new
  batch_lawful (Err e) h short within runs = subst IsLawful (sym runs.0) h
  batch_lawful (Ok reply) h short within runs =
      at (first_batch w connection name ds (batch_of most ds)) (λ x is. (good_batch w connection name ds most h short within x is).0) runs
    where
      world_in : Result (World × Pairs) Refusal → World
      world_in (Ok x) = x.0
      world_in (Err e) = w

      at : (planned : Result (World × Pairs) Refusal) → ((x : World × Pairs) → planned ≡ Ok x → IsLawful x.0) → with_ok planned ≡ Ok (new, reply) → IsLawful new
      at (Err e) good same = absurd cc
      at (Ok x) good same = let there : x.0 ≡ new = ap world_in same in subst IsLawful there (good x refl)

-- Read first, and then given: it was planned of what was read.
module _ {D : Type 0} (history : D → History) (old mid new : Engine D) (reads : OnlyReads history old mid)
    (file : Releases mid.is_changed history mid.file new.file mid.cursors new.cursors) (told : new.told.value ≡ mid.told.value)
    (changes : new.is_changed ≡ mid.is_changed) where
  pub gives_behind : (connection : ℕ) (name : List ℕ) (ds : List Pairs) (most : ℕ) (planned : Result (World × Pairs) Refusal) (r : Result Pairs Refusal)
      → length name ≤ 255 → All IsWithin ds
      → Runs (world mid) (first_batch (world mid) connection name ds (batch_of most ds)) (world new) r
      → (KeepsWord (disk_history history mid) → first_batch (world old) connection name ds (batch_of most ds) ≡ planned)
      → RunsReadingCommand history planned r old new
  gives_behind connection name ds most planned r short within runs same =
      let there : Result (World × Pairs) Refusal = first_batch (world mid) connection name ds (batch_of most ds) in
      let lawful : IsLawful (world new) =
      batch_lawful (world mid) (world new) connection name ds most r (lawful_world history mid reads.sound) short within runs in
      performs_behind history old mid new reads there planned r
      (performs_in_memory history mid new there r reads.sound file told changes lawful runs)
      (λ k. ap (λ (w : World). first_batch w connection name ds (batch_of most ds)) (world_same history old mid reads)
      ∙ same (subst KeepsWord file.pins.untouched.disk k))

-- What was read was refused as planned, or memory ran out.
pub refuses_planned : {D : Type 0} (history : D → History) (old new : Engine D) (planned : Result (World × Pairs) Refusal) (e : Refusal)
    → OnlyReads history old new → (KeepsWord (disk_history history new) → e ≢ refusals.OutOfMemory → planned ≡ Err e)
    → RunsReadingCommand history planned (Err e) old new
refuses_planned history old new planned refusals.OutOfMemory reads is = performs_memory history old new planned refusals.OutOfMemory refl reads
refuses_planned history old new planned e reads is =
    performs_read history old new planned (Err e) reads (λ k. (world_same history old new reads, inl (is k (λ h. absurd cc))))
