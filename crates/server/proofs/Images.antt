-- What images hold, and which states stand among which.
use Rattle.std.proofs.Common.{⊎_elim, inr, ap, ◌∙◌, ◌≡◌, ◌<◌, inl, ℕ, List, [], ◌∷◌, Bool, true, false, refl, sym, subst, arith}
use Rattle.std.specs.Prelude.{◌⊎◌}
use Rattle.page.specs.History.{History, KeepsWord}
use Rattle.page.specs.Crash.{ExtendsHistory, LeavesOnly, CrashLeaves}
use Rattle.trusted_disk.specs.Trusting.{trusted_history}
use Rattle.page.proofs.Moments.{goes_nowhere, goes_further, started, leaves_further, leaves_weaker, reads_moments}
use Rattle.collections.specs.View as views
use Rattle.collections.proofs.LawLemmas.{leaves_start}
use Rattle.database_model.specs.World.{World, after_commit, forget}
use Rattle.entry_model.specs.State.{Collection}
use Rattle.op_msg.specs.declared.fault.FrameFault.{FrameFault}
use Rattle.server.specs.Turn.{forget_all}
use Rattle.opening.specs.Holding.{HoldsCollections}
use Rattle.engine.specs.Continuing.{Continues}
use Rattle.engine.specs.Durable as engines
use Rattle.engine.specs.View.{world, turn_start}
use Rattle.engine.specs.declared.engine.Engine.{Engine}
use Rattle.server.specs.Durable.{disk_history, IsRunning, file_of, IsSound, collections_of, engine_moment, moment_of, GoesSafely}
use Rattle.server.specs.declared.turn.Core.{Core}

-- an engine that runs leaves the collections as they were at the beginning of the turn
pub start_held : {D : Type 0} (history : D → History) (engine : Engine D) → engines.IsSound history engine → engines.IsRunning engine
    → CrashLeaves (engines.disk_history history engine) (λ image. HoldsCollections image (turn_start engine))
start_held history engine sound running k image is = record {
  lawful = sound.before;
  file = leaves_start history (engines.file_of engine) (turn_start engine) (world engine).collections running sound.file k image is;
}

-- between turns every image holds the collections as they are
pub engine_holds : {D : Type 0} (history : D → History) (engine : Engine D) → engines.IsSound history engine → turn_start engine ≡ (world engine).collections
    → engines.IsRunning engine → CrashLeaves (engines.disk_history history engine) (λ image. HoldsCollections image (world engine).collections)
engine_holds history engine sound idle running =
    subst (λ (cs : List Collection). CrashLeaves (engines.disk_history history engine) (λ image. HoldsCollections image cs)) idle
    (start_held history engine sound running)

pub holds_now : {D : Type 0} (history : D → History) (core : Core D) → IsSound history core → IsRunning core
    → CrashLeaves (disk_history history core) (λ image. HoldsCollections image (collections_of core))
holds_now history core sound running = engine_holds (trusted_history history) core.engine sound.engine sound.idle running

-- as long as the disk stays as it is
pub stays : {D : Type 0} (history : D → History) (old new : Engine D) (Q : (ℕ → List ℕ) → Type 0) → engines.IsSound history old
    → turn_start old ≡ (world old).collections → engines.disk_history history new ≡ engines.disk_history history old → engines.IsRunning old
    → LeavesOnly (engines.disk_history history old) (engines.disk_history history new) (λ image. HoldsCollections image (world old).collections ⊎ Q image)
stays history old new Q sound idle same running =
    subst (λ (h : History). LeavesOnly (engines.disk_history history old) h (λ image. HoldsCollections image (world old).collections ⊎ Q image)) (sym same)
    (started (engines.disk_history history old) (λ image. HoldsCollections image (world old).collections ⊎ Q image)
    (λ k image is. inl (engine_holds history old sound idle running k image is)))

abbrev Either : {D : Type 0} → Engine D → Engine D → (ℕ → List ℕ) → Type 0
Either old new image = HoldsCollections image (world old).collections ⊎ HoldsCollections image (world new).collections

-- the messages of a turn, which only read the disk, and then its end
module _ {D : Type 0} (history : D → History) (old mid new : Engine D) (sound : engines.IsSound history old) (running : engines.IsRunning old)
    (idle : turn_start old ≡ (world old).collections)
    (continues : Continues history old mid) where
  while_read : LeavesOnly (engines.disk_history history old) (engines.disk_history history mid) (Either old new)
  while_read k image left =
      inl (engine_holds history old sound idle running (continues.reads.extends.kept k) image
      (reads_moments (engines.disk_history history old) (engines.disk_history history mid) continues.reads k image left))

  -- a turn that is undone without the disk
  pub unwritten : engines.disk_history history new ≡ engines.disk_history history mid
      → LeavesOnly (engines.disk_history history old) (engines.disk_history history new) (Either old new)
  unwritten same = subst (λ (h : History). LeavesOnly (engines.disk_history history old) h (Either old new)) (sym same) while_read

  pub unwritten_on : engines.disk_history history new ≡ engines.disk_history history mid
      → ExtendsHistory (engines.disk_history history old) (engines.disk_history history new)
  unwritten_on same = subst (λ (h : History). ExtendsHistory (engines.disk_history history old) h) (sym same) continues.reads.extends

  module _ (extends : ExtendsHistory (engines.disk_history history mid) (engines.disk_history history new)) where
    pub then_on : ExtendsHistory (engines.disk_history history old) (engines.disk_history history new)
    then_on = goes_further (engines.disk_history history old) (engines.disk_history history mid) (engines.disk_history history new) continues.reads.extends
        extends

    further : LeavesOnly (engines.disk_history history mid) (engines.disk_history history new) (Either old new)
        → LeavesOnly (engines.disk_history history old) (engines.disk_history history new) (Either old new)
    further = leaves_further (engines.disk_history history old) (engines.disk_history history mid) (engines.disk_history history new)
        (Either old new) extends while_read

    -- a turn that is committed, or that the device cut
    pub moved : turn_start mid ≡ turn_start old → world new ≡ after_commit (world mid)
        → LeavesOnly (engines.disk_history history mid) (engines.disk_history history new)
        (λ image. HoldsCollections image (turn_start mid) ⊎ HoldsCollections image (world mid).collections)
        → LeavesOnly (engines.disk_history history old) (engines.disk_history history new) (Either old new)
    moved before after leaves = further
        (leaves_weaker (engines.disk_history history mid) (engines.disk_history history new)
        (λ image. HoldsCollections image (turn_start mid) ⊎ HoldsCollections image (world mid).collections) (Either old new)
        (λ image. ⊎_elim
        (λ holds. inl (subst (λ (cs : List Collection). HoldsCollections image cs) (before ∙ idle) holds))
        (λ holds. inr (subst (λ (w : World). HoldsCollections image w.collections) (sym after) holds)))
        leaves)

    -- a turn that is undone by its commit
    pub moved_back : turn_start mid ≡ turn_start old
        → LeavesOnly (engines.disk_history history mid) (engines.disk_history history new) (λ image. HoldsCollections image (turn_start mid))
        → LeavesOnly (engines.disk_history history old) (engines.disk_history history new) (Either old new)
    moved_back before leaves = further
        (leaves_weaker (engines.disk_history history mid) (engines.disk_history history new) (λ image. HoldsCollections image (turn_start mid)) (Either old new)
        (λ image holds. inl (subst (λ (cs : List Collection). HoldsCollections image cs) (before ∙ idle) holds))
        leaves)

    -- the device failed in the commit
    pub failed_further : KeepsWord (engines.disk_history history new) → engines.is_stopped mid ≡ engines.is_stopped old
        → (engines.is_stopped mid ≡ true) ⊎ ((engines.disk_history history mid).failed_writes < (engines.disk_history history new).failed_writes)
        → (engines.disk_history history old).failed_writes < (engines.disk_history history new).failed_writes
    failed_further k same (inl stopped) = absurd (both_ways (engines.is_stopped mid) stopped (same ∙ running))
      where
        both_ways : (b : Bool) → b ≡ true → b ≡ false → ⊥
        both_ways b t f = absurd cc
    failed_further k same (inr failed) = omega (arith, continues.reads.extends.failed_writes (extends.kept k), failed)

-- a disk that stays as it is goes on
pub on_same : (old new : History) → new ≡ old → ExtendsHistory old new
on_same old new same = subst (λ (h : History). ExtendsHistory old h) (sym same) (goes_nowhere old)

pub forget_all_state : (w : World) (closed : List (ℕ × FrameFault)) → (forget_all w closed).collections ≡ w.collections
forget_all_state w [] = refl
forget_all_state w (f ∷ fs) = forget_all_state (forget w f.0) fs

-- the cursors of closed connections end
pub forgotten : {D : Type 0} (history : D → History) (old mid new : Engine D) (closed : List (ℕ × FrameFault))
    → engines.disk_history history new ≡ engines.disk_history history mid → world new ≡ forget_all (world mid) closed
    → LeavesOnly (engines.disk_history history old) (engines.disk_history history mid)
    (λ image. HoldsCollections image (world old).collections ⊎ HoldsCollections image (world mid).collections)
    → LeavesOnly (engines.disk_history history old) (engines.disk_history history new)
    (λ image. HoldsCollections image (world old).collections ⊎ HoldsCollections image (world new).collections)
forgotten history old mid new closed same is leaves =
    let collections : (world new).collections ≡ (world mid).collections = ap (λ (w : World). w.collections) is ∙ forget_all_state (world mid) closed in
    subst (λ (h : History). LeavesOnly (engines.disk_history history old) h
    (λ image. HoldsCollections image (world old).collections ⊎ HoldsCollections image (world new).collections)) (sym same)
    (subst (λ (x : List Collection). LeavesOnly (engines.disk_history history old) (engines.disk_history history mid)
    (λ image. HoldsCollections image (world old).collections ⊎ HoldsCollections image x)) (sym collections) leaves)

pub unmoved : {D : Type 0} (history : D → History) (old new : Core D) → IsSound history old → disk_history history new ≡ disk_history history old
    → GoesSafely history old new
unmoved history old new sound same = record {
  extends = subst (λ (h : History). ExtendsHistory (disk_history history old) h) (sym same) (goes_nowhere (disk_history history old));
  any_moment = stays (trusted_history history) old.engine new.engine (λ image. HoldsCollections image (collections_of new)) sound.engine sound.idle same;
  idle = λ _. same;
}

-- a call that leaves the disk and the counts as they are takes no time
pub still_moment : {D : Type 0} (history : D → History) (old new : Engine D) → engines.disk_history history new ≡ engines.disk_history history old
    → engines.generation new ≡ engines.generation old → engines.failed_allocations_of history new ≡ engines.failed_allocations_of history old
    → engine_moment history new ≡ engine_moment history old
still_moment history old new disk generation takes = λ i. record {
  keeps_word = (disk i).keeps_word;
  clock = (disk i).clock;
  failures = (disk i).failures;
  generation = generation i;
  failed_allocations = takes i;
}

-- so does one that leaves the file as it is
pub same_moment : {D : Type 0} (history : D → History) (old new : Core D) → file_of new ≡ file_of old → moment_of history new ≡ moment_of history old
same_moment history old new file =
    still_moment (trusted_history history) old.engine new.engine (λ i. views.disk_history (trusted_history history) (file i))
    (λ i. views.generation (file i)) (λ i. (views.pages_of (trusted_history history) (file i)).failed_allocations)
