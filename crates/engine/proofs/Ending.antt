-- How a turn ends: what it changed is durable, or not.
use Rattle.std.proofs.Common.{◌≡◌, ◌≢◌, ◌⊎◌, inl, inr, arith, ℕ, true, false, List, map, Result, Ok, Err, refl, sym, ap, subst, ◌∙◌, ◌+◌, ◌-◌, ◌≤◌, ◌^◌}
use Rattle.std.specs.Prelude.{not, All, Bool, if◌then◌else◌}
use Rattle.page.specs.History.{History, KeepsWord}
use Rattle.page.specs.Crash.{ExtendsHistory, LeavesOnly, CrashLeaves}
use Rattle.page.proofs.Moments.{goes_nowhere, started}
use Rattle.tree_model.specs.Store.{HasNoPage, Store}
use Rattle.roots.specs.declared.store.CommitFault.{CommitFault}
use Rattle.roots.specs.declared.store.CommitFault.TheVariants as faults
use Rattle.collections.specs.Committing as files
use Rattle.collections.specs.Holding as images
use Rattle.collections.specs.Marks.{IsUntouched, Undoes}
use Rattle.collections.specs.Standing.{HasState}
use Rattle.collections.specs.State.{State}
use Rattle.collections.specs.View as views
use Rattle.collections.proofs.LawLemmas as laws
use Rattle.cursors.specs.Changes.{all_at_rest, rested}
use Rattle.cursors.specs.Held.{Held, cursors_of, table_of}
use Rattle.pinned_cursors.specs.Tied.{AreTied}
use Rattle.pinned_cursors.specs.Turns.{OnlyPins}
use Rattle.pinned_cursors.proofs.TurnTied.{tied_rested}
use Rattle.database_model.specs.World.{World, Cursor, CursorTable, at_rest, are_untouched, after_commit, after_undo}
use Rattle.entry_model.specs.State.{Collection}
use Rattle.engine.proofs.ResultLemmas.{fault_of, not_both}
use Rattle.engine.proofs.UntouchedCursors.{rested_untouched, untouched_untouched}
use Rattle.std.proofs.lemmas.List.Elements.{All-filter, All-map}
use Rattle.database_model.specs.Lawful.{IsWithin, IsLawfulState, AreLawfulCursors}
use Rattle.engine.specs.View.{world_of, world, turn_start}
use Rattle.engine.specs.Durable.{disk_history, failed_allocations_of, generation, has_changes, is_stopped, IsRunning, IsSound}
use Rattle.opening.specs.Holding.{HoldsCollections}
use Rattle.engine.specs.Committing.{CommitsTurn, FoundNoPage}
use Rattle.engine.specs.declared.engine.Engine.{Engine}

-- the end of a turn changes no cursor's documents
rested_lawful : (cs : List Cursor) → AreLawfulCursors cs → AreLawfulCursors (map at_rest cs)
rested_lawful cs h = All-map (λ (c : Cursor). All IsWithin c.rest) at_rest cs h

no_page_then : (a b c : Store) → HasNoPage a b → c.failed_allocations ≡ b.failed_allocations → HasNoPage a c
no_page_then a b c (inl more) same = inl (omega (arith, more, same))
no_page_then a b c (inr most) same = inr (same ∙ most)

-- Pins went, and then the turn was taken back.
pub undone_of_pins : {D : Type 0} (history : D → History) (a b c : State D) → OnlyPins history a b → Undoes history b c → Undoes history a c
undone_of_pins history a b c pins undoes = record {
  untouched = record {
    disk = undoes.untouched.disk ∙ pins.untouched.disk;
    stopped = undoes.untouched.stopped ∙ pins.untouched.stopped;
    version = undoes.untouched.version ∙ pins.untouched.version;
    reads = undoes.untouched.reads ∙ pins.untouched.reads;
  };
  takes = undoes.takes ∙ pins.takes;
  clean = undoes.clean;
  state = λ start now has. undoes.state start now (pins.state start now has);
}

abbrev failed : CommitFault → Result (Unit {0}) CommitFault
failed fault = Err fault

module _ {D : Type 0} (history : D → History) (old new : Engine D) (h : IsSound history old) where
  -- until the commit a crash leaves the collections from the beginning of the turn
  pub holds_start : IsRunning old → CrashLeaves (disk_history history old) (λ image. HoldsCollections image (turn_start old))
  holds_start run k image is = record
      { lawful = h.before; file = laws.leaves_start history old.file (turn_start old) (world old).collections run h.file k image is }

  -- the number of the commit, where the turn is done
  counted : {b : Bool} → has_changes old ≡ b
      → (if has_changes old then generation old + 1 else generation old) ≡ (if b then generation old + 1 else generation old)
  counted e = ap (λ (b : Bool). if b then generation old + 1 else generation old) e

  -- nothing was changed but cursors
  module _ (cursors : Held) where
    abbrev quiet_engine : Engine D
    quiet_engine = record { alloc = old.alloc; cursors = cursors; file = old.file; told = old.told; is_changed = old.is_changed }

    pub kept_as_it_is : cursors ≡ all_at_rest old.cursors
        → table_of cursors ≡ record (table_of old.cursors) { list = map at_rest (cursors_of old.cursors) } → turn_start old ≡ (world old).collections
        → has_changes old ≡ false → CommitsTurn history (Ok tt) old quiet_engine
    kept_as_it_is held made idle clean = record {
      sound = record {
        lawful = h.lawful;
        cursors = subst (λ (t : CursorTable). AreLawfulCursors t.list) (sym made) (rested_lawful (cursors_of old.cursors) h.cursors);
        before = h.before;
        quiet = h.quiet;
        file = h.file;
        unchanged = h.unchanged;
        tied = subst (λ (hs : Held). AreTied old.is_changed history old.file hs.list) (sym held)
            (subst (λ (b : Bool). AreTied b history old.file (map rested old.cursors.list)) (sym clean)
            (tied_rested history old.file old.cursors.list
            (subst (λ (b : Bool). AreTied b history old.file old.cursors.list) clean h.tied)));
      };
      extends = goes_nowhere (disk_history history old);
      done = ap (world_of old.told.value) made;
      stops = λ e. absurd cc;
      memory = λ e. absurd cc;
      clear = λ e. absurd cc;
      full = λ e. absurd cc;
      version = sym (counted clean);
      ended = idle;
      takes = omega arith;
      found = λ e. refl;
      running = λ e. refl;
      any_moment =
          λ run. started (disk_history history old) (λ image. HoldsCollections image (turn_start old) ⊎ HoldsCollections image (world old).collections)
          (λ k image left. inl (holds_start run k image left));
      kept = λ run e. tt;
      acknowledged = λ run. subst (λ (cs : List Collection). CrashLeaves (disk_history history old) (λ image. HoldsCollections image cs)) idle
          (holds_start run);
      listed = λ run changed. not_both (has_changes old) changed clean;
      device = λ e k. absurd cc;
      idle = λ e. refl;
      quiet = λ e. (refl, refl);
      clean = clean;
      rested = subst (λ (t : CursorTable). are_untouched t.list ≡ true) (sym made) (rested_untouched (cursors_of old.cursors));
    }

  pub tied_at_rest : (mid : State D) → AreTied false history mid (map rested old.cursors.list) → new.file ≡ mid → new.cursors ≡ all_at_rest old.cursors
      → AreTied false history new.file new.cursors.list
  tied_at_rest mid tied file cursors =
      subst (λ (f : State D). AreTied false history f new.cursors.list) (sym file)
      (subst (λ (held : Held). AreTied false history mid held.list) (sym cursors) tied)

  -- What was committed, or cut off, or taken back, has changed nothing any more.
  at_rest_again : has_changes new ≡ false → AreTied false history new.file new.cursors.list → AreTied (has_changes new) history new.file new.cursors.list
  at_rest_again clean = subst (λ (b : Bool). AreTied b history new.file new.cursors.list) (sym clean)

  -- the file runs where it found no room
  pub ran_before : (mid : State D) → files.FindsNoRoom history old.file mid → views.is_stopped mid ≡ false → views.is_stopped old.file ≡ false
  ran_before mid (inl (most, same)) running = ap views.is_stopped (sym same) ∙ running
  ran_before mid (inr found) running = sym found.untouched.stopped ∙ running

  -- the file where a commit found no room, and then where the turn was taken back
  module _ (mid : State D) (undoes : Undoes history mid new.file) where
    pub untouched_since : files.FindsNoRoom history old.file mid → IsUntouched history old.file new.file
    untouched_since (inl (most, same)) = subst (λ (f : State D). IsUntouched history f new.file) same undoes.untouched
    untouched_since (inr found) = record {
      disk = undoes.untouched.disk ∙ found.untouched.disk;
      stopped = undoes.untouched.stopped ∙ found.untouched.stopped;
      version = undoes.untouched.version ∙ found.untouched.version;
      reads = undoes.untouched.reads ∙ found.untouched.reads;
    }

    pub state_since : files.FindsNoRoom history old.file mid → (start now : List Collection) → HasState history old.file start now
        → HasState history new.file start start
    state_since (inl (most, same)) start now has = undoes.state start now (subst (λ (f : State D). HasState history f start now) (sym same) has)
    state_since (inr found) start now has = undoes.state start now (found.state start now has)

    pub room_cause : files.FindsNoRoom history old.file mid → (generation old ≡ 2 ^ 64 - 1) ⊎ FoundNoPage history old new
    room_cause (inl (most, same)) = inl most
    room_cause (inr found) =
        inr (no_page_then (views.pages_of history old.file) (views.pages_of history mid) (views.pages_of history new.file) found.counted undoes.takes)

  -- the collections are as they were at the beginning of the turn
  module _ (clean : has_changes new ≡ false) (back : world new ≡ after_undo (turn_start old) (world old)) (ended : turn_start new ≡ (world new).collections)
      (untouched : IsUntouched history old.file new.file)
      (state : (start now : List Collection) → HasState history old.file start now → HasState history new.file start start)
      (unchanged : views.is_changed new.file ≡ false) (tied : AreTied false history new.file new.cursors.list) where
    now_state : (world new).collections ≡ turn_start old
    now_state = ap (λ (w : World). w.collections) back

    first_state : turn_start new ≡ turn_start old
    first_state = ended ∙ now_state

    pub sound_again : IsSound history new
    sound_again = record {
      lawful = subst IsLawfulState (sym now_state) h.before;
      cursors = subst (λ (w : World). AreLawfulCursors w.cursors) (sym back)
          (All-filter (λ (c : Cursor). not c.touched) (λ (c : Cursor). All IsWithin c.rest) (world old).cursors h.cursors);
      before = subst IsLawfulState (sym first_state) h.before;
      quiet = λ e. ended;
      file = subst (λ (cs : List Collection). HasState history new.file cs (world new).collections) (sym first_state)
          (subst (HasState history new.file (turn_start old)) (sym now_state) (state (turn_start old) (world old).collections h.file));
      unchanged = λ running e. unchanged;
      tied = at_rest_again clean tied;
    }

    pub rested_again : are_untouched (world new).cursors ≡ true
    rested_again = ap (λ (w : World). are_untouched w.cursors) back ∙ untouched_untouched (world old).cursors

    abbrev disk_same : disk_history history new ≡ disk_history history old
    disk_same = untouched.disk

    pub undone_after : has_changes old ≡ true → (fault : CommitFault) → fault ≢ faults.Device
        → (fault ≡ faults.Full → (generation old ≡ 2 ^ 64 - 1) ⊎ FoundNoPage history old new)
        → failed_allocations_of history old ≤ failed_allocations_of history new
        → (fault ≢ faults.Full → failed_allocations_of history new ≡ failed_allocations_of history old)
        → CommitsTurn history (Err fault) old new
    undone_after moved fault other cause takes found =
        let not_device : (let r : Result (Unit {0}) CommitFault = Err fault in r) ≢ Err faults.Device = λ e. other (ap fault_of e) in
        let before : IsRunning old → LeavesOnly (disk_history history old) (disk_history history new) (λ image. HoldsCollections image (turn_start old)) =
        λ run. subst (λ (d : History). LeavesOnly (disk_history history old) d (λ image. HoldsCollections image (turn_start old))) (sym disk_same)
        (started (disk_history history old) (λ image. HoldsCollections image (turn_start old)) (holds_start run)) in
        record {
          sound = sound_again;
          extends = subst (ExtendsHistory (disk_history history old)) (sym disk_same) (goes_nowhere (disk_history history old));
          done = tt;
          stops = λ e. absurd (not_device e);
          memory = λ e. back;
          clear = λ e. disk_same;
          full = λ e. (back, cause (ap fault_of e));
          version = untouched.version;
          ended = ended;
          takes = takes;
          found = λ other_fault. found (λ e. other_fault (ap failed e));
          running = λ e. untouched.stopped;
          any_moment = λ run k image left. inl (before run k image left);
          kept = λ run e. before run;
          acknowledged = λ run. tt;
          listed = λ run changed. tt;
          device = λ e k. absurd (not_device e);
          idle = λ e. disk_same;
          quiet = λ e. not_both (has_changes old) moved e;
          clean = clean;
          rested = rested_again;
        }

  -- the collections are as they stand
  module _ (moved : has_changes old ≡ true) (clean : has_changes new ≡ false) (forth : world new ≡ after_commit (world old))
      (ended : turn_start new ≡ (world new).collections) (tied : AreTied false history new.file new.cursors.list) where
    now_there : (world new).collections ≡ (world old).collections
    now_there = ap (λ (w : World). w.collections) forth

    there : turn_start new ≡ (world old).collections
    there = ended ∙ now_there

    held : (image : ℕ → List ℕ) → images.HoldsState image (turn_start old) ⊎ images.HoldsState image (world old).collections
        → HoldsCollections image (turn_start old) ⊎ HoldsCollections image (world old).collections
    held image (inl file) = inl (record { lawful = h.before; file = file })
    held image (inr file) = inr (record { lawful = h.lawful; file = file })

    at_any_moment : (r : Result (Unit {0}) CommitFault) → files.CommitsCollections history r old.file new.file → IsRunning old
        → LeavesOnly (disk_history history old) (disk_history history new)
        (λ image. HoldsCollections image (turn_start old) ⊎ HoldsCollections image (world old).collections)
    at_any_moment r saved run k image left = held image ((saved.moves run (turn_start old) (world old).collections h.file).any_moment k image left)

    sound_now : HasState history new.file (world old).collections (world old).collections
        → (IsRunning new → views.is_changed new.file ≡ false) → IsSound history new
    sound_now file unchanged = record {
      lawful = subst IsLawfulState (sym now_there) h.lawful;
      cursors = subst (λ (w : World). AreLawfulCursors w.cursors) (sym forth) (rested_lawful (world old).cursors h.cursors);
      before = subst IsLawfulState (sym there) h.lawful;
      quiet = λ e. ended;
      file = subst (λ (cs : List Collection). HasState history new.file cs (world new).collections) (sym there)
          (subst (HasState history new.file (world old).collections) (sym now_there) file);
      unchanged = λ running e. unchanged running;
      tied = at_rest_again clean tied;
    }

    rested_now : are_untouched (world new).cursors ≡ true
    rested_now = ap (λ (w : World). are_untouched w.cursors) forth ∙ rested_untouched (world old).cursors

    pub committed_now : files.CommitsCollections history (Ok tt) old.file new.file → CommitsTurn history (Ok tt) old new
    committed_now saved =
        let moves = saved.moves saved.running.0 (turn_start old) (world old).collections h.file in
        record {
          sound = sound_now moves.begun (λ running. saved.clean);
          extends = saved.extends;
          done = forth;
          stops = λ e. absurd cc;
          memory = λ e. absurd cc;
          clear = λ e. absurd cc;
          full = λ e. absurd cc;
          version = saved.version ∙ sym (counted moved);
          ended = ended;
          takes = saved.takes;
          found = saved.found;
          running = λ e. saved.running.1 ∙ sym saved.running.0;
          any_moment = at_any_moment (Ok tt) saved;
          kept = λ run e. tt;
          acknowledged = λ run k image left. record { lawful = h.lawful; file = moves.acknowledged k image left };
          listed = λ run changed k image left. moves.listed k image left;
          device = λ e k. absurd cc;
          idle = λ e. not_both (is_stopped old) e saved.running.0;
          quiet = λ e. not_both (has_changes old) moved e;
          clean = clean;
          rested = rested_now;
        }

    pub cut_now : files.CommitsCollections history (Err faults.Device) old.file new.file → CommitsTurn history (Err faults.Device) old new
    cut_now saved =
        let off = saved.stops refl in
        record {
          sound = sound_now (λ run. not_both (is_stopped new) off run) (λ run. not_both (is_stopped new) off run);
          extends = saved.extends;
          done = tt;
          stops = λ e. (forth, off);
          memory = λ e. absurd cc;
          clear = λ e. absurd cc;
          full = λ e. absurd cc;
          version = saved.still;
          ended = ended;
          takes = saved.takes;
          found = saved.found;
          running = λ e. absurd (e refl);
          any_moment = at_any_moment (Err faults.Device) saved;
          kept = λ run e. absurd (e refl);
          acknowledged = λ run. tt;
          listed = λ run changed. tt;
          device = λ e. saved.device refl;
          idle = λ e. ap (λ (f : State D). views.disk_history history f) (saved.idle e);
          quiet = λ e. not_both (has_changes old) moved e;
          clean = clean;
          rested = rested_now;
        }
