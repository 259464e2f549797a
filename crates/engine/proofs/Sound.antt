-- What commands, and the ends of turns and connections, keep of an engine.
use Rattle.std.proofs.Common.{◌≡◌, ◌⊎◌, inl, inr, ℕ, Bool, false, List, Result, Ok, Err, refl, ap, subst, sym, ◌∙◌}
use Rattle.std.specs.Prelude.{◌==◌, not, All, OnErr}
use Rattle.std.proofs.lemmas.List.Elements.{All-filter}
use Rattle.bson.specs.Tree.{Pairs}
use Rattle.page.specs.History.{History, KeepsWord}
use Rattle.collections.specs.Calls.{HasReadCause, IsUnchanged}
use Rattle.collections.specs.Standing.{HasState}
use Rattle.collections.specs.View as views
use Rattle.database_model.specs.World.{World, Cursor, forget, after_undo}
use Rattle.entry_model.specs.State.{Collection}
use Rattle.database_model.specs.Lawful.{IsWithin, IsLawfulState, IsLawful}
use Rattle.command_model.specs.Command.{Command, IsBounded}
use Rattle.database_model.specs.Step.{run, answered, RefusedBeside}
use Rattle.replies.specs.View.{with_ok, Runs}
use Rattle.engine.specs.View.{world, turn_start}
use Rattle.engine.specs.Durable.{IsRunning, IsSound, disk_history, file_of, has_changes}
use Rattle.engine.specs.Writing.{FileCause}
use Rattle.engine.specs.declared.engine.Engine.{Engine}
use Rattle.opening.specs.declared.ghost_state.GhostState.{GhostState}
use Rattle.database_model.specs.Refusals.{refusal_reply}
use Rattle.engine.specs.Performing.{DoesPlanned, DoesReading, RunsReadingCommand}
use Rattle.opening.specs.TurnStates.{TurnStates}
use Rattle.path.specs.declared.refusal.Refusal.{Refusal}
use Rattle.path.specs.declared.refusal.Refusal.TheVariants as refusals
use Rattle.pinned_cursors.specs.Tied.{AreTied}
use Rattle.pinned_cursors.specs.Turns.{OnlyPins, Releases}
use Rattle.engine.specs.Continuing.{Continues}
use Rattle.engine.specs.Laws.{ForMemory}
use Rattle.engine.proofs.Continuing.{continues_still}
use Rattle.engine.proofs.LawfulSteps.{Good, good_run}
use Rattle.engine.proofs.OnlyReading.{does_any}

-- the file has the collections as the turn began, and a tree of those of now
pub keeps_sound : {D : Type 0} (history : D → History) (old new : Engine D) → IsSound history old
    → HasState history new.file (turn_start old) (world new).collections → AreTied (has_changes new) history new.file new.cursors.list
    → turn_start new ≡ turn_start old → IsLawful (world new) → (has_changes new ≡ false → turn_start new ≡ (world new).collections)
    → (IsRunning new → has_changes new ≡ false → views.is_changed new.file ≡ false) → IsSound history new
keeps_sound history old new h file tied same lawful quiet unchanged = record {
  lawful = lawful.collections;
  cursors = lawful.cursors;
  before = subst IsLawfulState (sym same) h.before;
  quiet = quiet;
  file = subst (λ (cs : List Collection). HasState history new.file cs (world new).collections) (sym same) file;
  unchanged = unchanged;
  tied = tied;
}

-- what a command makes of a lawful world is lawful
pub runs_lawful : (w new : World) (connection : ℕ) (c : Command) (r : Result Pairs Refusal) → IsLawful w → IsBounded c → Runs w (run w connection c) new r
    → IsLawful new
runs_lawful w new connection c (Err e) h b runs = subst IsLawful (sym runs.0) h
runs_lawful w new connection c (Ok reply) h b runs =
    at (run w connection c) runs (good_run w connection c h b)
  where
    world_in : Result (World × Pairs) Refusal → World
    world_in (Ok x) = x.0
    world_in (Err e) = w

    at : (planned : Result (World × Pairs) Refusal) → with_ok planned ≡ Ok (new, reply) → Good planned → IsLawful new
    at (Err e) same good = absurd cc
    at (Ok x) same good = let there : x.0 ≡ new = ap world_in same in subst IsLawful there (good x refl).0

-- the world of a sound engine is lawful
pub lawful_world : {D : Type 0} (history : D → History) (engine : Engine D) → IsSound history engine → IsLawful (world engine)
lawful_world history engine h = record { collections = h.lawful; cursors = h.cursors }

-- so is what a turn that is undone leaves, and what the end of a connection leaves
pub undone_lawful : {D : Type 0} (history : D → History) (engine : Engine D) → IsSound history engine → IsLawful (after_undo (turn_start engine) (world engine))
undone_lawful history engine h =
    record {
      collections = h.before;
      cursors = All-filter (λ (c : Cursor). not c.touched) (λ (c : Cursor). All IsWithin c.rest) (world engine).cursors h.cursors;
    }

pub forgotten_lawful : {D : Type 0} (history : D → History) (engine : Engine D) (connection : ℕ) → IsSound history engine
    → IsLawful (forget (world engine) connection)
forgotten_lawful history engine connection h =
    record {
      collections = h.lawful;
      cursors = All-filter (λ (c : Cursor). not (c.connection == connection)) (λ (c : Cursor). All IsWithin c.rest) (world engine).cursors h.cursors;
    }

-- ---- what a command is answered

pub answers_done : (w new : World) (planned : Result (World × Pairs) Refusal) (d : Pairs) → with_ok planned ≡ Ok (new, d) → (new, d) ≡ answered w planned
answers_done w new (Err e) d h = absurd cc
answers_done w new (Ok x) d h = sym (ap both h)
  where
    both : Result (World × Pairs) Refusal → World × Pairs
    both (Ok y) = y
    both (Err e) = (w, d)

pub answers_refused : {D : Type 0} (history : D → History) (old new : Engine D) (planned : Result (World × Pairs) Refusal) (e : Refusal)
    → DoesPlanned history planned (Err e) old new
    → ((world new, refusal_reply e) ≡ answered (world old) planned)
    ⊎ RefusedBeside (FileCause history (file_of old) (file_of new)) (world old) (answered (world old) planned).0 (world new) (refusal_reply e)
answers_refused history old new planned e (same, inl is) = inl ((λ i. (same i, refusal_reply e)) ∙ ap (answered (world old)) (sym is))
answers_refused history old new planned e (same, inr cause) = inr (record { refusal = e; cause = cause; same = same; says = refl })

-- what memory alone refuses
pub refused_for_memory : (w new : World) (planned : Result (World × Pairs) Refusal) (e : Refusal) → Runs w planned new (Err e)
    → ((new, refusal_reply e) ≡ answered w planned) ⊎ RefusedBeside ForMemory w (answered w planned).0 new (refusal_reply e)
refused_for_memory w new planned refusals.OutOfMemory runs = inr (record { refusal = refusals.OutOfMemory; cause = refl; same = runs.0; says = refl })
refused_for_memory w new planned e runs = inl ((λ i. (runs.0 i, refusal_reply e)) ∙ ap (answered w) (sym (runs.1 (λ h. absurd cc))))

pub answers_read : {D : Type 0} (history : D → History) (old new : Engine D) (planned : Result (World × Pairs) Refusal) (e : Refusal)
    → DoesReading history planned (Err e) old new
    → ((world new, refusal_reply e) ≡ answered (world old) planned)
    ⊎ RefusedBeside (λ w. HasReadCause history (file_of old) (file_of new)) (world old) (answered (world old) planned).0 (world new) (refusal_reply e)
answers_read history old new planned e (same, inl is) = inl ((λ i. (same i, refusal_reply e)) ∙ ap (answered (world old)) (sym is))
answers_read history old new planned e (same, inr cause) = inr (record { refusal = e; cause = cause; same = same; says = refl })

-- ---- commands that ask the file for pins at most

module _ {D : Type 0} (history : D → History) (old new : Engine D) (planned : Result (World × Pairs) Refusal) where
  -- what memory alone gives is what was planned
  does_planned : (r : Result Pairs Refusal) → Runs (world old) planned (world new) r → DoesReading history planned r old new
  does_planned (Ok reply) runs = runs
  does_planned (Err refusals.OutOfMemory) runs = (runs.0, inr (inl refl))
  does_planned (Err e) runs = (runs.0, inl (runs.1 (λ h. absurd cc)))

  -- the turn goes on with the same collections, and the cursors stay tied to its file
  pub performs_tied : (r : Result Pairs Refusal) → IsSound history old → Continues history old new
      → HasState history new.file (turn_start old) (world old).collections → IsUnchanged history old.file new.file
      → AreTied (has_changes old) history new.file new.cursors.list → new.told.value ≡ old.told.value
      → has_changes new ≡ has_changes old → IsLawful (world new) → (KeepsWord (disk_history history new) → DoesReading history planned r old new)
      → OnErr r (world new ≡ world old) → RunsReadingCommand history planned r old new
  performs_tied r h continues state unchanged tied told changes lawful as_planned left = record {
    performs = record {
      sound = keeps_sound history old new h (subst (λ (k : TurnStates). HasState history new.file (turn_start old) k.now) (sym told) state)
          (subst (λ (b : Bool). AreTied b history new.file new.cursors.list) (sym changes) tied)
          (ap (λ (k : TurnStates). k.start) told) lawful
          (λ clean. ap (λ (k : TurnStates). k.start) told ∙ h.quiet (sym changes ∙ clean) ∙ sym (ap (λ (k : TurnStates). k.now) told))
          (λ running clean. ap (λ (t : Bool × ℕ). t.0) unchanged ∙ h.unchanged (sym continues.running ∙ running) (sym changes ∙ clean));
      continues = continues;
      start = ap (λ (k : TurnStates). k.start) told;
      as_planned = λ k. does_any history old new planned r (as_planned k);
      left = left;
      refused = either r;
      keeps = λ t. changes ∙ t;
    };
    changes = changes;
    takes = ap (λ (t : Bool × ℕ). t.1) unchanged;
    as_planned = as_planned;
  }
    where
      either : (x : Result Pairs Refusal) → OnErr x (has_changes new ≡ has_changes old)
      either (Ok reply) = tt
      either (Err e) = changes

  -- pins came or went
  pub performs_pins : (r : Result Pairs Refusal) → IsSound history old → OnlyPins history old.file new.file → AreTied
      (has_changes old) history new.file new.cursors.list
      → new.told.value ≡ old.told.value → has_changes new ≡ has_changes old → IsLawful (world new)
      → (KeepsWord (disk_history history new) → DoesReading history planned r old new) → OnErr r (world new ≡ world old)
      → RunsReadingCommand history planned r old new
  performs_pins r h pins tied =
      performs_tied r h (continues_still history old new pins.untouched.disk pins.untouched.stopped pins.untouched.version pins.takes pins.untouched.reads)
      (pins.state (turn_start old) (world old).collections h.file) (λ i. (pins.unchanged i, pins.takes i)) tied

  pub performs_in_memory : (r : Result Pairs Refusal) → IsSound history old → Releases (has_changes old) history old.file new.file old.cursors new.cursors
      → new.told.value ≡ old.told.value → has_changes new ≡ has_changes old → IsLawful (world new) → Runs (world old) planned (world new) r
      → RunsReadingCommand history planned r old new
  performs_in_memory r h file told changes lawful runs =
      performs_pins r h file.pins (file.tied h.tied) told changes lawful (λ k. does_planned r runs) (unchanged r runs)
    where
      unchanged : (x : Result Pairs Refusal) → Runs (world old) planned (world new) x → OnErr x (world new ≡ world old)
      unchanged (Ok reply) ran = tt
      unchanged (Err e) ran = ran.0

-- the same of a command that was read
pub performs_told : {D : Type 0} (history : D → History) (old new : Engine D) (connection : ℕ) (c : Command) (r : Result Pairs Refusal) → IsSound history old
    → IsBounded c → Releases (has_changes old) history old.file new.file old.cursors new.cursors → new.told ≡ old.told → has_changes new ≡ has_changes old
    → Runs (world old) (run (world old) connection c) (world new) r → RunsReadingCommand history (run (world old) connection c) r old new
performs_told history old new connection c r h b file told changes runs =
    performs_in_memory history old new (run (world old) connection c) r h file (ap (λ (t : GhostState). t.value) told) changes
    (runs_lawful (world old) (world new) connection c r (lawful_world history old h) b runs) runs

-- what was planned and what was returned, in other words
pub performs_as : {D : Type 0} (history : D → History) (old new : Engine D) (planned other : Result (World × Pairs) Refusal) (r s : Result Pairs Refusal)
    → planned ≡ other → r ≡ s → RunsReadingCommand history other s old new → RunsReadingCommand history planned r old new
performs_as history old new planned other r s is same h =
    subst (λ (p : Result (World × Pairs) Refusal). RunsReadingCommand history p r old new) (sym is)
    (subst (λ (x : Result Pairs Refusal). RunsReadingCommand history other x old new) (sym same) h)
