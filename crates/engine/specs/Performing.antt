-- What running a command does to an engine.
use Rattle.std.specs.Prelude.{◌≡◌, ◌⊎◌, Option, Result, Ok, Err, OnErr}
use Rattle.bson.specs.Tree.{Pairs}
use Rattle.command_model.specs.Command as commands
use Rattle.page.specs.History.{History, KeepsWord}
use Rattle.path.specs.declared.refusal.Refusal.{Refusal}
use Rattle.engine.specs.Continuing.{Continues}
use Rattle.collections.specs.Calls.{HasReadCause}
use Rattle.engine.specs.Durable.{disk_history, file_of, failed_allocations_of, has_changes, IsSound}
use Rattle.engine.specs.Durable.{KeepsChanges}
use Rattle.database_model.specs.Step.{answered}
use Rattle.pinned_cursors.specs.First.{OrNone}
use Rattle.replies.specs.View.{with_ok}
use Rattle.engine.specs.View.{world, turn_start}
use Rattle.database_model.specs.World.{World}
use Rattle.engine.specs.Writing.{FileCause}
use Rattle.engine.specs.declared.engine.Engine.{Engine}

-- It asks for no document: it is about the server, its collections or their indexes.
abbrev pub IsAdministrative : commands.Command → Type 0
IsAdministrative (commands.insert c) = ⊥
IsAdministrative (commands.find c) = ⊥
IsAdministrative (commands.get_more c) = ⊥
IsAdministrative (commands.kill_cursors c) = ⊥
IsAdministrative (commands.count c) = ⊥
IsAdministrative (commands.delete c) = ⊥
IsAdministrative (commands.update c) = ⊥
IsAdministrative (commands.aggregate c) = ⊥
IsAdministrative other = Unit {0}

-- The command did what was planned, or was refused as planned, or by a cause of its own. A refusal
-- leaves the world as it was.
abbrev pub DoesPlanned : {D : Type 0} → (D → History) → Result (World × Pairs) Refusal
    → Result Pairs Refusal → Engine D → Engine D → Type 0
DoesPlanned history planned (Ok reply) old new = with_ok planned ≡ Ok (world new, reply)
DoesPlanned history planned (Err e) old new = (world new ≡ world old)
    × ((planned ≡ Err e)
    ⊎ FileCause history (file_of old) (file_of new) (answered (world old) planned).0 e)

-- A command was run. While the disk keeps its word, it did what was planned, or was refused. On any
-- disk one that is refused leaves the world as it was, and whatever it did, a turn that had changes
-- before has them still.
pub record RunsCommand {D : Type 0} (history : D → History)
    (planned : Result (World × Pairs) Refusal)
    (result : Result Pairs Refusal) (old new : Engine D) : Type 0 where
  pub sound : IsSound history new
  pub continues : Continues history old new
  pub start : turn_start new ≡ turn_start old
  pub as_planned : KeepsWord (disk_history history new) → DoesPlanned history planned result old new
  pub left : OnErr result (world new ≡ world old)
  pub refused : OnErr result (has_changes new ≡ has_changes old)
  pub keeps : KeepsChanges old new

-- The command did what was planned, or was refused as planned, or because memory ran out or the
-- device failed. A refusal leaves the world as it was.
abbrev pub DoesReading : {D : Type 0} → (D → History) → Result (World × Pairs) Refusal
    → Result Pairs Refusal → Engine D → Engine D → Type 0
DoesReading history planned (Ok reply) old new = with_ok planned ≡ Ok (world new, reply)
DoesReading history planned (Err e) old new = (world new ≡ world old)
    × ((planned ≡ Err e) ⊎ HasReadCause history (file_of old) (file_of new) e)

-- A command was run that only reads. On any disk it leaves nothing for the commit and asks for no
-- page, so that none is free is no cause of a refusal.
pub record RunsReadingCommand {D : Type 0} (history : D → History)
    (planned : Result (World × Pairs) Refusal) (result : Result Pairs Refusal) (old new : Engine D)
    : Type 0 where
  pub performs : RunsCommand history planned result old new
  pub changes : has_changes new ≡ has_changes old
  pub takes : failed_allocations_of history new ≡ failed_allocations_of history old
  pub as_planned : KeepsWord (disk_history history new) → DoesReading history planned result old new

-- The engine is as it was: its disk was read at most, and pins came and went.
pub record StaysAlike {D : Type 0} (history : D → History) (old new : Engine D) : Type 0 where
  pub sound : IsSound history new
  pub continues : Continues history old new
  pub told : new.told.value ≡ old.told.value
  pub cursors : new.cursors ≡ old.cursors
  pub changes : has_changes new ≡ has_changes old
  pub takes : failed_allocations_of history new ≡ failed_allocations_of history old

-- The command was run in one way, or not in that way: then all is as it was.
abbrev pub MayPerform : {D : Type 0} → (D → History) → Result (World × Pairs) Refusal
    → Result (Option Pairs) Refusal → Engine D → Engine D → Type 0
MayPerform history planned result old new =
    OrNone (λ r. RunsReadingCommand history planned r old new) (StaysAlike history old new) result
