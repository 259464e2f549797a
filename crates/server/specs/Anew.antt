-- The headline without the premise on the disk: a run over a new disk in memory, which keeps its
-- word as long as its clock, the number of its calls in eight bytes, isn't at its greatest value.
use Rattle.std.specs.Prelude.{◌≡◌, [], List}
use Rattle.page.specs.History.{KeepsWord, HasTime}
use Rattle.page.specs.Memory.{memory_history}
use Rattle.page.specs.declared.memory.MemDisk.{MemDisk}
use Rattle.database_model.specs.World.{new_world}
use Rattle.server.specs.ServerState.{ServerState}
use Rattle.server.specs.View.{state}
use Rattle.server.specs.Durable.{disk_history, IsRunning}
use Rattle.server.specs.Headline.{Drives}
use Rattle.server.specs.declared.step.Step.{Step}
use Rattle.server.specs.declared.drive.DriveOut.{DriveOut}
use Rattle.server.specs.declared.turn.Core.{Core}

-- no collection, no cursor and no connection
abbrev pub new_server : ServerState
new_server = record { world = new_world; connections = [] }

pub record RunsAnew (all : List Step) (out : DriveOut) (last : Core MemDisk) : Type 0 where
  pub first : Core MemDisk
  pub running : IsRunning first
  pub drives : Drives memory_history first all out last
  pub empty : HasTime (disk_history memory_history last) → state first ≡ new_server
  pub word : HasTime (disk_history memory_history last)
      → KeepsWord (disk_history memory_history last)
