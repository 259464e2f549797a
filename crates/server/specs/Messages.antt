-- What the messages of a turn and its end do to an engine, by what is handed out: nothing where a
-- write or a sync failed.
use Rattle.std.specs.Prelude.{◌≡◌, ◌⊎◌, ◌+◌, ◌<◌, ℕ, List, [], Vec, Option, None, IfSome}
use Rattle.std.specs.Prelude.{true, false}
use Rattle.std.specs.Global.{Global}
use Rattle.page.specs.History.{History, KeepsWord}
use Rattle.page.specs.Crash.{CrashLeaves, ExtendsHistory, LeavesOnly}
use Rattle.collections.specs.FreePages.{NamesFreePages}
use Rattle.database_model.specs.World.{are_untouched}
use Rattle.engine.specs.View.{world, turn_start}
use Rattle.engine.specs.Continuing.{Continues}
use Rattle.engine.specs.Durable.{disk_history, generation, has_changes, is_stopped, IsSound}
use Rattle.engine.specs.declared.engine.Engine.{Engine}
use Rattle.opening.specs.Holding.{HoldsCollections}
use Rattle.server.specs.Turn.{calls, connections_taken, ChangeNothing, AllRead}
use Rattle.server.specs.Taking.{EndsTurn, BreaksTurn}
use Rattle.server.specs.View.{frames_in}
use Rattle.server.specs.Causes.{IsCaused, OfAnyCause}
use Rattle.server.specs.History.{TakenBack}
use Rattle.server.specs.Moment.{FollowsInTurn}
use Rattle.server.specs.Durable.{engine_moment}
use Rattle.server.specs.declared.connection.Connection.{Connection}

pub record RunsMessages {D : Type 0} (history : D → History) (old : Engine D)
    (connections : List Connection)
    (result : Option (Vec (ℕ × Vec ℕ Global) Global)) (new : Engine D)
    (left : List Connection) : Type 0 where
  pub sound : IsSound history new
  pub settles : IfSome result (λ given. EndsTurn (KeepsWord (disk_history history new))
      (IsCaused (engine_moment history old) (engine_moment history new))
      (TakenBack (engine_moment history old) (engine_moment history new))
      (world old) (generation old) connections (frames_in given.items) (world new)
      (generation new))
  pub breaks : result ≡ None → KeepsWord (disk_history history new)
      → BreaksTurn (IsCaused (engine_moment history old) (engine_moment history new))
      (world old) connections (world new)
  pub taken : left ≡ connections_taken connections
  pub idle : turn_start new ≡ (world new).collections
  pub clean : has_changes new ≡ false
  pub rested : are_untouched (world new).cursors ≡ true
  pub extends : ExtendsHistory (disk_history history old) (disk_history history new)
  pub any_moment : LeavesOnly (disk_history history old) (disk_history history new)
      (λ image. HoldsCollections image (world old).collections ⊎ HoldsCollections image
      (world new).collections)
  pub running : IfSome result (λ _. is_stopped new ≡ is_stopped old)
  pub stops : result ≡ None → is_stopped new ≡ true
  pub device : result ≡ None → KeepsWord (disk_history history new)
      → (disk_history history old).failed_writes < (disk_history history new).failed_writes
  pub moment : FollowsInTurn (engine_moment history old) (engine_moment history new)
  pub commits : IfSome result (λ _. ((world new).collections ≡ (world old).collections)
      ⊎ (generation new ≡ generation old + 1))
  -- where it committed, what a crash leaves names each free page
  pub listed : IfSome result (λ _. generation new ≡ generation old + 1
      → CrashLeaves (disk_history history new) NamesFreePages)
  pub cut : result ≡ None → generation new ≡ generation old
  pub quiet : KeepsWord (disk_history history new)
      → ChangeNothing OfAnyCause (world old) (calls connections) → Continues history old new
  pub reads : AllRead (calls connections) → Continues history old new
  pub void : calls connections ≡ [] → disk_history history new ≡ disk_history history old
