-- What the call of a turn gives, by its result.
use Rattle.std.specs.Prelude.{◌≡◌, ◌≢◌, ◌⊎◌, ◌+◌, ◌<◌, true, [], Result, Err, IfOk, IfErr, OnOk}
use Rattle.std.specs.Prelude.{OnErr}
use Rattle.page.specs.History.{History, KeepsWord}
use Rattle.page.specs.Crash.{ExtendsHistory, LeavesOnly, CrashLeaves}
use Rattle.trusted_disk.specs.Trusting.{trusted_history}
use Rattle.collections.specs.FreePages.{NamesFreePages}
use Rattle.engine.specs.Continuing.{Continues}
use Rattle.opening.specs.Holding.{HoldsCollections}
use Rattle.server.specs.Turn.{calls, connections_after, AllRead, HandsOut, RunsAndHandsOut, Turns}
use Rattle.server.specs.Turn.{ChangesNothing, TurnFails, TurnsOnce}
use Rattle.server.specs.Moment.{HoldsEither, FollowsInTurn}
use Rattle.server.specs.Causes.{IsCaused, OfAnyCause}
use Rattle.server.specs.History.{TakenBack}
use Rattle.server.specs.View.{state, out_of}
use Rattle.server.specs.Durable.{disk_history, is_stopped, IsRunning, IsSound}
use Rattle.server.specs.Durable.{collections_of, moment_of}
use Rattle.server.specs.declared.turn.Core.{Core}
use Rattle.server.specs.declared.turn.TurnOut.{TurnOut}
use Rattle.server.specs.declared.turn.TurnFault.{TurnFault}
use Rattle.server.specs.declared.turn.TurnFault.TheVariants as turn_faults

pub record TakesTurn {D : Type 0} (history : D → History) (old : Core D)
    (result : Result TurnOut TurnFault) (new : Core D) : Type 0 where
  pub sound : IsSound history new
  -- while the disk keeps its word, it is done, or undone; or it answers no message
  pub turns : IfOk result (λ out. KeepsWord (disk_history history new)
      → Turns (IsCaused (moment_of history old) (moment_of history new))
      (TakenBack (moment_of history old) (moment_of history new)) (state old)
      (out_of out) (state new))
  -- and it commits once, where a message changed the collections, even if a later one changed them
  -- back; one whose messages wrote nothing, or that is undone, commits nothing
  pub commits_once : IfOk result (λ out. KeepsWord (disk_history history new)
      → TurnsOnce (IsCaused (moment_of history old) (moment_of history new))
      (TakenBack (moment_of history old) (moment_of history new)) (state old)
      (out_of out) (state new) (moment_of history old).generation
      (moment_of history new).generation)
  -- on any disk: to whom its frames go, one for each message that is taken, and what it leaves of
  -- what came
  pub hands_out : IfOk result (λ out. HandsOut (state old) (out_of out))
  -- on any disk: that its messages are answered one after the other, a ping and a hello as defined,
  -- and whether what they did is kept or taken back. What is kept is committed once, unless each of
  -- them left the collections as they were, by some worlds in between that lead to the last
  pub answers : IfOk result (λ out. RunsAndHandsOut (KeepsWord (disk_history history new))
      (state old) (moment_of history old).generation (out_of out) (state new)
      (moment_of history new).generation)
  pub leaves : OnOk result
      ((state new).connections ≡ connections_after (state old).connections)
  pub fails : IfErr result (λ fault.
      TurnFails (KeepsWord (disk_history history new))
      (IsCaused (moment_of history old) (moment_of history new)) (state old) fault
      (is_stopped old) (state new))
  -- where memory runs out before a message is taken, all is as it was
  pub untouched : result ≡ Err turn_faults.Memory → new ≡ old
  pub extends : ExtendsHistory (disk_history history old) (disk_history history new)
  -- a crash at any moment of the call leaves the collections as they were before the turn or as
  -- they are after it
  pub any_moment : IsRunning old → LeavesOnly (disk_history history old) (disk_history history new)
      (HoldsEither (collections_of old) (collections_of new))
  -- at Ok it leaves them as they are after it, and nothing else
  pub acknowledged : IsRunning old
      → OnOk result
      (CrashLeaves (disk_history history new)
      (λ image. HoldsCollections image (collections_of new)))
  -- and where it committed, what a crash leaves then names each free page
  pub listed : OnOk result ((moment_of history new).generation
      ≡ (moment_of history old).generation + 1
      → CrashLeaves (disk_history history new) NamesFreePages)
  -- a server that had stopped answers so, and leaves the disk as it is; another stops only where a
  -- write or a sync failed
  pub running : result ≢ Err turn_faults.Stopped → is_stopped new ≡ is_stopped old
  pub stops : result ≡ Err turn_faults.Stopped → is_stopped new ≡ true
  pub idle : is_stopped old ≡ true
      → (result ≡ Err turn_faults.Stopped) × (disk_history history new ≡ disk_history history old)
  pub device : result ≡ Err turn_faults.Stopped → KeepsWord (disk_history history new)
      → (is_stopped old ≡ true)
      ⊎ ((disk_history history old).failed_writes < (disk_history history new).failed_writes)
  -- what is counted has not fallen, and it has committed once at most: once, where it answers and
  -- changed the collections
  pub moment : FollowsInTurn (moment_of history old) (moment_of history new)
  pub commits : OnOk result ((collections_of new ≡ collections_of old)
      ⊎ ((moment_of history new).generation ≡ (moment_of history old).generation + 1))
  -- where it answers no message, it has committed nothing
  pub uncommitted : OnErr result
      ((moment_of history new).generation ≡ (moment_of history old).generation)
  -- where it takes no message, it makes no call of the disk
  pub void : calls (state old).connections ≡ []
      → disk_history history new ≡ disk_history history old
  -- where its messages change nothing, it only reads the disk, and commits nothing
  pub quiet : KeepsWord (disk_history history new) → ChangesNothing OfAnyCause (state old)
      → Continues (trusted_history history) old.engine new.engine
  -- On any disk: where its messages only read, or are refused before they run, it commits nothing,
  -- and doesn't stop the server.
  pub reads : AllRead (calls (state old).connections)
      → Continues (trusted_history history) old.engine new.engine
