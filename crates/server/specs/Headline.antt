-- The headline. For every list of steps, in whatever chunks the bytes come and however connections
-- interleave, what the server hands out, as long as its disk keeps its word, is a history's output:
-- these frames, in this order, and so these bytes for each connection. A run goes on to the end of
-- its steps, or stops at one of them, for want of memory or because a write or a sync failed. Bytes
-- that found no memory, and a turn that took no message, changed nothing; where the frames of a
-- turn found no memory the turn is done, and what is missing is that turn's replies and no other; a
-- turn that stopped handed out nothing.
--
-- A crash leaves the collections after some whole turns of that history, in order of time: between
-- two turns' ends those of the one or of the other, and at the end of the run those after all turns
-- that answered, or after one more where the run stopped in it.
use Rattle.std.specs.Prelude.{◌≡◌, ◌⊎◌, ◌<◌, ℕ, ◌+◌, Bool, true, List, [], ◌∷◌, ◌++◌, take}
use Rattle.std.specs.Prelude.{slice_get, Option, Some, None, Vec}
use Rattle.std.specs.Global.{Global}
use Rattle.page.specs.History.{History, KeepsWord}
use Rattle.page.specs.Crash.{ExtendsHistory, CrashLeaves}
use Rattle.opening.specs.Holding.{HoldsCollections}
use Rattle.server.specs.ServerState.{ServerState}
use Rattle.server.specs.Turn.{Out, Turns, TurnFails}
use Rattle.server.specs.Moment.{TurnEnd, Instant, HasKeptWord, end_at, last_collections}
use Rattle.server.specs.Moment.{last_moment, HoldsEither, FollowInOrder, LeavesInOrder}
use Rattle.server.specs.Causes.{IsCaused}
use Rattle.server.specs.History.{Happens, TakenBack, bytes_to, turns_in}
use Rattle.server.specs.View.{state, frames_in}
use Rattle.server.specs.Addressed.{Addressed}
use Rattle.server.specs.Durable.{disk_history, is_stopped, IsRunning, collections_of, clock_of}
use Rattle.server.specs.Durable.{moment_of, instant_of}
use Rattle.server.specs.declared.turn.Core.{Core}
use Rattle.server.specs.declared.turn.TurnFault.{TurnFault}
use Rattle.server.specs.declared.turn.TurnFault.TheVariants as turns
use Rattle.server.specs.declared.step.Step.{Step}
use Rattle.server.specs.declared.step.Step.TheVariants as steps
use Rattle.server.specs.declared.connection.FeedFault.TheVariants as feeds
use Rattle.server.specs.declared.drive.DriveFault.{DriveFault}
use Rattle.server.specs.declared.drive.DriveFault.TheVariants as stops
use Rattle.server.specs.declared.drive.DriveOut.{DriveOut}

-- the bytes that a run hands out for a connection
abbrev pub bytes_for : ℕ → DriveOut → List ℕ
bytes_for id out = bytes_to id (frames_in out.replies.items)

abbrev pub BytesStandAt : ℕ → List Step → Type 0
BytesStandAt i all =
    (id : ℕ) × (chunk : Vec ℕ Global) × (slice_get all i ≡ Some (steps.Bytes id chunk))

abbrev pub TurnStandsAt : ℕ → List Step → Type 0
TurnStandsAt i all = slice_get all i ≡ Some steps.Turn

-- A history of these steps, and then one turn, whose replies are missing.
pub record LosesTurn (first : Instant) (done : List Step) (given : List (ℕ × List ℕ))
    (ends : List TurnEnd) (last : Instant) : Type 0 where
  pub before : ServerState
  pub earlier : List TurnEnd
  pub lost : Out
  pub happens : HasKeptWord last → Happens first.moment first.state done given earlier before
  pub turn : HasKeptWord last → Turns (IsCaused (last_moment first.moment earlier) last.moment)
      (TakenBack (last_moment first.moment earlier) last.moment) before lost last.state
  pub counted : ends ≡ earlier ++ end_at last ∷ []

-- A history of these steps, and then one turn that handed out nothing, by its fault and whether the
-- server had stopped at the start.
pub record FailsTurn (first : Instant) (was_stopped : Bool) (done : List Step)
    (given : List (ℕ × List ℕ)) (ends : List TurnEnd) (fault : TurnFault)
    (last : Instant) : Type 0 where
  pub before : ServerState
  pub happens : HasKeptWord last → Happens first.moment first.state done given ends before
  pub turn : TurnFails (HasKeptWord last) (IsCaused (last_moment first.moment ends) last.moment)
      before fault was_stopped last.state

-- How a run ends, by the step and the fault at which it stopped, if it did; and, where the disk has
-- kept its word, its history.
abbrev pub Ends : Instant → Bool → List Step → Option (ℕ × DriveFault) → List (ℕ × List ℕ)
    → List TurnEnd → Instant → Type 0
Ends first was_stopped all None given ends last =
    HasKeptWord last → Happens first.moment first.state all given ends last.state
Ends first was_stopped all (Some (i, stops.Feed feeds.Memory)) given ends last =
    BytesStandAt i all
    × (HasKeptWord last → Happens first.moment first.state (take i all) given ends last.state)
Ends first was_stopped all (Some (i, stops.Feed feeds.Closed)) given ends last = ⊥
Ends first was_stopped all (Some (i, stops.Turn fault)) given ends last =
    TurnStandsAt i all × FailsTurn first was_stopped (take i all) given ends fault last
Ends first was_stopped all (Some (i, stops.Gather)) given ends last =
    TurnStandsAt i all × LosesTurn first (take i all) given ends last

-- the turns that answered, of so many steps
abbrev pub turns_done : Option (ℕ × DriveFault) → List Step → ℕ
turns_done None all = turns_in all
turns_done (Some (i, stops.Feed fault)) all = turns_in (take i all)
turns_done (Some (i, stops.Turn fault)) all = turns_in (take i all)
turns_done (Some (i, stops.Gather)) all = turns_in (take i all) + 1

-- the run stopped at a turn because a write or a sync failed
abbrev pub IsStopped : Option (ℕ × DriveFault) → Type 0
IsStopped None = ⊥
IsStopped (Some (i, stops.Turn turns.Stopped)) = Unit {0}
IsStopped (Some (i, stops.Turn turns.Memory)) = ⊥
IsStopped (Some (i, stops.Feed fault)) = ⊥
IsStopped (Some (i, stops.Gather)) = ⊥

-- A run over these steps, from the first moment to the last.
pub record Drives {D : Type 0} (history : D → History) (first : Core D) (all : List Step)
    (out : DriveOut) (last : Core D) : Type 0 where
  pub given : List (ℕ × List ℕ)
  pub ends : List TurnEnd
  pub happens : Ends (instant_of history first) (is_stopped first) all out.stopped given ends
      (instant_of history last)
  pub frames : frames_in out.replies.items ≡ given
  pub bytes : (id : ℕ) → bytes_for id out ≡ bytes_to id given
  -- on any disk: to whom its frames go
  pub addressed :
      Addressed (state first).connections all out.stopped given (state last).connections
  pub turns : out.turns ≡ turns_done out.stopped all
  pub extends : ExtendsHistory (disk_history history first) (disk_history history last)
  -- the moments of its turns' ends lie between the first one and now, in order, and what is counted
  -- never falls
  pub moments : FollowInOrder (moment_of history first) ends (moment_of history last)
  -- from each turn's end to the next one's, a crash leaves the collections of the one or of the
  -- other
  pub in_order : IsRunning first → KeepsWord (disk_history history last)
      → LeavesInOrder (disk_history history last) (clock_of history first)
      (collections_of first) ends (collections_of last)
  -- at the end, those after all turns that answered, or after one more in which the device failed
  pub at_end : IsRunning first → (IsStopped out.stopped → ⊥)
      → CrashLeaves (disk_history history last)
      (λ image. HoldsCollections image (last_collections (collections_of first) ends))
  pub at_stop : IsRunning first
      → CrashLeaves (disk_history history last)
      (HoldsEither (last_collections (collections_of first) ends) (collections_of last))
  pub idle : is_stopped first ≡ true → disk_history history last ≡ disk_history history first
  pub running : (IsStopped out.stopped → ⊥) → is_stopped last ≡ is_stopped first
  -- it stops so only where a write or a sync has failed, in the run or before
  pub device : IsStopped out.stopped → KeepsWord (disk_history history last)
      → (is_stopped first ≡ true)
      ⊎ ((disk_history history first).failed_writes < (disk_history history last).failed_writes)
