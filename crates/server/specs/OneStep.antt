-- One step of a run: it adds a turn's frames and counts the turn, or says why the run stops.
use Rattle.std.specs.Prelude.{◌≡◌, Bool, ℕ, ◌+◌, List, [], ◌∷◌, ◌++◌, Result, Ok, Err, Vec}
use Rattle.std.specs.Global.{Global}
use Rattle.server.specs.Turn.{Out, Turns, TurnFails}
use Rattle.server.specs.Moment.{TurnEnd, Instant, HasKeptWord, end_at, last_moment}
use Rattle.server.specs.Causes.{IsCaused}
use Rattle.server.specs.History.{Happens, TakenBack, turns_in}
use Rattle.server.specs.Addressed.{Addresses}
use Rattle.server.specs.View.{frames_in}
use Rattle.server.specs.declared.step.Step.{Step}
use Rattle.server.specs.declared.step.Step.TheVariants as steps
use Rattle.server.specs.declared.connection.FeedFault.TheVariants as feeds
use Rattle.server.specs.declared.drive.DriveFault.{DriveFault}
use Rattle.server.specs.declared.drive.DriveFault.TheVariants as stops
use Rattle.server.specs.declared.drive.DriveOut.{DriveOut}

-- what a run has handed out so far, with these frames and turns more
pub record Adds (frames : List (ℕ × List ℕ)) (turns : ℕ) (old new : DriveOut) : Type 0 where
  pub replies : frames_in new.replies.items ≡ frames_in old.replies.items ++ frames
  pub counted : new.turns ≡ old.turns + turns
  pub stopped : new.stopped ≡ old.stopped

-- the ends of turns that a step makes: one at the end of a turn
abbrev pub ends_of : Step → Instant → List TurnEnd
ends_of steps.Turn last = end_at last ∷ []
ends_of (steps.Bytes id chunk) last = []
ends_of (steps.Gone id) last = []

pub record Goes (first : Instant) (step : Step) (old new : DriveOut) (last : Instant) : Type 0 where
  pub frames : List (ℕ × List ℕ)
  pub happens : HasKeptWord last
      → Happens first.moment first.state (step ∷ []) frames (ends_of step last) last.state
  pub addresses : Addresses first.state.connections (step ∷ []) frames last.state.connections
  pub moment : last.moment ≡ last_moment first.moment (ends_of step last)
  pub adds : Adds frames (turns_in (step ∷ [])) old new

-- the turn's frames are missing
pub record Loses (first : Instant) (step : Step) (old new : DriveOut)
    (last : Instant) : Type 0 where
  pub is : step ≡ steps.Turn
  pub lost : Out
  pub turn : HasKeptWord last → Turns (IsCaused first.moment last.moment)
      (TakenBack first.moment last.moment) first.state lost last.state
  pub adds : Adds [] 1 old new

-- By the result, and whether the server had stopped before the step.
abbrev pub Does : Instant → Step → DriveOut → Result (Unit {0}) DriveFault → Bool → DriveOut
    → Instant → Type 0
Does first step old (Ok _) was_stopped new last = Goes first step old new last
Does first step old (Err (stops.Feed feeds.Memory)) was_stopped new last =
    ((id : ℕ) × (chunk : Vec ℕ Global) × (step ≡ steps.Bytes id chunk)) × Adds [] 0 old new
    × (last.state ≡ first.state)
Does first step old (Err (stops.Feed feeds.Closed)) was_stopped new last = ⊥
Does first step old (Err (stops.Turn fault)) was_stopped new last =
    (step ≡ steps.Turn) × Adds [] 0 old new
    × TurnFails (HasKeptWord last) (IsCaused first.moment last.moment) first.state fault
    was_stopped last.state
Does first step old (Err (stops.Gather)) was_stopped new last = Loses first step old new last
