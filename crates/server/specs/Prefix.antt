-- The headline, said once. However a run is cut, what the crash left holds the collections after
-- some first turns of the run, and opening it finds these. Every turn whose moment had come then is
-- one of them, and at most one turn more.
use Rattle.std.specs.Prelude.{◌≡◌, ◌⊎◌, ℕ, ◌+◌, ◌<◌, ◌≤◌, nat_le, true, List, [], ◌∷◌, ◌++◌, length}
use Rattle.std.specs.Prelude.{take, filter, Option, Some, None}
use Rattle.page.specs.History.{History, KeepsWord, now, reads, LeftSince}
use Rattle.roots.specs.declared.opening.OpenFault.{OpenFault}
use Rattle.roots.specs.declared.opening.OpenFault.TheVariants as faults
use Rattle.entry_model.specs.State.{Collection}
use Rattle.opening.specs.Holding.{HoldsCollections}
use Rattle.opening.specs.Refusing.{IsFileRefused}
use Rattle.server.specs.ServerState.{ServerState}
use Rattle.server.specs.Turn.{Cut}
use Rattle.server.specs.Moment.{TurnEnd, Instant, end_at, last_collections, last_moment}
use Rattle.server.specs.Causes.{IsCaused}
use Rattle.server.specs.History.{Happens}
use Rattle.server.specs.Durable.{disk_history, IsRunning, collections_of, clock_of, instant_of}
use Rattle.server.specs.Opening.{IsCoreOpened, is_trusted}
use Rattle.server.specs.Headline.{Drives, TurnStandsAt}
use Rattle.server.specs.declared.turn.Core.{Core}
use Rattle.server.specs.declared.turn.TurnFault.TheVariants as turns
use Rattle.server.specs.declared.step.Step.{Step}
use Rattle.server.specs.declared.drive.DriveFault.{DriveFault}
use Rattle.server.specs.declared.drive.DriveFault.TheVariants as stops
use Rattle.server.specs.declared.drive.DriveOut.{DriveOut}

-- the turn in which the device failed, where a run stopped at one: it handed out nothing, and what
-- it changed may be durable
abbrev pub cut_turn : Option (ℕ × DriveFault) → Instant → List TurnEnd
cut_turn None last = []
cut_turn (Some (i, stops.Turn turns.Stopped)) last = end_at last ∷ []
cut_turn (Some (i, stops.Turn turns.Memory)) last = []
cut_turn (Some (i, stops.Feed fault)) last = []
cut_turn (Some (i, stops.Gather)) last = []

-- the turns that a run accepted, in order: those that answered, and then the one that was cut, if
-- one was
abbrev pub accepted : List TurnEnd → Option (ℕ × DriveFault) → Instant → List TurnEnd
accepted ends stopped last = ends ++ cut_turn stopped last

-- the turns that were acknowledged by this clock: those whose moments had come then
abbrev pub acknowledged : ℕ → List TurnEnd → List TurnEnd
acknowledged clock ends = filter (λ e. nat_le e.at.clock clock) ends

-- the collections after so many first turns of these
abbrev pub after_turns : List Collection → ℕ → List TurnEnd → List Collection
after_turns first count ends = last_collections first (take count ends)

-- Some first steps of a run are a history whose turns end so, and lead to these collections.
pub record Reaches (first : Instant) (all : List Step) (ends : List TurnEnd)
    (collections : List Collection) : Type 0 where
  pub steps : ℕ
  pub given : List (ℕ × List ℕ)
  pub state : ServerState
  pub happens : Happens first.moment first.state (take steps all) given ends state
  pub leaves : collections ≡ state.world.collections

-- Some first steps are such a history, and a turn that was cut stands behind them: its messages
-- ran, and lead to these collections.
pub record ReachesCut (first : Instant) (all : List Step) (ends : List TurnEnd) (last : Instant)
    (collections : List Collection) : Type 0 where
  pub steps : ℕ
  pub given : List (ℕ × List ℕ)
  pub before : ServerState
  pub happens : Happens first.moment first.state (take steps all) given ends before
  pub turn : TurnStandsAt steps all
  pub cut : Cut (IsCaused (last_moment first.moment ends) last.moment) before last.state
  pub leaves : collections ≡ last.state.world.collections

-- This disk reads what a crash left of a run at this clock. The run is told by its first and last
-- instant, its steps, the ends of the turns that answered, and the step and the fault at which it
-- stopped, if it did.
pub record FindsPrefix {D : Type 0} (history : D → History) (disk : D) (first : Instant)
    (all : List Step) (ends : List TurnEnd) (stopped : Option (ℕ × DriveFault)) (last : Instant)
    (clock : ℕ) : Type 0 where
  -- the collections after so many first turns
  pub count : ℕ
  pub collections : List Collection
  pub after : collections
      ≡ after_turns first.state.world.collections count (accepted ends stopped last)
  pub within : count ≤ length (accepted ends stopped last)
  -- the acknowledged turns are the first ones, none of them is lost, and one more is there at most
  pub first_ones : acknowledged clock ends ≡ take (length (acknowledged clock ends)) ends
  pub none_lost : length (acknowledged clock ends) ≤ count
  pub one_more : count ≤ length (acknowledged clock ends) + 1
  -- these turns are what happened at the first steps of the run
  pub happened : count ≤ length ends → Reaches first all (take count ends) collections
  pub cut : length ends < count → ReachesCut first all ends last collections
  -- the disk holds these collections, and whoever opens it finds them and trusts it, or is refused
  -- for the device's fault or want of memory alone
  pub holds : HoldsCollections (reads (now (history disk))) collections
  pub found : (core : Core D) → IsCoreOpened history disk core
      → (is_trusted core ≡ true) × (collections_of core ≡ collections)
  pub refused : (back : D) (fault : OpenFault) → IsFileRefused history disk back fault
      → KeepsWord (history back) → (fault ≡ faults.Device) ⊎ (fault ≡ faults.Memory)

-- For a run of a server that had not stopped, over a disk that keeps its word, any moment from the
-- run's start on, and any disk that reads an image which a crash may leave at that moment.
abbrev pub FindsAPrefix : {D E : Type 0} → (D → History) → (E → History) → Type 0
FindsAPrefix {D = D} {E = E} history later =
    (first : Core D) (all : List Step) (out : DriveOut) (last : Core D) (disk : E)
    → (drives : Drives history first all out last)
    → IsRunning first → KeepsWord (disk_history history last)
    → (left : LeftSince (disk_history history last) (clock_of history first)
    (reads (now (later disk))))
    → FindsPrefix later disk (instant_of history first) all drives.ends out.stopped
    (instant_of history last) left.at
