-- A history: a list of chunks of bytes, turns and ends of connections, and what comes of it. Its
-- output for a connection is its frames in the order in which the turns handed them out. Its turns'
-- ends are the moments at which they answered, each with the collections then, in order.
use Rattle.std.specs.Prelude.{◌≡◌, ◌⊎◌, ◌-◌, ◌^◌, ℕ, suc, ◌==◌, if◌then◌else◌, List, [], ◌∷◌}
use Rattle.std.specs.Prelude.{◌++◌}
use Rattle.server.specs.ServerState.{ServerState, fed, ended}
use Rattle.path.specs.declared.refusal.Refusal.{Refusal}
use Rattle.path.specs.declared.refusal.Refusal.TheVariants as refusals
use Rattle.server.specs.Turn.{Out, Turns}
use Rattle.server.specs.Moment.{Moment, TurnEnd}
use Rattle.server.specs.Causes.{FoundNoPage, IsCaused}
use Rattle.server.specs.declared.step.Step.{Step}
use Rattle.server.specs.declared.step.Step.TheVariants as steps

-- Between these moments a commit finds no greater generation, or no page was free, which is
-- counted.
abbrev pub FindsNoRoom : Moment → Moment → Type 0
FindsNoRoom old new = (old.generation ≡ 2 ^ 64 - 1) ⊎ FoundNoPage old new

-- Why all of a turn is undone and refused so, by its first and its last moment: for want of memory,
-- or of room by its cause. It commits nothing.
abbrev pub TakenBack : Moment → Moment → Refusal → Type 0
TakenBack old new refusals.OutOfMemory = new.generation ≡ old.generation
TakenBack old new refusals.Full = (new.generation ≡ old.generation) × FindsNoRoom old new
TakenBack old new other = ⊥

-- From this moment and state on, after these steps the server may be this one, the frames that were
-- handed out these, each with its connection, in order, and the turns' ends these.
abbrev pub Happens : Moment → ServerState → List Step → List (ℕ × List ℕ) → List TurnEnd
    → ServerState → Type 0
Happens at state [] given ends new = (given ≡ []) × (ends ≡ []) × (new ≡ state)
Happens at state (steps.Bytes id chunk ∷ later) given ends new =
    Happens at (fed state id chunk.items) later given ends new
Happens at state (steps.Gone id ∷ later) given ends new =
    Happens at (ended state id) later given ends new
Happens at state (steps.Turn ∷ later) given ends new =
    (mid : ServerState) × (out : Out) × (others : List (ℕ × List ℕ)) × (end : TurnEnd)
    × (more : List TurnEnd)
    × Turns (IsCaused at end.at) (TakenBack at end.at) state out mid
    × (end.collections ≡ mid.world.collections)
    × (given ≡ out.replies ++ others) × (ends ≡ end ∷ more)
    × Happens end.at mid later others more new

-- the bytes for a connection
abbrev pub bytes_to : ℕ → List (ℕ × List ℕ) → List ℕ
bytes_to id [] = []
bytes_to id (f ∷ fs) = if f.0 == id then f.1 ++ bytes_to id fs else bytes_to id fs

abbrev pub turns_in : List Step → ℕ
turns_in [] = 0
turns_in (steps.Turn ∷ later) = suc (turns_in later)
turns_in (steps.Bytes id chunk ∷ later) = turns_in later
turns_in (steps.Gone id ∷ later) = turns_in later
