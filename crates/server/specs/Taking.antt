-- The parts of a turn: what is made ready before a message is taken, what is taken from one
-- connection, and how the messages run.
use Rattle.std.specs.Prelude.{◌≡◌, ◌⊎◌, ◌≤◌, ◌+◌, ℕ, List, [], ◌∷◌, length, map, slice_get, All}
use Rattle.std.specs.Prelude.{Result, Ok, Err, Option, Some, None, ◌++◌, Bool, true}
use Rattle.op_msg.specs.Frame.{Frame}
use Rattle.op_msg.specs.Request.{IsRequest, respelled}
use Rattle.op_msg.specs.declared.fault.FrameFault.{FrameFault}
use Rattle.op_msg.specs.declared.request.Request.{Request}
use Rattle.bson.specs.Tree.{Pairs}
use Rattle.bson.specs.Spelling.{frame_of, pairs_bytes}
use Rattle.outcome.specs.Outcome.{Gives}
use Rattle.bson_bytes.specs.declared.fault.BsonFault.{BsonFault}
use Rattle.bson_bytes.specs.declared.fault.BsonFault.TheVariants as bson_faults
use Rattle.database_model.specs.World.{World, after_commit, after_undo}
use Rattle.database_model.specs.Refusals.{refusal_reply}
use Rattle.database_model.specs.Step.{Answers}
use Rattle.path.specs.declared.refusal.Refusal.{Refusal}
use Rattle.path.specs.declared.refusal.Refusal.TheVariants as refusals
use Rattle.server.specs.Turn.{Call, Runs, WroteNone, calls, call_at, frames_of, front_of}
use Rattle.server.specs.Turn.{refused_calls, refused_frames, taken_at, RunsOnAnyDisk}
use Rattle.op_msg.specs.ReplyNumbers.{next_number}
use Rattle.server.specs.Turn.{IsCommitted, LeftAll, LeftCollections, WroteNoneOnAnyDisk}
use Rattle.server.specs.declared.connection.Connection.{Connection}
use Rattle.server.specs.declared.connection.Taken.{Taken}
use Rattle.server.specs.declared.connection.Taken.TheVariants as takes

-- the frame that an undone turn hands out for a connection, by what stands at its front
abbrev pub refused_at : Refusal → Connection → Result (Option (Frame × List ℕ)) FrameFault
    → List (ℕ × List ℕ)
refused_at refusal connection front =
    frames_of (call_at connection front) (refused_calls refusal (call_at connection front))

-- the fault at the front of a connection, if one is there
abbrev pub fault_in : Result (Option (Frame × List ℕ)) FrameFault → Option FrameFault
fault_in (Ok x) = None
fault_in (Err fault) = Some fault

abbrev pub faults_in : List Connection → List (Option FrameFault)
faults_in [] = []
faults_in (l ∷ ls) = fault_in (front_of l) ∷ faults_in ls

-- a connection that this fault closes
abbrev pub closed_by : Connection → Option FrameFault → Connection
closed_by connection None = connection
closed_by connection (Some fault) = record connection { fault = Some fault }

-- the fault at this place
abbrev pub fault_or_none : Option (Option FrameFault) → Option FrameFault
fault_or_none None = None
fault_or_none (Some fault) = fault

abbrev pub fault_beside : List (Option FrameFault) → ℕ → Option FrameFault
fault_beside faults i = fault_or_none (slice_get faults i)

abbrev pub closed_connections : List Connection → List (Option FrameFault) → List Connection
closed_connections [] fs = []
closed_connections (l ∷ ls) [] = l ∷ closed_connections ls []
closed_connections (l ∷ ls) (f ∷ fs) = closed_by l f ∷ closed_connections ls fs

-- the document that says that there was no room
abbrev pub full_body : List ℕ
full_body = frame_of (pairs_bytes (refusal_reply refusals.Full))

-- the frames with that document in place of theirs
abbrev pub respelled_frames : List (ℕ × List ℕ) → List (ℕ × List ℕ)
respelled_frames frames = map (λ f. (f.0, respelled f.1 full_body)) frames

-- each frame is no shorter than one with that document
abbrev pub HaveRoom : List (ℕ × List ℕ) → Type 0
HaveRoom frames = All (λ f. length full_body + 21 ≤ length f.1) frames

-- The message at the front is taken, if there is one.
abbrev pub IsTaken : Connection → Result (Option (Frame × List ℕ)) FrameFault → Taken → Connection
    → Type 0
IsTaken old (Ok None) takes.Nothing new = new ≡ old
IsTaken old (Err fault) takes.Nothing new = new ≡ old
IsTaken old (Ok (Some x)) (takes.Call number request) new =
    (number ≡ next_number old.last_reply) × IsRequest x.0 request
    × (new ≡ taken_at old (Ok (Some x)))
IsTaken old front other new = ⊥

-- The calls were answered, one reply each, and at ok each frame was put at the end. While the word
-- is kept, they were answered so, and where none of them wrote anything, all is the same. At rest,
-- with no change to be committed, each of them left the collections as they were.
pub record Serves (word : Type 0) (beside : World → Refusal → Type 0) (same clean : Type 0)
    (calls : List Call) (old new : World) (ok : Bool) (given now : List (ℕ × List ℕ)) : Type 0 where
  pub replies : List Pairs
  pub one_each : length replies ≡ length calls
  pub runs : word → Runs beside old calls replies new
  pub wrote : (k : word) → WroteNone beside old calls replies new (runs k) → same
  pub frames : ok ≡ true → now ≡ given ++ frames_of calls replies
  pub anyhow : RunsOnAnyDisk old calls replies new
  pub wrote_none : word → WroteNoneOnAnyDisk old calls replies new anyhow → same
  pub left : clean → LeftCollections old calls replies new anyhow
  pub left_all : (k : word) → clean → LeftAll beside old calls replies new (runs k)

-- a request with this body, whatever frame it came in
abbrev pub IsAnswer : (World → Refusal → Type 0) → World → ℕ → Request → World → Pairs → Type 0
IsAnswer beside old id request new reply =
    (read : Result Pairs BsonFault) → Gives bson_faults.Memory (λ d. d) request.body read
    → Answers beside old id read new reply

-- the frames of a turn that is undone with this refusal, by its cause
abbrev pub RefusesAll : Type 0 → (Refusal → Type 0) → List Connection → List (ℕ × List ℕ) → Refusal
    → Type 0
RefusesAll word undone connections given refusal =
    (given ≡ refused_frames refusal connections) × (word → undone refusal)

-- The messages of the connections ran. The turn kept what they changed and hands out these replies,
-- or it took back what they changed and hands out refusals, for want of memory or of room.
-- What they were answered, and the cause, is said while the word is kept. The numbers are those of
-- the last commit before the turn and after it.
pub record EndsTurn (word : Type 0) (beside : World → Refusal → Type 0)
    (undone : Refusal → Type 0) (old : World) (before : ℕ) (connections : List Connection)
    (given : List (ℕ × List ℕ)) (new : World) (after : ℕ) : Type 0 where
  pub replies : List Pairs
  pub one_each : length replies ≡ length (calls connections)
  pub last : World
  pub runs : word → Runs beside old (calls connections) replies last
  pub anyhow : RunsOnAnyDisk old (calls connections) replies last
  pub ends : ((given ≡ frames_of (calls connections) replies) × (new ≡ after_commit last)
      × IsCommitted word old (calls connections) replies last anyhow before after
      × ((k : word) → LeftAll beside old (calls connections) replies last (runs k)
      ⊎ (after ≡ before + 1))
      × ((k : word) → WroteNone beside old (calls connections) replies last (runs k)
      → after ≡ before))
      ⊎ ((RefusesAll word undone connections given refusals.OutOfMemory
      ⊎ (RefusesAll word undone connections given refusals.Full
      × ((k : word) → WroteNone beside old (calls connections) replies last (runs k) → ⊥)))
      × (new ≡ after_undo old.collections last) × (after ≡ before))

-- The messages of the connections ran, and the device failed when what they changed was to be made
-- durable.
pub record BreaksTurn (beside : World → Refusal → Type 0) (old : World)
    (connections : List Connection)
    (new : World) : Type 0 where
  pub replies : List Pairs
  pub last : World
  pub runs : Runs beside old (calls connections) replies last
  pub ends : new ≡ after_commit last
