-- What a turn may do. It takes the first whole message of each open connection, in rising
-- connection number, and runs them one after the other. Done: the world is the last step's, and the
-- replies are theirs. Undone, which only want of memory, of a greater generation or of a free page
-- makes it: the state is the one before, every reply is the refusal that says of what, and cursors
-- that were opened, advanced or killed are closed. A fault at a connection's front closes it, done
-- or undone. Cut, where the device failed in the commit: the world is the last step's, no reply is
-- handed out, and no connection is closed. A message with moreToCome gets no reply, and replies
-- that are handed out are numbered 1, 2, 3 and so on for each connection.
use Rattle.op_msg.specs.ReplyNumbers.{next_number}
use Rattle.std.specs.Prelude.{◌≡◌, ◌⊎◌, ℕ, ◌+◌, Bool, true, false, nat_lt, if◌then◌else◌, List, []}
use Rattle.std.specs.Prelude.{◌∷◌, ◌++◌, length, Result, Ok, Err, Option, Some, None, OnErr}
use Rattle.bson.specs.Tree.{Pairs}
use Rattle.bson_bytes.specs.declared.fault.BsonFault.{BsonFault}
use Rattle.op_msg.specs.Frame.{Frame, front}
use Rattle.op_msg.specs.Request.{body_of, reply_bytes, is_waiting}
use Rattle.op_msg.specs.declared.fault.FrameFault.{FrameFault}
use Rattle.database_model.specs.World.{World, forget, after_commit, after_undo}
use Rattle.database_model.specs.Refusals.{refusal_reply}
use Rattle.database_model.specs.Step.{Answers, WroteNothing}
use Rattle.engine.specs.Laws.{BodyNeedsNoDisk, BodyOnlyReads, ForMemory}
use Rattle.path.specs.declared.refusal.Refusal.{Refusal}
use Rattle.path.specs.declared.refusal.Refusal.TheVariants as refusals
use Rattle.server.specs.ServerState.{ServerState}
use Rattle.server.specs.declared.connection.Connection.{Connection}
use Rattle.server.specs.declared.turn.TurnFault.{TurnFault}
use Rattle.server.specs.declared.turn.TurnFault.TheVariants as turns

-- What stands at the front of a connection: nothing where a fault closed it.
abbrev pub front_if_open : Option FrameFault → List ℕ → Result (Option (Frame × List ℕ)) FrameFault
front_if_open None bytes = front bytes
front_if_open (Some fault) bytes = Ok None

abbrev pub front_of : Connection → Result (Option (Frame × List ℕ)) FrameFault
front_of connection = front_if_open connection.fault connection.frames

-- a message that the turn takes: whose it is, and the message
pub record Call : Type 0 where
  pub connection : Connection
  pub frame : Frame

abbrev pub call_at : Connection → Result (Option (Frame × List ℕ)) FrameFault → List Call
call_at connection (Ok (Some x)) = record { connection = connection; frame = x.0 } ∷ []
call_at connection (Ok None) = []
call_at connection (Err fault) = []

-- the messages that a turn takes, in rising connection number
abbrev pub calls : List Connection → List Call
calls [] = []
calls (l ∷ ls) = call_at l (front_of l) ++ calls ls

-- a fault of a frame closes its connection
abbrev pub fault_at : Connection → Result (Option (Frame × List ℕ)) FrameFault
    → List (ℕ × FrameFault)
fault_at connection (Ok x) = []
fault_at connection (Err fault) = (connection.id, fault) ∷ []

abbrev pub faults : List Connection → List (ℕ × FrameFault)
faults [] = []
faults (l ∷ ls) = fault_at l (front_of l) ++ faults ls

-- a message that wants no reply draws no number
abbrev pub number_after : Bool → ℕ → ℕ
number_after true last = last
number_after false last = next_number last

-- a connection after the turn
abbrev pub connection_at : Connection → Result (Option (Frame × List ℕ)) FrameFault → Connection
connection_at connection (Ok (Some x)) = record connection {
  frames = x.1;
  last_reply = number_after x.0.more_to_come connection.last_reply;
}
connection_at connection (Ok None) = connection
connection_at connection (Err fault) = record connection { fault = Some fault }

abbrev pub connection_after : Connection → Connection
connection_after connection = connection_at connection (front_of connection)

-- the frame of a reply to a connection, by its number and the request's, unless none is wanted
abbrev pub frame_unless : Bool → ℕ → ℕ → ℕ → Pairs → List (ℕ × List ℕ)
frame_unless true id number request reply = []
frame_unless false id number request reply = (id, reply_bytes number request reply) ∷ []

abbrev pub frame_for : Call → Pairs → List (ℕ × List ℕ)
frame_for call reply = frame_unless call.frame.more_to_come call.connection.id
    (next_number call.connection.last_reply) call.frame.number reply

abbrev pub frames_of : List Call → List Pairs → List (ℕ × List ℕ)
frames_of [] replies = []
frames_of (c ∷ cs) [] = []
frames_of (c ∷ cs) (r ∷ rs) = frame_for c r ++ frames_of cs rs

-- The calls may be answered so, one after the other, with these refusals beside the definition.
abbrev pub Runs : (World → Refusal → Type 0) → World → List Call → List Pairs → World → Type 0
Runs beside world [] [] new = new ≡ world
Runs beside world [] (r ∷ rs) new = ⊥
Runs beside world (c ∷ cs) [] new = ⊥
Runs beside world (c ∷ cs) (r ∷ rs) new =
    (mid : World) × Answers beside world c.connection.id (body_of c.frame) mid r
    × Runs beside mid cs rs new

-- ---- on any disk

-- the document that tells what a command came to
abbrev pub told : Result Pairs Refusal → Pairs
told (Ok reply) = reply
told (Err e) = refusal_reply e

-- A message is answered, whatever the disk gives: it comes to a reply, or to a refusal that leaves
-- the world as it was (which of the two isn't told by the document); a ping, a hello and what is
-- refused before it runs get the definition's answer, unless memory runs out.
pub record AnswersOnAnyDisk (world : World) (connection : ℕ) (body : Result Pairs BsonFault)
    (new : World) (reply : Pairs) : Type 0 where
  pub outcome : Result Pairs Refusal
  pub says : reply ≡ told outcome
  pub refused : OnErr outcome (new ≡ world)
  pub sure : BodyNeedsNoDisk body → Answers ForMemory world connection body new reply

-- The calls are answered so, one after the other.
abbrev pub RunsOnAnyDisk : World → List Call → List Pairs → World → Type 0
RunsOnAnyDisk world [] [] new = new ≡ world
RunsOnAnyDisk world [] (r ∷ rs) new = ⊥
RunsOnAnyDisk world (c ∷ cs) [] new = ⊥
RunsOnAnyDisk world (c ∷ cs) (r ∷ rs) new =
    (mid : World) × AnswersOnAnyDisk world c.connection.id (body_of c.frame) mid r
    × RunsOnAnyDisk mid cs rs new

-- Each of the messages that were answered so left the collections as they were: none changed them,
-- not even for a later one to change them back.
abbrev pub LeftCollections : (old : World) (cs : List Call) (replies : List Pairs) (new : World)
    → RunsOnAnyDisk old cs replies new → Type 0
LeftCollections old [] replies new h = Unit {0}
LeftCollections old (c ∷ cs) [] new h = Unit {0}
LeftCollections old (c ∷ cs) (r ∷ rs) new h =
    (h.0.collections ≡ old.collections) × LeftCollections h.0 cs rs new h.2

-- None of them wrote anything.
abbrev pub WroteNoneOnAnyDisk : (old : World) (cs : List Call) (replies : List Pairs) (new : World)
    → RunsOnAnyDisk old cs replies new → Type 0
WroteNoneOnAnyDisk old [] replies new h = Unit {0}
WroteNoneOnAnyDisk old (c ∷ cs) [] new h = Unit {0}
WroteNoneOnAnyDisk old (c ∷ cs) (r ∷ rs) new h =
    WroteNothing old (body_of c.frame) h.0 × WroteNoneOnAnyDisk h.0 cs rs new h.2

-- What the messages of a turn did is kept, by the number of the last commit before the turn and
-- after it: it is committed once, unless each of them left the collections as they were. Where none
-- of them wrote anything, nothing is committed, while the disk keeps its word. The worlds in
-- between are the run's, of which any disk says only that it leads from the first world to the
-- last: that a change which is changed back is committed too is said of the run as defined
-- (`DoneOnce`).
pub record IsCommitted (word : Type 0) (old : World) (cs : List Call) (replies : List Pairs)
    (last : World) (runs : RunsOnAnyDisk old cs replies last) (before after : ℕ) : Type 0 where
  pub once : LeftCollections old cs replies last runs ⊎ (after ≡ before + 1)
  pub none : word → WroteNoneOnAnyDisk old cs replies last runs → after ≡ before

-- ---- what is written

-- None of the messages that were answered so wrote anything.
abbrev pub WroteNone : (beside : World → Refusal → Type 0) (old : World) (cs : List Call)
    (replies : List Pairs) (new : World) → Runs beside old cs replies new → Type 0
WroteNone beside old [] replies new h = Unit {0}
WroteNone beside old (c ∷ cs) [] new h = Unit {0}
WroteNone beside old (c ∷ cs) (r ∷ rs) new h =
    WroteNothing old (body_of c.frame) h.0 × WroteNone beside h.0 cs rs new h.2

-- Each of the messages that were answered so left the collections as they were: none changed them,
-- not even for a later one to change them back.
abbrev pub LeftAll : (beside : World → Refusal → Type 0) (old : World) (cs : List Call)
    (replies : List Pairs) (new : World) → Runs beside old cs replies new → Type 0
LeftAll beside old [] replies new h = Unit {0}
LeftAll beside old (c ∷ cs) [] new h = Unit {0}
LeftAll beside old (c ∷ cs) (r ∷ rs) new h =
    (h.0.collections ≡ old.collections) × LeftAll beside h.0 cs rs new h.2

-- However the messages are answered, none of them writes anything.
abbrev pub ChangeNothing : (World → Refusal → Type 0) → World → List Call → Type 0
ChangeNothing beside world [] = Unit {0}
ChangeNothing beside world (c ∷ cs) =
    (mid : World) (reply : Pairs) → Answers beside world c.connection.id (body_of c.frame) mid reply
    → WroteNothing world (body_of c.frame) mid × ChangeNothing beside mid cs

abbrev pub ChangesNothing : (World → Refusal → Type 0) → ServerState → Type 0
ChangesNothing beside state = ChangeNothing beside state.world (calls state.connections)

-- Each message only reads, or is refused before it runs, as one that is no document is.
abbrev pub AllRead : List Call → Type 0
AllRead [] = Unit {0}
AllRead (c ∷ cs) = BodyOnlyReads (body_of c.frame) × AllRead cs

-- connections that a fault closed lose their cursors
abbrev pub forget_all : World → List (ℕ × FrameFault) → World
forget_all world [] = world
forget_all world (f ∷ fs) = forget_all (forget world f.0) fs

-- What a turn hands out: frames for connections, and the connections that it closed.
pub record Out : Type 0 where
  pub replies : List (ℕ × List ℕ)
  pub closed : List (ℕ × FrameFault)

-- What a turn hands out, whatever the replies say: one frame for each message that it takes, to the
-- connection that sent it, with the next number of its replies and the number of the message,
-- unless none is wanted; a fault at a connection's front closes it.
pub record HandsOut (state : ServerState) (out : Out) : Type 0 where
  pub replies : List Pairs
  pub one_each : length replies ≡ length (calls state.connections)
  pub is : out ≡ record {
    replies = frames_of (calls state.connections) replies;
    closed = faults state.connections;
  }

-- each call's reply in a turn that is undone
abbrev pub refused_calls : Refusal → List Call → List Pairs
refused_calls refusal [] = []
refused_calls refusal (c ∷ cs) = refusal_reply refusal ∷ refused_calls refusal cs

-- The messages of a turn are answered one after the other, whatever the disk gives. What they did
-- is kept and committed, and the frames have their answers; or it is taken back, each frame has
-- this refusal, and nothing is committed.
pub record RunsAndHandsOut (word : Type 0) (state : ServerState) (before : ℕ) (out : Out)
    (new : ServerState) (after : ℕ) : Type 0 where
  pub replies : List Pairs
  pub last : World
  pub runs : RunsOnAnyDisk state.world (calls state.connections) replies last
  pub ends : ((out.replies ≡ frames_of (calls state.connections) replies)
      × (new.world ≡ forget_all (after_commit last) (faults state.connections))
      × IsCommitted word state.world (calls state.connections) replies last runs before after)
      ⊎ ((refusal : Refusal)
      × ((refusal ≡ refusals.OutOfMemory) ⊎ (refusal ≡ refusals.Full))
      × (out.replies
      ≡ frames_of (calls state.connections) (refused_calls refusal (calls state.connections)))
      × (new.world
      ≡ forget_all (after_undo state.world.collections last) (faults state.connections))
      × (after ≡ before))

-- the connections after the turn
abbrev pub connections_after : List Connection → List Connection
connections_after [] = []
connections_after (l ∷ ls) = connection_after l ∷ connections_after ls

-- a connection of which the message at the front is taken, and a fault stays where it is
abbrev pub taken_at : Connection → Result (Option (Frame × List ℕ)) FrameFault → Connection
taken_at connection (Ok x) = connection_at connection (Ok x)
taken_at connection (Err fault) = connection

-- the connections after a turn that is cut
abbrev pub connections_taken : List Connection → List Connection
connections_taken [] = []
connections_taken (l ∷ ls) = taken_at l (front_of l) ∷ connections_taken ls

-- the frames of a turn that is undone
abbrev pub refused_frames : Refusal → List Connection → List (ℕ × List ℕ)
refused_frames refusal connections =
    frames_of (calls connections) (refused_calls refusal (calls connections))

-- The messages are taken, and answered so. Done: the world is the last step's.
pub record Done (beside : World → Refusal → Type 0) (state : ServerState) (out : Out)
    (new : ServerState) : Type 0 where
  pub replies : List Pairs
  pub last : World
  pub runs : Runs beside state.world (calls state.connections) replies last
  pub hands_out : out ≡ record {
    replies = frames_of (calls state.connections) replies;
    closed = faults state.connections;
  }
  pub leaves : new ≡ record {
    world = forget_all (after_commit last) (faults state.connections);
    connections = connections_after state.connections;
  }

-- Undone: the state is the one before, and each reply is this refusal: for want of room only where
-- a message has written something.
pub record Undone (beside : World → Refusal → Type 0) (state : ServerState) (refusal : Refusal)
    (out : Out)
    (new : ServerState) : Type 0 where
  pub replies : List Pairs
  pub last : World
  pub runs : Runs beside state.world (calls state.connections) replies last
  pub hands_out : out ≡ record {
    replies = refused_frames refusal state.connections;
    closed = faults state.connections;
  }
  pub leaves : new ≡ record {
    world = forget_all (after_undo state.world.collections last) (faults state.connections);
    connections = connections_after state.connections;
  }
  pub wrote : refusal ≡ refusals.Full
      → WroteNone beside state.world (calls state.connections) replies last runs → ⊥

-- A turn that answers: done, or undone for want of memory, or for want of room, by its cause.
abbrev pub Turns : (World → Refusal → Type 0) → (Refusal → Type 0) → ServerState → Out
    → ServerState → Type 0
Turns beside undone state out new =
    Done beside state out new
    ⊎ ((undone refusals.OutOfMemory × Undone beside state refusals.OutOfMemory out new)
    ⊎ (undone refusals.Full × Undone beside state refusals.Full out new))

-- What a turn that is done did is committed once, by the number of the last commit before it and
-- after it, unless each of its messages left the collections as they were; where none of them wrote
-- anything, nothing is committed.
pub record DoneOnce (beside : World → Refusal → Type 0) (state : ServerState) (out : Out)
    (new : ServerState) (done : Done beside state out new) (before after : ℕ) : Type 0 where
  pub once : LeftAll beside state.world (calls state.connections) done.replies done.last done.runs
      ⊎ (after ≡ before + 1)
  pub none : WroteNone beside state.world (calls state.connections) done.replies done.last done.runs
      → after ≡ before

-- A turn that answers, with its commit: one that is undone has none.
abbrev pub TurnsOnce : (World → Refusal → Type 0) → (Refusal → Type 0) → ServerState → Out
    → ServerState → ℕ → ℕ → Type 0
TurnsOnce beside undone state out new before after =
    ((done : Done beside state out new) × DoneOnce beside state out new done before after)
    ⊎ (((undone refusals.OutOfMemory × Undone beside state refusals.OutOfMemory out new)
    ⊎ (undone refusals.Full × Undone beside state refusals.Full out new)) × (after ≡ before))

-- Cut: the messages are taken and ran, no reply is handed out, and no connection is closed.
pub record Cut (beside : World → Refusal → Type 0) (state new : ServerState) : Type 0 where
  pub replies : List Pairs
  pub last : World
  pub runs : Runs beside state.world (calls state.connections) replies last
  pub leaves : new
      ≡ record { world = after_commit last; connections = connections_taken state.connections }

-- A turn that answers no messages, by its fault and whether the server had stopped before. A server
-- that had stopped changes nothing. One that had not stops where the turn is cut, while the disk
-- kept its word, and changes nothing where memory runs out before a message is taken.
abbrev pub TurnFails : Type 0 → (World → Refusal → Type 0) → ServerState → TurnFault → Bool
    → ServerState → Type 0
TurnFails kept beside state turns.Stopped true new = new ≡ state
TurnFails kept beside state turns.Stopped false new = kept → Cut beside state new
TurnFails kept beside state turns.Memory true new = ⊥
TurnFails kept beside state turns.Memory false new = new ≡ state

-- a message or a fault stands at the front of the open connection
abbrev pub is_waiting_in : Option Connection → Bool
is_waiting_in None = false
is_waiting_in (Some connection) = is_waiting (front_of connection)
