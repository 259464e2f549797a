-- What becomes of a socket's message: it is asked next, or its answer is ready, or it has none.
use Rattle.op_msg.specs.ReplyNumbers.{next_number}
use Rattle.std.specs.Prelude.{◌≡◌, ◌⊎◌, ◌<◌, ℕ, Bool, true, false, nat_le, List}
use Rattle.std.specs.Prelude.{length, drop, slice_index_or, option_map, Result, Ok, Err, Option}
use Rattle.std.specs.Prelude.{Some, None, Vec, if◌then◌else◌}
use Rattle.bson.specs.Spelling.{frame_of, pairs_bytes}
use Rattle.bson.specs.Tree.{Pairs}
use Rattle.op_msg.specs.Request.{document_in}
use Rattle.driver_messages.specs.declared.message.Form.{Form}
use Rattle.driver_messages.specs.declared.message.Message.{Message}
use Rattle.driver_messages.specs.declared.stream_fault.StreamFault.{StreamFault}
use Rattle.drivers.specs.Answering.{answered, first_plan}
use Rattle.drivers.specs.Framing.{framed}
use Rattle.drivers.specs.Starting.{started}
use Rattle.drivers.specs.declared.plan.Plan.{Plan}
use Rattle.drivers.specs.declared.server_info.ServerInfo.{ServerInfo}
use Rattle.drivers.specs.declared.step.Step.{Step}
use Rattle.drivers.specs.declared.step.Step.TheVariants as steps
use Rattle.database_model.specs.Refusals.{refusal_reply}
use Rattle.path.specs.declared.refusal.Refusal.TheVariants as refusals
use Rattle.driver_sockets.specs.Questions.{kept_plan}
use Rattle.driver_sockets.specs.declared.job.Job.{Job}
use Rattle.driver_sockets.specs.declared.job.Question.{Question}
use Rattle.driver_sockets.specs.declared.job.Stage.TheVariants as stages
use Rattle.driver_sockets.specs.declared.socket.Socket.{Socket}

-- ---- the frame of an answer

-- the most bytes of an answer's document: 36 others stand in an OP_REPLY
abbrev pub most_bytes : ℕ
most_bytes = 1048540

abbrev pub has_room : Step → Bool
has_room (steps.Ask command) = true
has_room (steps.AskOwner id command) = true
has_room (steps.Reply reply) = nat_le (length (frame_of (pairs_bytes reply))) most_bytes
has_room (steps.Fail reply) = nat_le (length (frame_of (pairs_bytes reply))) most_bytes
has_room steps.Silent = true

-- the refusal that says that something has no room in a message
abbrev pub long_reply : Pairs
long_reply = refusal_reply refusals.BSONObjectTooLarge

abbrev pub too_large : Step
too_large = steps.Reply long_reply

-- what is told: an answer, or, where it has no room in a message, the refusal that says so
abbrev pub told : Step → Step
told step = if has_room step then step else too_large

-- These bytes are the frame by which a message of this form and number is answered, if it is, with
-- a number of its own.
abbrev pub IsFramed : {Z : Type 0} → Form → ℕ → ℕ → Step → Option (Vec ℕ Z) → Type 0
IsFramed form number request step bytes =
    option_map (λ v. v.items) bytes ≡ framed form number request (told step)

-- ---- a socket

abbrev pub closed : Socket → Socket
closed socket = record socket { is_over = true }

-- the answer with the next number is ready
pub record IsReady (old : Socket) (frame : List ℕ) (new : Socket) : Type 0 where
  pub ready : option_map (λ v. v.items) new.answer ≡ Some frame
  pub rest : new ≡ record old { answer = new.answer; last_reply = next_number old.last_reply }

-- it is, or there is none
abbrev pub HasAnswer : Socket → Option (List ℕ) → Socket → Type 0
HasAnswer old None new = new ≡ old
HasAnswer old (Some frame) new = IsReady old frame new

abbrev pub IsAnswered : Socket → Form → ℕ → Step → Socket → Type 0
IsAnswered old form request step new =
    HasAnswer old (framed form (next_number old.last_reply) request (told step)) new

-- what a step asks the database
abbrev pub question_by : Step → Option Question
question_by (steps.Ask command) = Some (record { cursor = None; command = command })
question_by (steps.AskOwner id command) = Some (record { cursor = Some id; command = command })
question_by (steps.Reply reply) = None
question_by (steps.Fail reply) = None
question_by steps.Silent = None

abbrev pub to_ask : Form → ℕ → Plan → Question → Job
to_ask form number plan question =
    record { form = form; number = number; plan = plan; stage = stages.Asks question }

-- A message of this form and number is to be asked this, or it is answered by this step.
abbrev pub GoesOn : Socket → Form → ℕ → Plan → Step → Option Question → Socket → Type 0
GoesOn old form number plan step (Some question) new =
    new ≡ record old { job = Some (to_ask form number plan question) }
GoesOn old form number plan step None new = IsAnswered old form number step new

abbrev pub Follows : Socket → Form → ℕ → Plan × Step → Socket → Type 0
Follows old form number x new = GoesOn old form number x.0 x.1 (question_by x.1) new

abbrev pub resting : Socket → Socket
resting socket = record socket { job = None }

-- The server has replied to the message that is worked on, if one is: what is done then is what its
-- plan says, with what was asked.
abbrev pub TakesReply : Socket → Option Job → Pairs → Socket → Type 0
TakesReply old None reply new = new ≡ resting old
TakesReply old (Some job) reply new =
    Follows (resting old) job.form job.number (answered (kept_plan job) reply) new

-- What is done first with a message.
abbrev pub Starts : ServerInfo → Socket → Message → Socket → Type 0
Starts info old message new =
    Follows old message.form message.number (first_plan info.ids message, started info message) new

-- What is done first with the message at the front. For a fault there the socket is to be closed.
abbrev pub BeginsWith : ServerInfo → Socket → Result (Option (Message × List ℕ)) StreamFault
    → Socket → Type 0
BeginsWith info old (Ok None) new = new ≡ old
BeginsWith info old (Ok (Some x)) new = Starts info (record old { incoming = x.1 }) x.0 new
BeginsWith info old (Err fault) new = new ≡ closed old

-- The same, if none is worked on and the socket isn't to be closed.
abbrev pub Begins : ServerInfo → Socket → Bool → Option Job
    → Result (Option (Message × List ℕ)) StreamFault → Socket → Type 0
Begins info old true job next new = new ≡ old
Begins info old false (Some job) next new = new ≡ old
Begins info old false None next new = BeginsWith info old next new

-- ---- where memory runs out

-- The socket is to be closed, and its message is worked on no more, if it was.
abbrev pub IsClosed : Socket → Socket → Type 0
IsClosed old new = (new ≡ closed old) ⊎ (new ≡ closed (resting old))

-- The message at the front is taken by a later turn; or it was taken, and the socket is to be
-- closed.
abbrev pub WaitsOrCloses : Socket → Result (Option (Message × List ℕ)) StreamFault → Socket
    → Type 0
WaitsOrCloses old (Ok (Some x)) new =
    (new ≡ old) ⊎ (new ≡ closed (record old { incoming = x.1 }))
WaitsOrCloses old (Ok None) new = new ≡ old
WaitsOrCloses old (Err fault) new = new ≡ old

-- ---- among the sockets

-- the socket that a connection was lent to, if it is there, becomes this
abbrev pub Becomes : List Socket → Option ℕ → (Socket → Socket → Type 0) → List Socket → Type 0
Becomes old socket goes new = (n : ℕ) (any : Socket) → socket ≡ Some n → n < length old
    → goes (slice_index_or old n any) (slice_index_or new n any)

-- A frame came back for it: its message goes on with the frame's document.
abbrev pub TakesDocument : List ℕ → Socket → Socket → Type 0
TakesDocument frame old new =
    (reply : Pairs) × (document_in (drop 21 frame) ≡ Ok reply) × TakesReply old old.job reply new

abbrev pub TakesFrame : List ℕ → List Socket → Option ℕ → List Socket → Type 0
TakesFrame frame old socket new = Becomes old socket (TakesDocument frame) new
