-- What a socket gets of a front. Its messages are those at the front of all the bytes that came on
-- it, one after the other; for each the server is asked what crate drivers says, by what the server
-- replied before; and what is handed out are the answers that these replies make, in the order of
-- the messages, one of each that wants one.
use Rattle.std.specs.Prelude.{◌≡◌, ◌⊎◌, ℕ, Bool, true, false, List, [], ◌∷◌, ◌++◌, drop}
use Rattle.std.specs.Prelude.{Option, Result, Some, None, option_to_list, Ok}
use Rattle.std.specs.List.{Contains}
use Rattle.bson.specs.Tree.{Pairs}
use Rattle.op_msg.specs.Request.{document_in}
use Rattle.driver_messages.specs.Cutting.{Begins}
use Rattle.driver_messages.specs.declared.message.Message.{Message}
use Rattle.drivers.specs.Answering.{answered}
use Rattle.drivers.specs.Asked.{after_replies, begun}
use Rattle.drivers.specs.Framing.{framed}
use Rattle.drivers.specs.Laws.{asked_by}
use Rattle.drivers.specs.declared.plan.Plan.{Plan}
use Rattle.drivers.specs.declared.server_info.ServerInfo.{ServerInfo}
use Rattle.drivers.specs.declared.step.Step.{Step}
use Rattle.server.specs.Streams.{connection_in}
use Rattle.server.specs.View.{out_of, state}
use Rattle.server.specs.declared.turn.Core.{Core}
use Rattle.server.specs.declared.turn.TurnFault.{TurnFault}
use Rattle.server.specs.declared.turn.TurnOut.{TurnOut}
use Rattle.driver_sockets.specs.Questions.{kept_plan, question_bytes}
use Rattle.driver_sockets.specs.Lending.{borrower, loan_at}
use Rattle.front.specs.OneSocket.{is_long}
use Rattle.driver_sockets.specs.Replying.{long_reply, question_by, told}
use Rattle.op_msg.specs.ReplyNumbers.{next_number}
use Rattle.front.specs.Unread.{HoldsUnread}
use Rattle.driver_sockets.specs.declared.job.Job.{Job}
use Rattle.driver_sockets.specs.declared.job.Question.{Question}
use Rattle.driver_sockets.specs.declared.job.Stage.{Stage}
use Rattle.driver_sockets.specs.declared.job.Stage.TheVariants as stages
use Rattle.driver_sockets.specs.declared.lending.Loan.{Loan}
use Rattle.driver_sockets.specs.declared.socket.Socket.{Socket}

-- ---- a message of a socket

-- What was known of the server when it was begun, and the replies that came since to what was asked
-- for it.
pub record Worked : Type 0 where
  pub info : ServerInfo
  pub message : Message
  pub replies : List Pairs

-- what is kept of it, and what is done next
abbrev pub standing : Worked → Plan × Step
standing w = after_replies (begun w.info w.message) w.replies

-- its answer behind a reply of this number, once there is one
abbrev pub answer_behind : ℕ → Worked → Option (List ℕ)
answer_behind last w =
    framed w.message.form (next_number last) w.message.number (told (standing w).1)

-- ---- all of them, of which the latest stands first

abbrev pub messages_of : List Worked → List Message
messages_of [] = []
messages_of (w ∷ earlier) = messages_of earlier ++ w.message ∷ []

abbrev pub number_behind : ℕ → Option (List ℕ) → ℕ
number_behind last None = last
number_behind last (Some frame) = next_number last

-- the number of the last answer
abbrev pub last_number : List Worked → ℕ
last_number [] = 0
last_number (w ∷ earlier) =
    let last = last_number earlier in number_behind last (answer_behind last w)

-- the answers, in the order of their messages
abbrev pub answers_of : List Worked → List (List ℕ)
answers_of [] = []
answers_of (w ∷ earlier) =
    answers_of earlier ++ option_to_list (answer_behind (last_number earlier) w)

-- ---- what was asked, and the replies

-- A turn of the server: what its connections were lent for, the server before it, what came of it,
-- and the server behind it.
pub record ServerTurn (D : Type 0) : Type 0 where
  pub loans : List (Option Loan)
  pub old : Core D
  pub result : Result TurnOut TurnFault
  pub new : Core D

-- In one of these turns this question stood alone on a connection that was lent to the socket of
-- this number, and what the turn handed out for that connection has this document.
pub record CameBack {D : Type 0} (turns : List (ServerTurn D)) (n : ℕ)
    (question reply : Pairs) : Type 0 where
  pub turn : ServerTurn D
  pub made : Contains turns turn
  pub out : TurnOut
  pub answered : turn.result ≡ Ok out
  pub id : ℕ
  pub lent : borrower (loan_at turn.loans id) ≡ Some n
  pub stood : HoldsUnread (question_bytes question) (connection_in (state turn.old).connections id)
  pub frame : List ℕ
  pub replied : Contains (out_of out).replies (id, frame)
  pub reads : document_in (drop 21 frame) ≡ Ok reply

-- Where a question has no room in a message, the refusal that says so takes a reply's place.
abbrev pub IsReplyTo : {D : Type 0} → List (ServerTurn D) → ℕ → Option Pairs → Pairs → Type 0
IsReplyTo turns n None reply = ⊥
IsReplyTo turns n (Some question) reply =
    ((is_long question ≡ true) × (reply ≡ long_reply)) ⊎ CameBack turns n question reply

-- Each is a reply to what was asked then.
abbrev pub AreReplies : {D : Type 0} → List (ServerTurn D) → ℕ → Plan × Step → List Pairs
    → Type 0
AreReplies turns n x [] = Unit {0}
AreReplies turns n x (reply ∷ later) =
    IsReplyTo turns n (asked_by x.1) reply × AreReplies turns n (answered x.0 reply) later

abbrev pub AllAreReplies : {D : Type 0} → List (ServerTurn D) → ℕ → List Worked → Type 0
AllAreReplies turns n [] = Unit {0}
AllAreReplies turns n (w ∷ earlier) =
    AreReplies turns n (begun w.info w.message) w.replies × AllAreReplies turns n earlier

-- ---- where they stand

-- Nothing is asked for them any more.
abbrev pub HaveEnded : List Worked → Type 0
HaveEnded [] = Unit {0}
HaveEnded (w ∷ earlier) = (question_by (standing w).1 ≡ None) × HaveEnded earlier

-- this is to be asked, or something was asked
abbrev pub IsAt : Question → Stage → Type 0
IsAt question (stages.Asks next) = next ≡ question
IsAt question stages.Waits = Unit {0}

-- The message is worked on, and what it asks next is to be asked, or was.
pub record IsWorkedOn (w : Worked) (job : Job) : Type 0 where
  pub form : job.form ≡ w.message.form
  pub number : job.number ≡ w.message.number
  pub plan : kept_plan job ≡ (standing w).0
  pub question : Question
  pub next : question_by (standing w).1 ≡ Some question
  pub at : IsAt question job.stage

-- The latest is worked on, and all before it have ended. Where none is, all have; but the latest of
-- a socket that is to be closed needn't.
abbrev pub Stand : Option Job → Bool → List Worked → Type 0
Stand (Some job) is_over [] = ⊥
Stand (Some job) is_over (w ∷ earlier) = IsWorkedOn w job × HaveEnded earlier
Stand None false worked = HaveEnded worked
Stand None true [] = Unit {0}
Stand None true (w ∷ earlier) = HaveEnded earlier

-- The socket of this number, on which these bytes came, and for which these frames were handed out,
-- where these were the server's turns.
pub record IsServed {D : Type 0} (turns : List (ServerTurn D)) (n : ℕ) (bytes : List ℕ)
    (given : List (List ℕ)) (socket : Socket) : Type 0 where
  pub worked : List Worked
  -- its messages stand at the front of the bytes, and what follows them waits, unless it is to be
  -- closed
  pub rest : List ℕ
  pub begins : Begins bytes (messages_of worked) rest
  pub waits : socket.is_over ≡ false → socket.incoming ≡ rest
  pub replies : AllAreReplies turns n worked
  pub stand : Stand socket.job socket.is_over worked
  pub answers : given ≡ answers_of worked
  pub numbered : socket.last_reply ≡ last_number worked
  pub none_ready : socket.answer ≡ None
