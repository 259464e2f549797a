-- What is to be asked of the server for a socket's message.
use Rattle.std.specs.Prelude.{◌≡◌, ℕ, List, Result, Ok, Err, Option, Some, None, option_map}
use Rattle.bson.specs.Tree.{Pairs}
use Rattle.op_msg.specs.Request.{reply_bytes}
use Rattle.driver_messages.specs.Incoming.{next_message}
use Rattle.driver_messages.specs.declared.message.Message.{Message}
use Rattle.driver_messages.specs.declared.stream_fault.StreamFault.{StreamFault}
use Rattle.drivers.specs.Answering.{with_asked}
use Rattle.drivers.specs.Laws.{asked_by}
use Rattle.drivers.specs.Starting.{started}
use Rattle.drivers.specs.declared.plan.Plan.{Plan}
use Rattle.drivers.specs.declared.server_info.ServerInfo.{ServerInfo}
use Rattle.driver_sockets.specs.declared.job.Job.{Job}
use Rattle.driver_sockets.specs.declared.job.Question.{Question}
use Rattle.driver_sockets.specs.declared.job.Stage.{Stage}
use Rattle.driver_sockets.specs.declared.job.Stage.TheVariants as stages
use Rattle.driver_sockets.specs.declared.socket.Socket.{Socket}

-- ---- what is wanted

abbrev pub question_at : Stage → Option Pairs
question_at (stages.Asks question) = Some question.command
question_at stages.Waits = None

-- the command that is to be asked for the message that is worked on
abbrev pub question_in : Option Job → Option Pairs
question_in None = None
question_in (Some job) = question_at job.stage

-- the command that is asked first for the message at the front
abbrev pub first_question : ServerInfo → Result (Option (Message × List ℕ)) StreamFault
    → Option Pairs
first_question info (Ok (Some x)) = asked_by (started info x.0)
first_question info (Ok None) = None
first_question info (Err fault) = None

abbrev pub wanted_by : ServerInfo → List ℕ → Option Job → Option Pairs
wanted_by info bytes None = first_question info (next_message bytes)
wanted_by info bytes (Some job) = question_at job.stage

-- The command that is to be asked for a socket: for the message that it works on, or, where it
-- works on none, for the one at the front of its bytes.
abbrev pub wanted : ServerInfo → Socket → Option Pairs
wanted info socket = wanted_by info socket.incoming socket.job

-- what is to be asked, if something is, is this
abbrev pub IsNoOther : Option Pairs → Option Pairs → Type 0
IsNoOther None what = Unit {0}
IsNoOther (Some command) what = what ≡ Some command

-- what is to be asked for the message that is worked on
abbrev pub pending_at : Stage → Option Question
pending_at (stages.Asks question) = Some question
pending_at stages.Waits = None

abbrev pub pending : Option Job → Option Question
pending None = None
pending (Some job) = pending_at job.stage

-- ---- what is asked

-- a command as a message: number 1, which answers none, without flags, so that a reply is wanted,
-- with one body
abbrev pub question_bytes : Pairs → List ℕ
question_bytes command = reply_bytes 1 0 command

-- what is kept of a message that is worked on, with what is to be asked for it
abbrev pub plan_at : Stage → Plan → Plan
plan_at (stages.Asks question) plan = with_asked plan question.command
plan_at stages.Waits plan = plan

abbrev pub kept_plan : Job → Plan
kept_plan job = plan_at job.stage job.plan

-- it was asked, and the reply is awaited
abbrev pub waiting_job : Job → Job
waiting_job job = record job { plan = kept_plan job; stage = stages.Waits }

abbrev pub waiting : Socket → Socket
waiting socket = record socket { job = option_map waiting_job socket.job }
