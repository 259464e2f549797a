-- What a message asks of the database, one question after the other, and how it ends, by what the
-- database replies. However that is, a message that wants an answer is asked next or answered, and
-- one that wants none (OP_MSG, moreToCome) is never answered.
use Rattle.std.specs.Prelude.{◌≡◌, ℕ, Bool, true, false, List, [], ◌∷◌, ◌++◌, option_to_list}
use Rattle.std.specs.Prelude.{is_none, Some, None, Ok}
use Rattle.bson.specs.Tree.{Tree, Pairs, pair, append}
use Rattle.driver_messages.specs.declared.message.Form.TheVariants as forms
use Rattle.driver_messages.specs.declared.message.Message.{Message}
use Rattle.drivers.specs.Answering.{answered, first_plan, plan_of, with_asked}
use Rattle.driver_fields.specs.Cleaning.{is_kept, field_fault, first_refused}
use Rattle.driver_fields.specs.Commands.{command_of}
use Rattle.drivers.specs.Laws.{asked_by}
use Rattle.driver_fields.specs.Rules.{rule_of}
use Rattle.drivers.specs.Starting.{name_of, started}
use Rattle.driver_fields.specs.declared.cleaning.Whose.TheVariants as whoses
use Rattle.driver_fields.specs.declared.command.Asked.{Asked}
use Rattle.driver_fields.specs.declared.command.Command.TheVariants as commands
use Rattle.drivers.specs.declared.plan.Plan.{Plan}
use Rattle.driver_fields.specs.declared.reason.Reason.{Reason}
use Rattle.drivers.specs.declared.server_info.ServerInfo.{ServerInfo}
use Rattle.drivers.specs.declared.step.Step.{Step}
use Rattle.drivers.specs.declared.step.Step.TheVariants as steps

-- What is kept before a question is asked, with the question. Behind a reply no more of it is kept.
pub record KeepsWhatIsAsked : Type 0 where
  pub first : (info : ServerInfo) (message : Message) (command : Pairs)
      → asked_by (started info message) ≡ Some command
      → with_asked (first_plan info.ids message) command ≡ plan_of info.ids message
  pub later : (plan : Plan) (reply command : Pairs)
      → with_asked (answered plan reply).0 command ≡ (answered plan reply).0

-- what is kept of a message once it is asked, and what is done first with it
abbrev pub begun : ServerInfo → Message → Plan × Step
begun info message = (plan_of info.ids message, started info message)

-- the same, once the database has replied so, one reply after the other
abbrev pub after_replies : Plan × Step → List Pairs → Plan × Step
after_replies x [] = x
after_replies x (reply ∷ replies) = after_replies (answered x.0 reply) replies

-- the questions that were replied to, and the one that is asked next, if one is
abbrev pub asked_from : Plan × Step → List Pairs → List Pairs
asked_from x [] = option_to_list (asked_by x.1)
asked_from x (reply ∷ replies) =
    option_to_list (asked_by x.1) ++ asked_from (answered x.0 reply) replies

abbrev pub asked_for : ServerInfo → Message → List Pairs → List Pairs
asked_for info message replies = asked_from (begun info message) replies

-- Of a message that wants no answer, or of one that does: it is asked, or it ends as is wanted.
abbrev pub EndsAsWanted : Bool → Step → Type 0
EndsAsWanted more (steps.Ask command) = Unit {0}
EndsAsWanted more (steps.AskOwner id command) = Unit {0}
EndsAsWanted more (steps.Reply reply) = more ≡ false
EndsAsWanted more (steps.Fail reply) = more ≡ false
EndsAsWanted more steps.Silent = more ≡ true

abbrev pub IsHeardAsWanted : Type 0
IsHeardAsWanted = (info : ServerInfo) (message : Message) (replies : List Pairs)
    → EndsAsWanted message.more_to_come (after_replies (begun info message) replies).1

-- ---- a command as a message (OP_MSG)

abbrev pub message_of : ℕ → Bool → Pairs → Message
message_of number more body =
    record { number = number; form = forms.Message; more_to_come = more; body = Ok body }

-- One that is refused in front asks nothing.
abbrev pub RefusedAsksNothing : Type 0
RefusedAsksNothing = (info : ServerInfo) (number : ℕ) (more : Bool) (body : Pairs) (asked : Asked)
    (x : List ℕ × Reason) → command_of (name_of body) ≡ Some (commands.Forwarded asked)
    → first_refused asked body ≡ Some x → asked_for info (message_of number more body) [] ≡ []

-- The database is asked the same, and however it replies, they end in the same way.
pub record GoTheSame (info : ServerInfo) (a b : Message) : Type 0 where
  pub asks : (replies : List Pairs) → asked_for info a replies ≡ asked_for info b replies
  pub ends : (replies : List Pairs)
      → after_replies (begun info a) replies ≡ after_replies (begun info b) replies

-- A field behind the command's name that has a rule whatever the command is, and isn't refused,
-- makes no difference to what is asked, nor to the answer.
abbrev pub IgnoredGoesTheSame : Type 0
IgnoredGoesTheSame = (info : ServerInfo) (number : ℕ) (more : Bool) (command : List ℕ)
    (value : Tree) (before : Pairs) (name : List ℕ) (t : Tree) (behind : Pairs)
    → is_none (rule_of name) ≡ false
    → ((asked : Asked) → (is_kept (whoses.Command asked) name ≡ false)
    × (field_fault (whoses.Command asked) name t ≡ None))
    → GoTheSame info
    (message_of number more (pair command value (append before (pair name t behind))))
    (message_of number more (pair command value (append before behind)))
