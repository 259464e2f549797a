-- Laws of what is asked of the database.
use Rattle.std.specs.Prelude.{◌≡◌, ℕ, Bool, false, is_none, List, Option, Some, None}
use Rattle.bson.specs.Tree.{Tree, document, Pairs, pair, append}
use Rattle.driver_replies.specs.Writes.{batch_of, write_of}
use Rattle.driver_replies.specs.declared.batch.Batch.{Batch}
use Rattle.driver_fields.specs.Cleaning.{is_kept, field_fault, entry_fault, kept_entry}
use Rattle.driver_fields.specs.Cleaning.{first_refused}
use Rattle.driver_fields.specs.Cleaning.{kept}
use Rattle.drivers.specs.Starting.{ask, do_command, name_of}
use Rattle.drivers.specs.Answering.{plan_for}
use Rattle.driver_fields.specs.Rules.{rule_of}
use Rattle.driver_fields.specs.Commands.{command_of}
use Rattle.driver_replies.specs.declared.fresh_ids.FreshIds.{FreshIds}
use Rattle.drivers.specs.declared.server_info.ServerInfo.{ServerInfo}
use Rattle.driver_fields.specs.declared.cleaning.Whose.{Whose}
use Rattle.driver_fields.specs.declared.cleaning.Whose.TheVariants as whoses
use Rattle.driver_fields.specs.declared.command.Asked.{Asked}
use Rattle.driver_fields.specs.declared.command.Command.TheVariants as commands
use Rattle.drivers.specs.declared.plan.Wait.TheVariants as waits
use Rattle.drivers.specs.declared.step.Step.{Step}
use Rattle.drivers.specs.declared.step.Step.TheVariants as steps

-- what is done with a command
abbrev pub done : ServerInfo → Pairs → Step
done info body = do_command (command_of (name_of body)) (name_of body) info body

-- what a step asks of the database
abbrev pub asked_by : Step → Option Pairs
asked_by (steps.Ask body) = Some body
asked_by (steps.AskOwner cursor body) = Some body
asked_by (steps.Reply reply) = None
asked_by (steps.Fail reply) = None
asked_by steps.Silent = None

-- Something is asked of the database only if the command is one for it and no field of it is
-- refused. It is made of the command without the fields that the database doesn't have.
pub record Asks (ids : FreshIds) (body question : Pairs) : Type 0 where
  pub asked : Asked
  pub command : command_of (name_of body) ≡ Some (commands.Forwarded asked)
  pub taken : first_refused asked body ≡ None
  pub own_fields : asked_by (ask ids asked (kept asked body)) ≡ Some question

abbrev pub AsksOwnFields : Type 0
AsksOwnFields = (info : ServerInfo) (body question : Pairs)
    → asked_by (done info body) ≡ Some question → Asks info.ids body question

-- What is kept of a write, where its statements may be asked one by one, is made of the command
-- that was asked first, which is a write under the same name: so the documents of an insert have
-- the `_id`s that they had.
pub record AreOfCommand (ids : FreshIds) (command : Pairs) (batch : Batch) : Type 0 where
  pub named : write_of (name_of command) ≡ Some batch.write
  pub ordered : Bool
  pub made : batch_of batch.write ordered ids command ≡ batch

abbrev pub AsksSameStatements : Type 0
AsksSameStatements = (info : ServerInfo) (more : Bool) (body command : Pairs) (batch : Batch)
    → done info body ≡ steps.Ask command → (plan_for info.ids more body).wait ≡ waits.Batch batch
    → AreOfCommand info.ids command batch

-- A field behind the command's name that has a rule and isn't refused makes no difference to what
-- is done first.
abbrev pub IgnoredMakesNoDifference : Type 0
IgnoredMakesNoDifference = (info : ServerInfo) (command : List ℕ) (value : Tree) (before : Pairs)
    (name : List ℕ) (t : Tree) (behind : Pairs)
    → ((asked : Asked) → (is_kept (whoses.Command asked) name ≡ false)
    × (field_fault (whoses.Command asked) name t ≡ None))
    → done info (pair command value (append before (pair name t behind)))
    ≡ done info (pair command value (append before behind))

-- A field of an index or of a statement that has a rule and isn't refused makes no difference to
-- what is refused of that one, nor to what is kept of it to be asked.
abbrev pub IgnoredInEntries : Type 0
IgnoredInEntries = (whose : Whose) (before : Pairs) (name : List ℕ) (t : Tree) (behind : Pairs)
    → is_kept whose name ≡ false → field_fault whose name t ≡ None
    → (entry_fault whose (document (append before (pair name t behind)))
    ≡ entry_fault whose (document (append before behind)))
    × (kept_entry whose (document (append before (pair name t behind)))
    ≡ kept_entry whose (document (append before behind)))

-- A field behind the command's name that has a rule whatever the command is makes no difference to
-- what is kept for the database's reply, and so none to the answer.
abbrev pub IgnoredLeavesThePlan : Type 0
IgnoredLeavesThePlan =
    (ids : FreshIds) (more : Bool) (command : List ℕ) (value : Tree) (before : Pairs)
    (name : List ℕ) (t : Tree) (behind : Pairs)
    → is_none (rule_of name) ≡ false
    → plan_for ids more (pair command value (append before (pair name t behind)))
    ≡ plan_for ids more (pair command value (append before behind))
