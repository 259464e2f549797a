-- What drivers are answered to a write of several statements: done as a whole, or asked for each
-- statement by itself.
use Rattle.std.specs.Prelude.{◌≡◌, ℕ, zero, suc, Bool, Ok, All}
use Rattle.bson.specs.Edits.{items_len}
use Rattle.bson.specs.Lawful.{IsDocument}
use Rattle.bson.specs.Tree.{Pairs}
use Rattle.command_model.specs.Command.{Command, command_of}
use Rattle.database_model.specs.Lawful.{IsHeld}
use Rattle.database_model.specs.Step.{run, step}
use Rattle.database_model.specs.World.{World}
use Rattle.driver_replies.specs.declared.batch.Batch.{Batch}
use Rattle.drivers.specs.Answering.{answered, plan_for, statement_step}
use Rattle.drivers.specs.Laws.{done}
use Rattle.drivers.specs.declared.plan.Plan.{Plan}
use Rattle.drivers.specs.declared.plan.Wait.TheVariants as waits
use Rattle.drivers.specs.declared.server_info.ServerInfo.{ServerInfo}
use Rattle.drivers.specs.declared.step.Step.{Step}
use Rattle.drivers.specs.declared.step.Step.TheVariants as steps

-- the database has replied: the world then, and what the translation does next
abbrev pub heard : World × Pairs → Plan → World × (Plan × Step)
heard x plan = (x.0, answered plan x.1)

-- a question to the database, if one is asked
abbrev pub asked_on : ℕ → World → Plan → Step → World × (Plan × Step)
asked_on connection world plan (steps.Ask command) =
    heard (step world connection (Ok command)) plan
asked_on connection world plan other = (world, (plan, other))

-- so many questions, one after the other, with no other between
abbrev pub asked_each : ℕ → ℕ → World × (Plan × Step) → World × (Plan × Step)
asked_each zero connection x = x
asked_each (suc n) connection x =
    asked_each n connection (asked_on connection x.0 x.1.0 x.1.1)

-- A driver's message of a write is asked as a whole, and the database does it: had each of its
-- statements been asked by itself, the world and the answer would be the same.
abbrev pub AnsweredAlike : Type 0
AnsweredAlike = (world new : World) (connection : ℕ) (info : ServerInfo) (more : Bool)
    (body command : Pairs) (batch : Batch) (c : Command) (reply : Pairs)
    → done info body ≡ steps.Ask command
    → (plan_for info.ids more body).wait ≡ waits.Batch batch
    → IsDocument command → command_of command ≡ Ok c → All IsHeld world.collections
    → run world connection c ≡ Ok (new, reply)
    → asked_each (items_len batch.left) connection
    (world, statement_step (plan_for info.ids more body) batch)
    ≡ heard (step world connection (Ok command)) (plan_for info.ids more body)
