-- Laws of the definitions.
use Rattle.std.specs.Prelude.{◌≡◌, ℕ, List, [], replicate, Result, Ok, Err}
use Rattle.bson.specs.Tree.{Pairs}
use Rattle.bson_bytes.specs.declared.fault.BsonFault.{BsonFault}
use Rattle.database_model.specs.World.{World, new_world}
use Rattle.entry_model.specs.State.{Collection}
use Rattle.collections.specs.Calls.{IsOfFile}
use Rattle.database_model.specs.Lawful.{IsLawful}
use Rattle.opening.specs.Holding.{HoldsCollections}
use Rattle.path.specs.declared.refusal.Refusal.{Refusal}
use Rattle.path.specs.declared.refusal.Refusal.TheVariants as refusals
use Rattle.command_model.specs.Command.{Command, ping, insert, find}
use Rattle.command_model.specs.Command.{count, delete, update, aggregate}
use Rattle.command_model.specs.Command.{create, drop}
use Rattle.command_model.specs.Command.{list_collections, create_indexes, drop_indexes}
use Rattle.command_model.specs.Command.{list_indexes, explain, command_of}
use Rattle.command_model.specs.Command.{get_more, kill_cursors, hello}
use Rattle.database_model.specs.Step.{step, Answers}
use Rattle.replies.specs.View.{IsSendable}

-- the world that an engine begins with is lawful
abbrev pub BeginsLawful : Type 0
BeginsLawful = IsLawful new_world

-- a lawful world steps to a lawful world, whatever it is told
abbrev pub StaysLawful : Type 0
StaysLawful = (world : World) (connection : ℕ) (body : Result Pairs BsonFault) → IsLawful world
    → IsLawful (step world connection body).0

-- an image whose root sectors are zeros holds no collection
abbrev pub ZerosHoldNothing : Type 0
ZerosHoldNothing =
    (image : ℕ → List ℕ) → image 0 ≡ replicate 512 0 → image 1 ≡ replicate 512 0
    → HoldsCollections image []

-- an image holds one list of collections at most
abbrev pub HoldsOne : Type 0
HoldsOne = (image : ℕ → List ℕ) (a b : List Collection) → HoldsCollections image a
    → HoldsCollections image b → a ≡ b

-- a command that only reads, or one that is refused before it runs
abbrev pub OnlyReads : Result Command Refusal → Type 0
OnlyReads (Ok ping) = Unit {0}
OnlyReads (Ok hello) = Unit {0}
OnlyReads (Ok (find c)) = Unit {0}
OnlyReads (Ok (get_more c)) = Unit {0}
OnlyReads (Ok (kill_cursors c)) = Unit {0}
OnlyReads (Ok (count c)) = Unit {0}
OnlyReads (Ok (aggregate c)) = Unit {0}
OnlyReads (Ok (list_collections c)) = Unit {0}
OnlyReads (Ok (list_indexes c)) = Unit {0}
OnlyReads (Ok (explain c)) = Unit {0}
OnlyReads (Ok (insert c)) = ⊥
OnlyReads (Ok (delete c)) = ⊥
OnlyReads (Ok (update c)) = ⊥
OnlyReads (Ok (create c)) = ⊥
OnlyReads (Ok (create_indexes c)) = ⊥
OnlyReads (Ok (drop_indexes c)) = ⊥
OnlyReads (Ok (drop c)) = ⊥
OnlyReads (Err e) = Unit {0}

abbrev pub BodyOnlyReads : Result Pairs BsonFault → Type 0
BodyOnlyReads (Ok body) = OnlyReads (command_of body)
BodyOnlyReads (Err fault) = Unit {0}

-- A ping or a hello, or a command that is refused before it runs: what it is answered depends on no
-- disk.
abbrev pub NeedsNoDisk : Result Command Refusal → Type 0
NeedsNoDisk (Ok ping) = Unit {0}
NeedsNoDisk (Ok hello) = Unit {0}
NeedsNoDisk (Ok other) = ⊥
NeedsNoDisk (Err e) = Unit {0}

abbrev pub BodyNeedsNoDisk : Result Pairs BsonFault → Type 0
BodyNeedsNoDisk (Ok body) = NeedsNoDisk (command_of body)
BodyNeedsNoDisk (Err fault) = Unit {0}

-- it comes beside the definition's answer only where memory runs out
abbrev pub ForMemory : World → Refusal → Type 0
ForMemory planned e = e ≡ refusals.OutOfMemory

-- however such a command is answered, the collections stay as they are
abbrev pub ReadsChangeNothing : Type 0
ReadsChangeNothing =
    (world new : World) (connection : ℕ) (body : Result Pairs BsonFault) (reply : Pairs)
    → BodyOnlyReads body
    → Answers (λ planned. IsOfFile) world connection body new reply
    → new.collections ≡ world.collections

-- what a lawful world replies is within the limit of replies
abbrev pub RepliesSendable : Type 0
RepliesSendable = (world : World) (connection : ℕ) (body : Result Pairs BsonFault) → IsLawful world
    → IsSendable (step world connection body).1
