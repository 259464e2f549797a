-- To whom the frames of a run go, on any disk, whatever stands in them. Each turn that answers
-- takes the first whole message of each open connection, and hands out one frame for each: to the
-- connection that sent it, with the next number of its replies and the number of the message,
-- unless none is wanted. So nobody is handed what another asked for, nothing twice, and nothing
-- that was not asked for.
use Rattle.std.specs.Prelude.{◌≡◌, ℕ, List, [], ◌∷◌, ◌++◌, take, length, Option, Some, None}
use Rattle.bson.specs.Tree.{Pairs}
use Rattle.server.specs.ServerState.{feed_connections, drop_connection}
use Rattle.server.specs.Turn.{calls, connections_after, frames_of}
use Rattle.server.specs.declared.connection.Connection.{Connection}
use Rattle.server.specs.declared.drive.DriveFault.{DriveFault}
use Rattle.server.specs.declared.step.Step.{Step}
use Rattle.server.specs.declared.step.Step.TheVariants as steps

-- From these connections on, these steps hand out these frames, and leave these connections.
abbrev pub Addresses : List Connection → List Step → List (ℕ × List ℕ) → List Connection → Type 0
Addresses connections [] given left = (given ≡ []) × (left ≡ connections)
Addresses connections (steps.Bytes id chunk ∷ later) given left =
    Addresses (feed_connections connections id chunk.items) later given left
Addresses connections (steps.Gone id ∷ later) given left =
    Addresses (drop_connection connections id) later given left
Addresses connections (steps.Turn ∷ later) given left =
    (replies : List Pairs) × (others : List (ℕ × List ℕ))
    × (length replies ≡ length (calls connections))
    × (given ≡ frames_of (calls connections) replies ++ others)
    × Addresses (connections_after connections) later others left

-- the steps that a run did, by the step at which it stopped, if it did
abbrev pub steps_done : Option (ℕ × DriveFault) → List Step → List Step
steps_done None all = all
steps_done (Some (i, fault)) all = take i all

-- What a run hands out is what the steps hand out that it did. Where it stopped at none, it leaves
-- the connections that they leave.
pub record Addressed (first : List Connection) (all : List Step) (stopped : Option (ℕ × DriveFault))
    (given : List (ℕ × List ℕ)) (last : List Connection) : Type 0 where
  pub left : List Connection
  pub addresses : Addresses first (steps_done stopped all) given left
  pub whole : stopped ≡ None → last ≡ left
