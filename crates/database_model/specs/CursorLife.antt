-- What a cursor gives over its whole life, whatever comes between: other commands of any
-- connection, commits, undone turns, ends of connections.
use Rattle.std.specs.Prelude.{◌≡◌, ◌⊎◌, ℕ, suc, ◌<◌, ◌==◌, if◌then◌else◌, Option, Some, None, List}
use Rattle.std.specs.Prelude.{[], ◌∷◌, ◌++◌, take, Result, Ok, Err}
use Rattle.std.specs.List.{filter, position}
use Rattle.bson.specs.Tree.{Pairs}
use Rattle.bson_bytes.specs.declared.fault.BsonFault.{BsonFault}
use Rattle.path.specs.declared.refusal.Refusal.{Refusal}
use Rattle.command_model.specs.Command.{Command, get_more, command_of}
use Rattle.command_model.specs.GetMore.{GetMore}
use Rattle.database_model.specs.World.{World, Cursor, forget, after_commit, after_undo}
use Rattle.entry_model.specs.State.{Collection}
use Rattle.database_model.specs.Cursors.{is_cursor, cursor_at, number_after}
use Rattle.database_model.specs.GetMore.{batch_len_of}
use Rattle.database_model.specs.Step.{step}

-- a command of a connection, the end of a turn that is done or undone, the end of a connection
pub data Event : Type 0 where
  command : ℕ → Result Pairs BsonFault → Event
  committed : Event
  undone : List Collection → Event
  ended : ℕ → Event

abbrev pub after_event : World → Event → World
after_event world (command connection body) = (step world connection body).0
after_event world committed = after_commit world
after_event world (undone before) = after_undo before world
after_event world (ended connection) = forget world connection

abbrev pub after_events : World → List Event → World
after_events world [] = world
after_events world (e ∷ later) = after_events (after_event world e) later

-- the batch that a `getMore` of this place gives, where the cursor there has the number
abbrev pub batch_at : ℕ → World → GetMore → Option ℕ → List Pairs
batch_at number world c None = []
batch_at number world c (Some at) =
    let cursor = cursor_at world.cursors at in
    if cursor.number == number then take (batch_len_of cursor c.batch_size) cursor.rest else []

abbrev pub batch_in : ℕ → World → ℕ → Result Command Refusal → List Pairs
batch_in number world connection (Ok (get_more c)) =
    batch_at number world c (position (is_cursor connection c.namespace c.id) world.cursors)
batch_in number world connection other = []

abbrev pub batch_of_body : ℕ → World → ℕ → Result Pairs BsonFault → List Pairs
batch_of_body number world connection (Ok body) =
    batch_in number world connection (command_of body)
batch_of_body number world connection (Err fault) = []

-- what an event gives of the cursor of a number: the documents of its batch, where it is a
-- `getMore` of it
abbrev pub given_by : ℕ → World → Event → List Pairs
given_by number world (command connection body) = batch_of_body number world connection body
given_by number world other = []

-- its batches, one after the other
abbrev pub given : ℕ → World → List Event → List Pairs
given number world [] = []
given number world (e ∷ later) =
    given_by number world e ++ given number (after_event world e) later

-- The cursor of a number is open with these documents left, or it isn't open any more.
abbrev pub HasLeft : ℕ → List Cursor → List Pairs → Type 0
HasLeft number cs left = (filter (λ c. c.number == number) cs ≡ [])
    ⊎ ((c : Cursor) × (filter (λ c. c.number == number) cs ≡ c ∷ []) × (c.rest ≡ left))

-- What was given and what is left are the documents that the cursor had, in their order.
pub record LivesOn (number : ℕ) (world : World) (events : List Event)
    (had : List Pairs) : Type 0 where
  pub left : List Pairs
  pub whole : given number world events ++ left ≡ had
  pub is_left : HasLeft number (after_events world events).cursors left

-- A cursor that was opened, so its number was drawn, gives its documents batch after batch.
abbrev pub GivesItsList : Type 0
GivesItsList = (number : ℕ) (world : World) (events : List Event) (had : List Pairs)
    → number < world.next → HasLeft number world.cursors had → LivesOn number world events had

-- A batch that says 0 in place of the cursor's number has all that was left.
abbrev pub LastBatchIsWhole : Type 0
LastBatchIsWhole = (n number : ℕ) (left : List Pairs)
    → number_after n left (suc number) ≡ 0 → take n left ≡ left
