-- What the turns of a history give of one cursor: its batches, one after the other, and what it has
-- left at the end are the documents that it had, in their order, whatever other commands, commits,
-- undone turns and ends of connections come between. A turn that is undone gives none, and a cursor
-- that it leaves open has what it had before.
use Rattle.std.specs.Prelude.{◌≡◌, ◌<◌, ℕ, List, [], ◌∷◌, ◌++◌, Result}
use Rattle.std.proofs.Common.{inl, inr}
use Rattle.bson.specs.Tree.{Pairs}
use Rattle.bson_bytes.specs.declared.fault.BsonFault.{BsonFault}
use Rattle.path.specs.declared.refusal.Refusal.{Refusal}
use Rattle.op_msg.specs.Request.{body_of}
use Rattle.database_model.specs.CursorLife.{HasLeft, batch_of_body}
use Rattle.database_model.specs.Step.{Answers}
use Rattle.database_model.specs.World.{World}
use Rattle.server.specs.ServerState.{ServerState, ended, fed}
use Rattle.server.specs.Turn.{Call, Out, Runs, Turns, calls}
use Rattle.server.specs.Causes.{IsCaused}
use Rattle.server.specs.Moment.{Moment, TurnEnd}
use Rattle.server.specs.History.{Happens, TakenBack}
use Rattle.server.specs.declared.step.Step.{Step}
use Rattle.server.specs.declared.step.Step.TheVariants as steps

-- the batch of the cursor of a number in an answer: that of a `getMore` of it, which was not
-- refused
abbrev pub batch_of_answer : (number : ℕ) (beside : World → Refusal → Type 0) (world : World)
    (id : ℕ)
    (body : Result Pairs BsonFault) (new : World) (reply : Pairs)
    → Answers beside world id body new reply → List Pairs
batch_of_answer number beside world id body new reply (inl is) = batch_of_body number world id body
batch_of_answer number beside world id body new reply (inr refused) = []

abbrev pub batches_of_calls : (number : ℕ) (beside : World → Refusal → Type 0) (world : World)
    (cs : List Call) (replies : List Pairs) (new : World)
    → Runs beside world cs replies new → List Pairs
batches_of_calls number beside world [] replies new h = []
batches_of_calls number beside world (c ∷ cs) [] new h = []
batches_of_calls number beside world (c ∷ cs) (r ∷ rs) new h =
    batch_of_answer number beside world c.connection.id (body_of c.frame) h.0 r h.1
    ++ batches_of_calls number beside h.0 cs rs new h.2

abbrev pub batches_of_turn : (number : ℕ) (beside : World → Refusal → Type 0)
    (undone : Refusal → Type 0) (state : ServerState) (out : Out) (new : ServerState)
    → Turns beside undone state out new → List Pairs
batches_of_turn number beside undone state out new (inl done) =
    batches_of_calls number beside state.world (calls state.connections) done.replies done.last
    done.runs
batches_of_turn number beside undone state out new (inr back) = []

abbrev pub batches_in : (number : ℕ) (at : Moment) (state : ServerState) (all : List Step)
    (given : List (ℕ × List ℕ)) (ends : List TurnEnd) (new : ServerState)
    → Happens at state all given ends new → List Pairs
batches_in number at state [] given ends new h = []
batches_in number at state (steps.Bytes id chunk ∷ later) given ends new h =
    batches_in number at (fed state id chunk.items) later given ends new h
batches_in number at state (steps.Gone id ∷ later) given ends new h =
    batches_in number at (ended state id) later given ends new h
batches_in number at state (steps.Turn ∷ later) given ends new h =
    batches_of_turn number (IsCaused at h.3.at) (TakenBack at h.3.at) state h.1 h.0 h.5
    ++ batches_in number h.3.at h.0 later h.2 h.4 new h.9

-- These batches and what the cursor has left, where it is open still, are what it had.
pub record CutsTheList (number : ℕ) (batches had : List Pairs) (new : World) : Type 0 where
  pub left : List Pairs
  pub whole : batches ++ left ≡ had
  pub is_left : HasLeft number new.cursors left

-- of a cursor that was opened, so its number was drawn
abbrev pub BatchesCutTheList : Type 0
BatchesCutTheList = (number : ℕ) (at : Moment) (state : ServerState) (all : List Step)
    (given : List (ℕ × List ℕ)) (ends : List TurnEnd) (new : ServerState)
    (h : Happens at state all given ends new) (had : List Pairs) → number < state.world.next
    → HasLeft number state.world.cursors had
    → CutsTheList number (batches_in number at state all given ends new h) had new.world
