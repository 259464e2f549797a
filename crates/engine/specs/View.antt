-- What an engine and its replies stand for.
use Rattle.std.specs.Prelude.{List}
use Rattle.bson.specs.Tree.{Pairs}
use Rattle.cursors.specs.Held.{table_of}
use Rattle.database_model.specs.World.{World, CursorTable}
use Rattle.database_model.specs.Refusals.{refusal_reply}
use Rattle.entry_model.specs.State.{Collection}
use Rattle.opening.specs.TurnStates.{TurnStates}
use Rattle.replies.specs.View.{answer_of}
use Rattle.engine.specs.declared.engine.Reply.{Reply}
use Rattle.engine.specs.declared.engine.Reply.TheVariants as replies
use Rattle.engine.specs.declared.engine.Engine.{Engine}

abbrev pub reply_of : Reply → Pairs
reply_of (replies.Done a) = answer_of a
reply_of (replies.Refused r) = refusal_reply r

-- the command was refused
abbrev pub IsRefusal : Reply → Type 0
IsRefusal (replies.Done a) = ⊥
IsRefusal (replies.Refused r) = Unit {0}

abbrev pub world_of : TurnStates → CursorTable → World
world_of known cursors =
    record { collections = known.now; cursors = cursors.list; next = cursors.next }

abbrev pub world : {D : Type 0} → Engine D → World
world engine = world_of engine.told.value (table_of engine.cursors)

-- The collections as they were at the beginning of the turn. That is all of the start that is kept:
-- what a turn did to cursors is taken back by what they know of themselves.
abbrev pub turn_start : {D : Type 0} → Engine D → List Collection
turn_start engine = engine.told.value.start
