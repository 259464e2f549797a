-- Laws of cursors. What an undone turn leaves of them is said by what each knows of itself, whether
-- the turn touched it; the law ties that to the plain sentence: exactly those stay open that no
-- command of the turn opened, advanced or killed, with what they had.
use Rattle.std.specs.Prelude.{◌≡◌, ◌⊎◌, ℕ, true, List, [], ◌∷◌, Result}
use Rattle.bson.specs.Tree.{Pairs}
use Rattle.bson_bytes.specs.declared.fault.BsonFault.{BsonFault}
use Rattle.database_model.specs.World.{World, Cursor, are_untouched, after_undo}
use Rattle.entry_model.specs.State.{Collection}
use Rattle.database_model.specs.Step.{step}

-- a cursor is one of these, with the documents that it has
abbrev pub IsAmong : Cursor → List Cursor → Type 0
IsAmong c [] = ⊥
IsAmong c (d ∷ ds) = (d ≡ c) ⊎ IsAmong c ds

-- commands, each of its connection, one after the other
abbrev pub after_commands : World → List (ℕ × Result Pairs BsonFault) → World
after_commands world [] = world
after_commands world (x ∷ later) = after_commands (step world x.0 x.1).0 later

-- before each of these commands and after the last one the cursor is open, as it is
abbrev pub StaysOpen : Cursor → World → List (ℕ × Result Pairs BsonFault) → Type 0
StaysOpen c world [] = IsAmong c world.cursors
StaysOpen c world (x ∷ later) = IsAmong c world.cursors × StaysOpen c (step world x.0 x.1).0 later

-- a turn whose commands were these was undone
abbrev pub UndoingClosesTouched : Type 0
UndoingClosesTouched =
    (world : World) (commands : List (ℕ × Result Pairs BsonFault)) (before : List Collection)
    (c : Cursor) → are_untouched world.cursors ≡ true
    → (IsAmong c (after_undo before (after_commands world commands)).cursors
    → StaysOpen c world commands)
    × (StaysOpen c world commands
    → IsAmong c (after_undo before (after_commands world commands)).cursors)
