-- What comes of a command that a server in its own process is asked. One turn takes it, as the one
-- message of connection 0, and its reply is the document that the turn hands out. So a command runs
-- once at most, and it is never asked again behind the back of whoever asks.
use Rattle.std.specs.Prelude.{◌≡◌, ◌⊎◌, ◌<◌, ℕ, List, [], ◌∷◌, length, drop, Result, Ok, Err}
use Rattle.std.specs.Prelude.{true, false}
use Rattle.bson.specs.Tree.{Pairs}
use Rattle.bson.specs.Spelling.{frame_of, pairs_bytes}
use Rattle.op_msg.specs.Request.{document_in, reply_bytes}
use Rattle.page.specs.History.{History}
use Rattle.server.specs.ServerState.{fed}
use Rattle.server.specs.Turning.{TakesTurn}
use Rattle.server.specs.View.{state, frames_in}
use Rattle.server.specs.Durable.{collections_of, disk_history, file_of, is_stopped}
use Rattle.server.specs.declared.turn.Core.{Core}
use Rattle.server.specs.declared.turn.TurnOut.{TurnOut}
use Rattle.server.specs.declared.turn.TurnFault.{TurnFault}
use Rattle.server.specs.declared.turn.TurnFault.TheVariants as turns
use Rattle.shell.specs.declared.database.DatabaseFault.{DatabaseFault}
use Rattle.shell.specs.declared.database.DatabaseFault.TheVariants as faults

-- One turn was made, of the server as it was with this command as a message behind what waited.
pub record TakesCommand {D : Type 0} (history : D → History) (old : Core D) (command : Pairs)
    (result : Result TurnOut TurnFault) (new : Core D) : Type 0 where
  pub asked : Core D
  pub message : state asked ≡ fed (state old) 0 (reply_bytes 1 0 command)
  pub file : file_of asked ≡ file_of old
  pub turn : TakesTurn history asked result new

-- the document behind the 21 bytes at the front of the first frame
abbrev pub Says : List (ℕ × List ℕ) → Pairs → Type 0
Says [] reply = ⊥
Says (f ∷ fs) reply = document_in (drop 21 f.1) ≡ Ok reply

-- A command by what it was answered. A server that had stopped answers so, whatever it is asked,
-- and changes nothing. Where memory ran out, one that runs left the collections and made no call of
-- the disk, or one turn took the command and its reply found no memory.
abbrev pub AnswersCommand : {D : Type 0} → (D → History) → Core D → Pairs
    → Result Pairs DatabaseFault → Core D → Type 0
AnswersCommand history old command (Ok reply) new =
    (out : TurnOut) × TakesCommand history old command (Ok out) new
    × Says (frames_in out.replies.items) reply
AnswersCommand history old command (Err faults.TooLarge) new = (is_stopped old ≡ false)
    × (new ≡ old) × (1048555 < length (frame_of (pairs_bytes command)))
AnswersCommand history old command (Err faults.Stopped) new =
    ((is_stopped old ≡ true) × (new ≡ old))
    ⊎ ((is_stopped old ≡ false) × TakesCommand history old command (Err turns.Stopped) new)
AnswersCommand history old command (Err faults.Memory) new = (is_stopped old ≡ false)
    × (((collections_of new ≡ collections_of old)
    × (disk_history history new ≡ disk_history history old))
    ⊎ ((out : TurnOut) × TakesCommand history old command (Ok out) new))
