-- The reply of an update has room in a message.
use Rattle.std.specs.Prelude.{◌≡◌, ℕ, List, Ok, Some}
use Rattle.bson.specs.Lawful.{IsBytes}
use Rattle.bson.specs.Tree.{Pairs}
use Rattle.op_msg.specs.Frame.{Frame, front}
use Rattle.op_msg.specs.Request.{body_of}
use Rattle.command_model.specs.Command.{command_of, update}
use Rattle.command_model.specs.Update.{Update}
use Rattle.database_model.specs.Update.{not_updated, run_all, run_statements}
use Rattle.entry_model.specs.State.{Collection}

-- Whatever update a message asks for that stands at the front of bytes, and whatever collections
-- there are: no reply is refused for its length. So an update gives what its statements come to, or
-- the refusal of one of them.
abbrev pub UpdatesHaveRoom : Type 0
UpdatesHaveRoom =
    (bytes : List ℕ) (frame : Frame) (rest : List ℕ) (body : Pairs) (c : Update)
    (cs : List Collection)
    → IsBytes bytes → front bytes ≡ Ok (Some (frame, rest)) → body_of frame ≡ Ok body
    → command_of body ≡ Ok (update c)
    → run_all c.namespace c.statements cs
    ≡ run_statements c.namespace 0 c.statements (not_updated cs)
