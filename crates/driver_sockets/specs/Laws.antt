-- A question is one whole message (MongoDB wire protocol, OP_MSG): a server finds it alone at the
-- front of a connection on which nothing waited, with its body, no other sections and no flags; so
-- it takes it, replies to it, and finds no fault there.
use Rattle.std.specs.Prelude.{◌≡◌, ◌≤◌, ◌+◌, false, [], length, Ok, Some}
use Rattle.bson.specs.Limits.{message_limit}
use Rattle.bson.specs.Spelling.{frame_of, pairs_bytes}
use Rattle.bson.specs.Tree.{Pairs}
use Rattle.op_msg.specs.Frame.{Frame, front}
use Rattle.driver_sockets.specs.Questions.{question_bytes}

abbrev pub question_frame : Pairs → Frame
question_frame command = record {
  number = 1;
  more_to_come = false;
  body = frame_of (pairs_bytes command);
  sequences = [];
}

abbrev pub QuestionsAreMessages : Type 0
QuestionsAreMessages = (command : Pairs)
    → length (frame_of (pairs_bytes command)) + 21 ≤ message_limit
    → front (question_bytes command) ≡ Ok (Some (question_frame command, []))
