-- The frame of an answer (MongoDB wire protocol): an OP_MSG to an OP_MSG, an OP_REPLY to an
-- OP_QUERY. An OP_REPLY is the header with the opcode 1, 32 flags, the number of a cursor, the
-- place of the first document, the number of documents, and the documents.
use Rattle.std.specs.Prelude.{ℕ, ◌+◌, ◌≤◌, List, ◌++◌, length, Option, Some, None}
use Rattle.std.specs.Int.{w64, to_le_bytes}
use Rattle.bson.specs.Tree.{Pairs}
use Rattle.bson.specs.Spelling.{frame_of, pairs_bytes}
use Rattle.bson.specs.Limits.{message_limit}
use Rattle.op_msg.specs.Request.{le_32, reply_bytes}
use Rattle.driver_messages.specs.declared.message.Form.{Form}
use Rattle.driver_messages.specs.declared.message.Form.TheVariants as forms
use Rattle.drivers.specs.declared.step.Step.{Step}
use Rattle.drivers.specs.declared.step.Step.TheVariants as steps

abbrev pub begun_head : ℕ → ℕ → ℕ → List ℕ
begun_head len number request = (le_32 len ++ le_32 number) ++ le_32 request

-- no cursor, from the first document, one document
abbrev pub one_document : List ℕ
one_document = to_le_bytes w64 0 ++ le_32 0 ++ le_32 1

abbrev pub query_head : ℕ → ℕ → ℕ → ℕ → List ℕ
query_head flags number request len =
    ((begun_head (len + 36) number request ++ le_32 1) ++ le_32 flags) ++ one_document

abbrev pub with_head : ℕ → ℕ → ℕ → List ℕ → List ℕ
with_head flags number request body = query_head flags number request (length body) ++ body

-- An OP_REPLY with these flags.
unfoldable pub query_reply : ℕ → ℕ → ℕ → Pairs → List ℕ
query_reply flags number request ps = with_head flags number request (frame_of (pairs_bytes ps))

-- AwaitCapable, and QueryFailure
abbrev pub frame : Form → ℕ → ℕ → Pairs → List ℕ
frame forms.Message number request ps = reply_bytes number request ps
frame forms.Command number request ps = query_reply 8 number request ps
frame forms.Query number request ps = query_reply 8 number request ps

-- The frame by which a message of this form and number is answered, if it is.
abbrev pub framed : Form → ℕ → ℕ → Step → Option (List ℕ)
framed form number request (steps.Ask body) = None
framed form number request (steps.AskOwner id body) = None
framed form number request (steps.Reply reply) = Some (frame form number request reply)
framed form number request (steps.Fail reply) = Some (query_reply 2 number request reply)
framed form number request steps.Silent = None

-- the frame of an answer is within the limit of a message
abbrev pub IsShort : Step → Type 0
IsShort (steps.Ask body) = Unit {0}
IsShort (steps.AskOwner id body) = Unit {0}
IsShort (steps.Reply reply) = length (frame_of (pairs_bytes reply)) + 36 ≤ message_limit
IsShort (steps.Fail reply) = length (frame_of (pairs_bytes reply)) + 36 ≤ message_limit
IsShort steps.Silent = Unit {0}
