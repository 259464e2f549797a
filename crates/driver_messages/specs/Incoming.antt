-- The message at the front of a socket's bytes: an OP_MSG, or an OP_QUERY (MongoDB wire protocol;
-- the header is int32 length, number of the request, number of what it answers, opcode). A wrong
-- length and another opcode are faults as soon as the header is there.
use Rattle.std.specs.Prelude.{◌≡◌, ℕ, Bool, true, false, not, ◌&&◌, ◌==◌, nat_lt, if◌then◌else◌}
use Rattle.std.specs.Prelude.{List, [], length, take, drop, codes, Option, Some, None, Result, Ok}
use Rattle.std.specs.Prelude.{Err}
use Rattle.std.specs.Str.{bytes_eq}
use Rattle.outcome.specs.Outcome.{◌>>=◌, unless, Fails}
use Rattle.bson.specs.Tree.{Pairs}
use Rattle.bson_bytes.specs.Decoding.{name_at, document_at}
use Rattle.bson_bytes.specs.Raw.{only_document}
use Rattle.bson_bytes.specs.declared.fault.BsonFault.{BsonFault}
use Rattle.bson_bytes.specs.declared.fault.BsonFault.TheVariants as bson_faults
use Rattle.op_msg.specs.Frame.{Frame, front, number_at, is_no_length}
use Rattle.op_msg.specs.Request.{body_of}
use Rattle.op_msg.specs.declared.fault.FrameFault.{FrameFault}
use Rattle.driver_messages.specs.Seeking.{foreign_in, foreign_in_sections}
use Rattle.driver_messages.specs.WithIntegers.{document_with, with_integers}
use Rattle.driver_messages.specs.declared.foreign.Foreign.{Foreign}
use Rattle.driver_messages.specs.declared.message.BodyFault.{BodyFault}
use Rattle.driver_messages.specs.declared.message.BodyFault.TheVariants as bodies
use Rattle.driver_messages.specs.declared.message.Form.{Form}
use Rattle.driver_messages.specs.declared.message.Form.TheVariants as forms
use Rattle.driver_messages.specs.declared.message.Message.{Message}
use Rattle.driver_messages.specs.declared.stream_fault.StreamFault.{StreamFault}
use Rattle.driver_messages.specs.declared.stream_fault.StreamFault.TheVariants as faults

-- OP_QUERY and OP_MSG
abbrev pub is_no_opcode : ℕ → Bool
is_no_opcode code = not (code == 2004) && not (code == 2013)

-- How many bytes the message at the front has, or nothing where it isn't whole yet.
unfoldable pub whole_at : List ℕ → Result (Option ℕ) StreamFault
whole_at bytes =
    if nat_lt (length bytes) 16 then Ok None else
    unless (is_no_length (number_at 0 bytes)) faults.Length
    (unless (is_no_opcode (number_at 12 bytes)) faults.Opcode
    (if nat_lt (length bytes) (number_at 0 bytes) then Ok None else
    Ok (Some (number_at 0 bytes))))

-- whether a message, or a fault, stands there
abbrev pub is_waiting : Result (Option ℕ) StreamFault → Bool
is_waiting (Ok None) = false
is_waiting (Ok (Some len)) = true
is_waiting (Err fault) = true

-- ---- a message's document, or why it has none: where a type is wrong, the first one from the left
-- that the database doesn't have

abbrev pub named_or_invalid : Option Foreign → BodyFault
named_or_invalid (Some foreign) = bodies.Foreign foreign
named_or_invalid None = bodies.Invalid

abbrev pub body_fault : BsonFault → Option Foreign → BodyFault
body_fault bson_faults.TypeByte foreign = named_or_invalid foreign
body_fault other foreign = bodies.Invalid

abbrev pub body_or_fault : Option Foreign → Result Pairs BsonFault → Result Pairs BodyFault
body_or_fault foreign (Ok ps) = Ok ps
body_or_fault foreign (Err fault) = Err (body_fault fault foreign)

-- ---- OP_MSG

abbrev pub message_in : List ℕ → Frame → Message
message_in whole frame = record {
  number = frame.number;
  form = forms.Message;
  more_to_come = frame.more_to_come;
  body = body_or_fault (foreign_in_sections (drop 20 whole)) (body_of frame);
}

-- What stands at the front of a whole message is the message; so its length is never wrong here.
abbrev pub message_or_fault : List ℕ → Result (Option (Frame × List ℕ)) FrameFault
    → Result Message StreamFault
message_or_fault whole (Ok (Some x)) = Ok (message_in whole x.0)
message_or_fault whole (Ok None) = Err faults.Length
message_or_fault whole (Err fault) = Err (faults.Frame fault)

abbrev pub as_sent : List ℕ → Result Message StreamFault
as_sent whole = message_or_fault whole (front whole)

abbrev pub has_foreign : Result Pairs BodyFault → Bool
has_foreign (Ok ps) = false
has_foreign (Err (bodies.Foreign foreign)) = true
has_foreign (Err bodies.Invalid) = false

-- A message with a value of a type that the database doesn't have is read again, with whole doubles
-- that are numbers of the command itself as integers.
abbrev pub read_again : List ℕ → Result Message StreamFault → Result Message StreamFault
read_again whole (Ok message) =
    if has_foreign message.body then as_sent (with_integers whole) else Ok message
read_again whole (Err fault) = Err fault

abbrev pub read_message : List ℕ → Result Message StreamFault
read_message whole = read_again whole (as_sent whole)

-- ---- OP_QUERY: after the header 32 flags, which are read over, the name of a collection that a
-- zero ends, two numbers and a document

abbrev pub form_of : List ℕ → Form
form_of name = if bytes_eq name (codes "admin.$cmd") then forms.Command else forms.Query

abbrev pub document_sent : List ℕ → Result Pairs BodyFault
document_sent bytes = body_or_fault (foreign_in [] bytes) (only_document (document_at bytes))

-- It is read again as an OP_MSG is.
abbrev pub document_again : List ℕ → Result Pairs BodyFault → Result Pairs BodyFault
document_again bytes body =
    if has_foreign body then document_sent (document_with [] bytes) else body

abbrev pub query_of : ℕ → List ℕ → List ℕ → Message
query_of number name bytes = record {
  number = number;
  form = form_of name;
  more_to_come = false;
  body = document_again bytes (document_sent bytes);
}

abbrev pub query_behind : ℕ → Result (List ℕ × List ℕ) BsonFault → Result Message StreamFault
query_behind number (Err fault) = Err faults.Query
query_behind number (Ok x) =
    unless (nat_lt (length x.1) 8) faults.Query (Ok (query_of number x.0 (drop 8 x.1)))

abbrev pub read_query : List ℕ → Result Message StreamFault
read_query whole = query_behind (number_at 4 whole) (name_at (drop 20 whole))

-- ---- either

unfoldable pub read_whole : List ℕ → Result Message StreamFault
read_whole whole = if number_at 12 whole == 2013 then read_message whole else read_query whole

-- The message at the front, with the bytes after it.
abbrev pub cut : List ℕ → Option ℕ → Result (Option (Message × List ℕ)) StreamFault
cut bytes None = Ok None
cut bytes (Some len) = do
  message ← read_whole (take len bytes)
  Ok (Some (message, drop len bytes))

abbrev pub next_message : List ℕ → Result (Option (Message × List ℕ)) StreamFault
next_message bytes = whole_at bytes >>= cut bytes

-- What a call of `next` answers, by what stands at the front, and what is left then. Nothing has
-- changed where memory ran out.
abbrev pub IsNext : Result (Option (Message × List ℕ)) StreamFault → List ℕ
    → Result (Option Message) StreamFault → List ℕ → Type 0
IsNext planned old (Ok (Some message)) new = planned ≡ Ok (Some (message, new))
IsNext planned old (Ok None) new = (planned ≡ Ok None) × (new ≡ old)
IsNext planned old (Err fault) new = Fails faults.Memory fault planned × (new ≡ old)
