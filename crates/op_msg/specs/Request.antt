-- What taking the message at the front gives, and how a reply is spelled (MongoDB wire protocol,
-- OP_MSG). A message's document is the one that the bytes of its body are, all of them, and behind
-- its fields an array for each section of kind 1, in their order; or the first fault: of the body's
-- bytes, and then of each section a name that a field has already, and its documents. A document of
-- a section stands in an array of the message's document, so it has two of the levels less. A reply
-- is a frame with its own number, the number of the request, no flags, and one body.
use Rattle.std.specs.Prelude.{◌≡◌, ℕ, ◌+◌, List, [], ◌∷◌, ◌++◌, length, take, drop, Bool, true}
use Rattle.std.specs.Prelude.{false, Result, Ok, Err, Option, Some, None, is_some}
use Rattle.std.specs.Int.{w32, to_le_bytes}
use Rattle.bson_bytes.specs.declared.fault.BsonFault.TheVariants as bson_faults
use Rattle.bson.specs.Lookup.{lookup}
use Rattle.bson.specs.Tree.{array, Pairs, no_pairs, pair, append, Items, no_items, item}
use Rattle.bson.specs.Spelling.{frame_of, pairs_bytes}
use Rattle.bson_bytes.specs.Decoding.{value_at, document_at}
use Rattle.outcome.specs.Outcome.{◌>>=◌, unless, Gives}
use Rattle.bson_bytes.specs.declared.fault.BsonFault.{BsonFault}
use Rattle.bson.specs.declared.kind.Kind.TheVariants as kinds
use Rattle.op_msg.specs.Frame.{Frame, Sequence}
use Rattle.op_msg.specs.declared.fault.FrameFault.{FrameFault}
use Rattle.op_msg.specs.declared.request.Head.{Head}
use Rattle.op_msg.specs.declared.request.Request.{Request}

abbrev pub document_alone : Result (Pairs × ℕ) BsonFault → Result Pairs BsonFault
document_alone (Ok x) = Ok x.0
document_alone (Err e) = Err e

-- the document that the bytes are, or why they are none
abbrev pub document_in : List ℕ → Result Pairs BsonFault
document_in bytes = document_alone (document_at bytes)

-- the array of these documents, each of which may nest 98 levels
abbrev pub array_of : List (List ℕ) → Result Items BsonFault
array_of [] = Ok no_items
array_of (bytes ∷ documents) = do
  first ← value_at 98 kinds.Document bytes
  others ← array_of documents
  Ok (item first.0 others)

-- a document with the array of a section behind its fields
abbrev pub with_sequence : Pairs → Sequence → Result Pairs BsonFault
with_sequence ps sequence =
    unless (is_some (lookup ps sequence.name)) bson_faults.Repeated (do
      ts ← array_of sequence.documents
      Ok (append ps (pair sequence.name (array ts) no_pairs)))

abbrev pub with_sequences : Pairs → List Sequence → Result Pairs BsonFault
with_sequences ps [] = Ok ps
with_sequences ps (sequence ∷ later) = with_sequence ps sequence >>= λ qs. with_sequences qs later

-- The document of a message. Its frame says where it ends.
abbrev pub body_of : Frame → Result Pairs BsonFault
body_of frame = document_in frame.body >>= λ ps. with_sequences ps frame.sequences

-- What a message says of itself.
abbrev pub head_of : Result (Option (Frame × List ℕ)) FrameFault → Result (Option Head) FrameFault
head_of (Ok None) = Ok None
head_of (Ok (Some x)) =
    Ok (Some (record { request_id = x.0.number; more_to_come = x.0.more_to_come }))
head_of (Err fault) = Err fault

-- This request is that message. Its body may be missing where memory ran out.
pub record IsRequest (frame : Frame) (request : Request) : Type 0 where
  pub number : request.request_id ≡ frame.number
  pub more : request.more_to_come ≡ frame.more_to_come
  pub body : Gives bson_faults.Memory (λ d. d) request.body (body_of frame)

-- What reading the message at the front may answer, by what stands there.
abbrev pub IsRead : Result (Option (Frame × List ℕ)) FrameFault
    → Result (Option Request) FrameFault → Type 0
IsRead (Ok (Some x)) (Ok (Some request)) = IsRequest x.0 request
IsRead (Ok None) (Ok None) = Unit {0}
IsRead (Err fault) (Err e) = e ≡ fault
IsRead (Ok (Some x)) (Ok None) = ⊥
IsRead (Ok (Some x)) (Err e) = ⊥
IsRead (Ok None) (Ok (Some request)) = ⊥
IsRead (Ok None) (Err e) = ⊥
IsRead (Err fault) (Ok (Some request)) = ⊥
IsRead (Err fault) (Ok None) = ⊥

-- What a call of `next` may answer, by what stands at the front, with what is left after it.
abbrev pub IsNext : Result (Option (Frame × List ℕ)) FrameFault → List ℕ
    → Result (Option Request) FrameFault → List ℕ → Type 0
IsNext (Ok (Some x)) old (Ok (Some request)) new = IsRequest x.0 request × (new ≡ x.1)
IsNext (Ok None) old (Ok None) new = new ≡ old
IsNext (Err fault) old (Err e) new = (e ≡ fault) × (new ≡ old)
IsNext (Ok (Some x)) old (Err e) new = ⊥
IsNext (Ok (Some x)) old (Ok None) new = ⊥
IsNext (Ok None) old (Ok (Some request)) new = ⊥
IsNext (Ok None) old (Err e) new = ⊥
IsNext (Err fault) old (Ok (Some request)) new = ⊥
IsNext (Err fault) old (Ok None) new = ⊥

-- a message or a fault stands at the front
abbrev pub is_waiting : Result (Option (Frame × List ℕ)) FrameFault → Bool
is_waiting (Ok None) = false
is_waiting (Ok (Some x)) = true
is_waiting (Err fault) = true

abbrev pub le_32 : ℕ → List ℕ
le_32 n = to_le_bytes w32 n

-- What stands before a body of this length: the length of the whole, the reply's number, the
-- request's, the opcode, no flags, and the kind of a section that is a body.
abbrev pub head_bytes : ℕ → ℕ → ℕ → List ℕ
head_bytes number request len =
    le_32 (len + 21) ++ le_32 number ++ le_32 request ++ le_32 2013 ++ le_32 0 ++ 0 ∷ []

-- The frame of a body, as its bytes.
abbrev pub frame_bytes : ℕ → ℕ → List ℕ → List ℕ
frame_bytes number request body = head_bytes number request (length body) ++ body

-- The frame with another body, and so with another length; what stands between stays.
abbrev pub respelled : List ℕ → List ℕ → List ℕ
respelled frame body = le_32 (length body + 21) ++ take 17 (drop 4 frame) ++ body

-- A reply: a frame whose body is the document.
unfoldable pub reply_bytes : ℕ → ℕ → Pairs → List ℕ
reply_bytes number request ps = frame_bytes number request (frame_of (pairs_bytes ps))
