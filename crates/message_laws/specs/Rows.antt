-- The first frames of a connection, and what they are answered, byte by byte: a ping, an insert of
-- one document, in the body or beside it, a find, and an insert of the same `_id` as an int64,
-- which is refused. In one chunk the first three are a stream of three messages. The four bytes of
-- a length that no message has are a fault as they stand.
use Rattle.std.specs.Prelude.{◌≡◌, ℕ, false, List, [], ◌∷◌, ◌++◌, drop, codes, Result, Ok, Err}
use Rattle.std.specs.Prelude.{Option, Some, None}
use Rattle.bson.specs.Tree.{no_pairs, pair}
use Rattle.op_msg.specs.Frame.{Frame, front}
use Rattle.op_msg.specs.Request.{body_of, reply_bytes}
use Rattle.op_msg.specs.Stream.{Splits}
use Rattle.op_msg.specs.declared.fault.FrameFault.{FrameFault}
use Rattle.op_msg.specs.declared.fault.FrameFault.TheVariants as faults
use Rattle.database_model.specs.World.{World, new_world}
use Rattle.database_model.specs.Refusals.{int}
use Rattle.database_model.specs.Step.{step}

abbrev pub reply_to : ℕ → World → Frame → World × List ℕ
reply_to number world frame = (
  (step world 0 (body_of frame)).0,
  reply_bytes number frame.number (step world 0 (body_of frame)).1,
)

-- the world after the message at the front, and the frame of its reply
abbrev pub answer_by : ℕ → World → Result (Option (Frame × List ℕ)) FrameFault
    → Option (World × List ℕ)
answer_by number world (Ok (Some x)) = Some (reply_to number world x.0)
answer_by number world (Ok None) = None
answer_by number world (Err fault) = None

abbrev pub answer : ℕ → World → List ℕ → Option (World × List ℕ)
answer number world bytes = answer_by number world (front bytes)

-- a collection `t.c` that holds `{_id: 1}`
abbrev pub one_document : World
one_document = record {
  collections = record {
    name = codes "t.c";
    number = 1;
    documents = pair (codes "_id") (int 1) no_pairs ∷ [];
    indexes = [];
  } ∷ [];
  cursors = [];
  next = 1;
}

-- {ping: 1, $db: "t"}, number 7
abbrev pub ping_frame : List ℕ
ping_frame =
    47 ∷ 0 ∷ 0 ∷ 0 ∷ 7 ∷ 0 ∷ 0 ∷ 0 ∷ 0 ∷ 0 ∷ 0 ∷ 0 ∷ 221 ∷ 7 ∷ 0
    ∷ 0 ∷ 0 ∷ 0 ∷ 0 ∷ 0 ∷ 0 ∷ 26 ∷ 0
    ∷ 0 ∷ 0 ∷ 16 ∷ 112 ∷ 105 ∷ 110 ∷ 103 ∷ 0 ∷ 1 ∷ 0 ∷ 0 ∷ 0 ∷ 2
    ∷ 36 ∷ 100 ∷ 98 ∷ 0 ∷ 2 ∷ 0 ∷ 0
    ∷ 0 ∷ 116 ∷ 0 ∷ 0 ∷ []

-- {insert: "c", documents: [{_id: 1}], $db: "t"}, number 8
abbrev pub insert_frame : List ℕ
insert_frame =
    84 ∷ 0 ∷ 0 ∷ 0 ∷ 8 ∷ 0 ∷ 0 ∷ 0 ∷ 0 ∷ 0 ∷ 0 ∷ 0 ∷ 221 ∷ 7 ∷ 0
    ∷ 0 ∷ 0 ∷ 0 ∷ 0 ∷ 0 ∷ 0 ∷ 63 ∷ 0
    ∷ 0 ∷ 0 ∷ 2 ∷ 105 ∷ 110 ∷ 115 ∷ 101 ∷ 114 ∷ 116 ∷ 0 ∷ 2 ∷ 0
    ∷ 0 ∷ 0 ∷ 99 ∷ 0 ∷ 4 ∷ 100 ∷ 111
    ∷ 99 ∷ 117 ∷ 109 ∷ 101 ∷ 110 ∷ 116 ∷ 115 ∷ 0 ∷ 22 ∷ 0 ∷ 0
    ∷ 0 ∷ 3 ∷ 48 ∷ 0 ∷ 14 ∷ 0 ∷ 0 ∷ 0
    ∷ 16 ∷ 95 ∷ 105 ∷ 100 ∷ 0 ∷ 1 ∷ 0 ∷ 0 ∷ 0 ∷ 0 ∷ 0 ∷ 2 ∷ 36
    ∷ 100 ∷ 98 ∷ 0 ∷ 2 ∷ 0 ∷ 0 ∷ 0 ∷ 116
    ∷ 0 ∷ 0 ∷ []

-- {insert: "c", $db: "t"} with `documents` [{_id: 1}] in a section beside it, number 8
abbrev pub beside_frame : List ℕ
beside_frame =
    80 ∷ 0 ∷ 0 ∷ 0 ∷ 8 ∷ 0 ∷ 0 ∷ 0 ∷ 0 ∷ 0 ∷ 0 ∷ 0 ∷ 221 ∷ 7 ∷ 0
    ∷ 0 ∷ 0 ∷ 0 ∷ 0 ∷ 0 ∷ 0 ∷ 30 ∷ 0
    ∷ 0 ∷ 0 ∷ 2 ∷ 105 ∷ 110 ∷ 115 ∷ 101 ∷ 114 ∷ 116 ∷ 0 ∷ 2 ∷ 0
    ∷ 0 ∷ 0 ∷ 99 ∷ 0 ∷ 2 ∷ 36 ∷ 100
    ∷ 98 ∷ 0 ∷ 2 ∷ 0 ∷ 0 ∷ 0 ∷ 116 ∷ 0 ∷ 0 ∷ 1 ∷ 28 ∷ 0 ∷ 0 ∷ 0
    ∷ 100 ∷ 111 ∷ 99 ∷ 117 ∷ 109 ∷ 101
    ∷ 110 ∷ 116 ∷ 115 ∷ 0 ∷ 14 ∷ 0 ∷ 0 ∷ 0 ∷ 16 ∷ 95 ∷ 105 ∷ 100
    ∷ 0 ∷ 1 ∷ 0 ∷ 0 ∷ 0 ∷ 0 ∷ []

-- {find: "c", $db: "t"}, number 9
abbrev pub find_frame : List ℕ
find_frame =
    49 ∷ 0 ∷ 0 ∷ 0 ∷ 9 ∷ 0 ∷ 0 ∷ 0 ∷ 0 ∷ 0 ∷ 0 ∷ 0 ∷ 221 ∷ 7 ∷ 0
    ∷ 0 ∷ 0 ∷ 0 ∷ 0 ∷ 0 ∷ 0 ∷ 28 ∷ 0
    ∷ 0 ∷ 0 ∷ 2 ∷ 102 ∷ 105 ∷ 110 ∷ 100 ∷ 0 ∷ 2 ∷ 0 ∷ 0 ∷ 0 ∷ 99
    ∷ 0 ∷ 2 ∷ 36 ∷ 100 ∷ 98 ∷ 0 ∷ 2
    ∷ 0 ∷ 0 ∷ 0 ∷ 116 ∷ 0 ∷ 0 ∷ []

-- {insert: "c", documents: [{_id: 1L}], $db: "t"}, number 10
abbrev pub again_frame : List ℕ
again_frame =
    88 ∷ 0 ∷ 0 ∷ 0 ∷ 10 ∷ 0 ∷ 0 ∷ 0 ∷ 0 ∷ 0 ∷ 0 ∷ 0 ∷ 221 ∷ 7
    ∷ 0 ∷ 0 ∷ 0 ∷ 0 ∷ 0 ∷ 0 ∷ 0 ∷ 67 ∷ 0
    ∷ 0 ∷ 0 ∷ 2 ∷ 105 ∷ 110 ∷ 115 ∷ 101 ∷ 114 ∷ 116 ∷ 0 ∷ 2 ∷ 0
    ∷ 0 ∷ 0 ∷ 99 ∷ 0 ∷ 4 ∷ 100 ∷ 111
    ∷ 99 ∷ 117 ∷ 109 ∷ 101 ∷ 110 ∷ 116 ∷ 115 ∷ 0 ∷ 26 ∷ 0 ∷ 0
    ∷ 0 ∷ 3 ∷ 48 ∷ 0 ∷ 18 ∷ 0 ∷ 0 ∷ 0
    ∷ 18 ∷ 95 ∷ 105 ∷ 100 ∷ 0 ∷ 1 ∷ 0 ∷ 0 ∷ 0 ∷ 0 ∷ 0 ∷ 0 ∷ 0
    ∷ 0 ∷ 0 ∷ 2 ∷ 36 ∷ 100 ∷ 98 ∷ 0 ∷ 2
    ∷ 0 ∷ 0 ∷ 0 ∷ 116 ∷ 0 ∷ 0 ∷ []

-- {ok: 1}
abbrev pub ping_reply : List ℕ
ping_reply =
    34 ∷ 0 ∷ 0 ∷ 0 ∷ 1 ∷ 0 ∷ 0 ∷ 0 ∷ 7 ∷ 0 ∷ 0 ∷ 0 ∷ 221 ∷ 7 ∷ 0
    ∷ 0 ∷ 0 ∷ 0 ∷ 0 ∷ 0 ∷ 0 ∷ 13 ∷ 0
    ∷ 0 ∷ 0 ∷ 16 ∷ 111 ∷ 107 ∷ 0 ∷ 1 ∷ 0 ∷ 0 ∷ 0 ∷ 0 ∷ []

-- {n: 1, ok: 1}
abbrev pub insert_reply : List ℕ
insert_reply =
    41 ∷ 0 ∷ 0 ∷ 0 ∷ 2 ∷ 0 ∷ 0 ∷ 0 ∷ 8 ∷ 0 ∷ 0 ∷ 0 ∷ 221 ∷ 7 ∷ 0
    ∷ 0 ∷ 0 ∷ 0 ∷ 0 ∷ 0 ∷ 0 ∷ 20 ∷ 0
    ∷ 0 ∷ 0 ∷ 16 ∷ 110 ∷ 0 ∷ 1 ∷ 0 ∷ 0 ∷ 0 ∷ 16 ∷ 111 ∷ 107 ∷ 0
    ∷ 1 ∷ 0 ∷ 0 ∷ 0 ∷ 0 ∷ []

-- {cursor: {firstBatch: [{_id: 1}], id: 0L, ns: "t.c"}, ok: 1}
abbrev pub find_reply : List ℕ
find_reply =
    105 ∷ 0 ∷ 0 ∷ 0 ∷ 3 ∷ 0 ∷ 0 ∷ 0 ∷ 9 ∷ 0 ∷ 0 ∷ 0 ∷ 221 ∷ 7
    ∷ 0 ∷ 0 ∷ 0 ∷ 0 ∷ 0 ∷ 0 ∷ 0 ∷ 84 ∷ 0
    ∷ 0 ∷ 0 ∷ 3 ∷ 99 ∷ 117 ∷ 114 ∷ 115 ∷ 111 ∷ 114 ∷ 0 ∷ 63 ∷ 0
    ∷ 0 ∷ 0 ∷ 4 ∷ 102 ∷ 105 ∷ 114 ∷ 115
    ∷ 116 ∷ 66 ∷ 97 ∷ 116 ∷ 99 ∷ 104 ∷ 0 ∷ 22 ∷ 0 ∷ 0 ∷ 0 ∷ 3
    ∷ 48 ∷ 0 ∷ 14 ∷ 0 ∷ 0 ∷ 0 ∷ 16 ∷ 95
    ∷ 105 ∷ 100 ∷ 0 ∷ 1 ∷ 0 ∷ 0 ∷ 0 ∷ 0 ∷ 0 ∷ 18 ∷ 105 ∷ 100 ∷ 0
    ∷ 0 ∷ 0 ∷ 0 ∷ 0 ∷ 0 ∷ 0 ∷ 0 ∷ 0
    ∷ 2 ∷ 110 ∷ 115 ∷ 0 ∷ 4 ∷ 0 ∷ 0 ∷ 0 ∷ 116 ∷ 46 ∷ 99 ∷ 0 ∷ 0
    ∷ 16 ∷ 111 ∷ 107 ∷ 0 ∷ 1 ∷ 0 ∷ 0
    ∷ 0 ∷ 0 ∷ []

-- {ok: 0, errmsg: "duplicate key", code: 11000, codeName: "DuplicateKey"}
abbrev pub again_reply : List ℕ
again_reply =
    97 ∷ 0 ∷ 0 ∷ 0 ∷ 4 ∷ 0 ∷ 0 ∷ 0 ∷ 10 ∷ 0 ∷ 0 ∷ 0 ∷ 221 ∷ 7
    ∷ 0 ∷ 0 ∷ 0 ∷ 0 ∷ 0 ∷ 0 ∷ 0 ∷ 76 ∷ 0
    ∷ 0 ∷ 0 ∷ 16 ∷ 111 ∷ 107 ∷ 0 ∷ 0 ∷ 0 ∷ 0 ∷ 0 ∷ 2 ∷ 101 ∷ 114
    ∷ 114 ∷ 109 ∷ 115 ∷ 103 ∷ 0 ∷ 14
    ∷ 0 ∷ 0 ∷ 0 ∷ 100 ∷ 117 ∷ 112 ∷ 108 ∷ 105 ∷ 99 ∷ 97 ∷ 116
    ∷ 101 ∷ 32 ∷ 107 ∷ 101 ∷ 121 ∷ 0 ∷ 16
    ∷ 99 ∷ 111 ∷ 100 ∷ 101 ∷ 0 ∷ 248 ∷ 42 ∷ 0 ∷ 0 ∷ 2 ∷ 99 ∷ 111
    ∷ 100 ∷ 101 ∷ 78 ∷ 97 ∷ 109 ∷ 101
    ∷ 0 ∷ 13 ∷ 0 ∷ 0 ∷ 0 ∷ 68 ∷ 117 ∷ 112 ∷ 108 ∷ 105 ∷ 99 ∷ 97
    ∷ 116 ∷ 101 ∷ 75 ∷ 101 ∷ 121 ∷ 0
    ∷ 0 ∷ []

-- the message of a frame that has a body and nothing else
abbrev pub message : ℕ → List ℕ → Frame
message number bytes =
    record { number = number; more_to_come = false; body = drop 21 bytes; sequences = [] }

abbrev pub FirstRows : Type 0
FirstRows =
    (answer 1 new_world ping_frame ≡ Some (new_world, ping_reply))
    × (answer 2 new_world insert_frame ≡ Some (one_document, insert_reply))
    × (answer 2 new_world beside_frame ≡ Some (one_document, insert_reply))
    × (answer 3 one_document find_frame ≡ Some (one_document, find_reply))
    × (answer 4 one_document again_frame ≡ Some (one_document, again_reply))
    × Splits (ping_frame ++ insert_frame ++ find_frame)
    (message 7 ping_frame ∷ message 8 insert_frame ∷ message 9 find_frame ∷ []) None []
    × (front (25 ∷ 0 ∷ 0 ∷ 0 ∷ []) ≡ Err faults.Length)
