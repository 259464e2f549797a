-- Messages worked by hand: what stands at the front of their bytes, where a foreign type stands in
-- them, and whole doubles, by the bit patterns of IEEE 754 (2019, 3.4).
use Rattle.std.specs.Prelude.{◌≡◌, ℕ, pos, negsuc, false, List, [], ◌∷◌, ◌++◌, codes, Option, Some}
use Rattle.std.specs.Prelude.{None, Result, Ok, Err}
use Rattle.std.specs.Int.{w64, to_le_bytes}
use Rattle.bson.specs.Spelling.{element, frame_of}
use Rattle.bson.specs.Tree.{scalar, int32, int64, text, Pairs, no_pairs, pair}
use Rattle.op_msg.specs.Request.{le_32, frame_bytes}
use Rattle.driver_messages.specs.Incoming.{next_message}
use Rattle.driver_messages.specs.Seeking.{foreign_in}
use Rattle.driver_messages.specs.WholeDouble.{integer_of}
use Rattle.driver_messages.specs.WithIntegers.{document_with, section_with}
use Rattle.driver_messages.specs.declared.foreign.Foreign.{Foreign}
use Rattle.driver_messages.specs.declared.foreign.ForeignType.TheVariants as types
use Rattle.driver_messages.specs.declared.message.BodyFault.{BodyFault}
use Rattle.driver_messages.specs.declared.message.BodyFault.TheVariants as bodies
use Rattle.driver_messages.specs.declared.message.Form.{Form}
use Rattle.driver_messages.specs.declared.message.Form.TheVariants as forms
use Rattle.driver_messages.specs.declared.message.Message.{Message}
use Rattle.driver_messages.specs.declared.stream_fault.StreamFault.{StreamFault}
use Rattle.driver_messages.specs.declared.stream_fault.StreamFault.TheVariants as faults

-- {ismaster: 1}
abbrev pub is_master : List ℕ
is_master = le_32 19 ++ 16 ∷ codes "ismaster" ++ 0 ∷ le_32 1 ++ 0 ∷ []

-- an OP_QUERY with the number 1, of this length, to a collection of this name
abbrev pub query_of : List ℕ → ℕ → List ℕ → List ℕ
query_of body len name =
    le_32 len ++ le_32 1 ++ le_32 0 ++ le_32 2004 ++ le_32 4 ++ name ++ 0 ∷ le_32 0
    ++ (255 ∷ 255 ∷ 255 ∷ 255 ∷ []) ++ body

abbrev pub query : ℕ → List ℕ → List ℕ
query len name = query_of is_master len name

abbrev pub read_in : Form → Result Pairs BodyFault
    → Result (Option (Message × List ℕ)) StreamFault
read_in form body = Ok (Some (
  record { number = 1; form = form; more_to_come = false; body = body },
  [],
))

abbrev pub taken : Form → Result (Option (Message × List ℕ)) StreamFault
taken form = read_in form (Ok (pair (codes "ismaster") (scalar (int32 (pos 1))) no_pairs))

pub record QueryRows : Type 0 where
  pub handshake : next_message (query 58 (codes "admin.$cmd")) ≡ taken forms.Command
  pub other : next_message (query 51 (codes "t.c")) ≡ taken forms.Query
  pub not_whole : next_message (query 59 (codes "admin.$cmd")) ≡ Ok None
  pub length : next_message (query 25 (codes "admin.$cmd")) ≡ Err faults.Length
  -- the first bytes of a TLS handshake, of which 16 are enough
  pub tls : next_message (22 ∷ 3 ∷ 1 ∷ 2 ∷ 0 ∷ 1 ∷ 0 ∷ 1 ∷ 252 ∷ 3 ∷ 3 ∷ 0 ∷ 0 ∷ 0 ∷ 0 ∷ 0 ∷ [])
      ≡ Err faults.Length

-- {a: null, d: [{x: a double}]}
abbrev pub double_within : List ℕ
double_within =
    le_32 36 ++ 10 ∷ 97 ∷ 0 ∷ 4 ∷ 100 ∷ 0 ∷ le_32 24 ++ 3 ∷ 48 ∷ 0 ∷ le_32 16
    ++ 1 ∷ 120 ∷ 0 ∷ 0 ∷ 0 ∷ 0 ∷ 0 ∷ 0 ∷ 0 ∷ 248 ∷ 63 ∷ 0 ∷ 0 ∷ 0 ∷ []

abbrev pub double_at : List ℕ → Option Foreign
double_at path = Some (record { kind = types.Double; path = path })

pub record ForeignRows : Type 0 where
  pub within : foreign_in [] double_within ≡ double_at (codes "d.0.x")
  pub in_array : foreign_in (codes "documents" ∷ codes "3" ∷ []) double_within
      ≡ double_at (codes "documents.3.d.0.x")
  pub none : foreign_in [] is_master ≡ None

-- ---- whole doubles

pub record DoubleRows : Type 0 where
  pub zero : integer_of 0x0000000000000000 ≡ Some (pos 0)
  pub minus_zero : integer_of 0x8000000000000000 ≡ Some (pos 0)
  pub one : integer_of 0x3ff0000000000000 ≡ Some (pos 1)
  pub minus_one : integer_of 0xbff0000000000000 ≡ Some (negsuc 0)
  pub five : integer_of 0x4014000000000000 ≡ Some (pos 5)
  pub thousand : integer_of 0x408f400000000000 ≡ Some (pos 1000)
  -- 2^53 - 1, 2^53 and the greatest below 2^63, which is 2^63 - 1024
  pub last_odd : integer_of 0x433fffffffffffff ≡ Some (pos 9007199254740991)
  pub next : integer_of 0x4340000000000000 ≡ Some (pos 9007199254740992)
  pub greatest : integer_of 0x43dfffffffffffff ≡ Some (pos 9223372036854774784)
  -- 0.5, 1.5, 0.1 and the least above zero
  pub half : integer_of 0x3fe0000000000000 ≡ None
  pub one_and_half : integer_of 0x3ff8000000000000 ≡ None
  pub tenth : integer_of 0x3fb999999999999a ≡ None
  pub least : integer_of 0x0000000000000001 ≡ None
  -- 2^63, -2^63, the infinities and a NaN
  pub too_great : integer_of 0x43e0000000000000 ≡ None
  pub too_small : integer_of 0xc3e0000000000000 ≡ None
  pub infinity : integer_of 0x7ff0000000000000 ≡ None
  pub minus_infinity : integer_of 0xfff0000000000000 ≡ None
  pub not_a_number : integer_of 0x7ff8000000000000 ≡ None

abbrev pub double : List ℕ → ℕ → List ℕ
double name bits = element 0x01 name (to_le_bytes w64 bits)

-- an int64, by its bits too
abbrev pub long : List ℕ → ℕ → List ℕ
long name bits = element 0x12 name (to_le_bytes w64 bits)

-- {find: "c", sort: {a: ..}, limit: ..}
abbrev pub find_with : List ℕ → List ℕ → List ℕ
find_with direction limit =
    frame_of (element 0x02 (codes "find") (le_32 2 ++ 99 ∷ 0 ∷ [])
    ++ element 0x03 (codes "sort") (frame_of direction) ++ limit)

-- {filter: {limit: 1.0}}
abbrev pub filter_by_double : List ℕ
filter_by_double =
    frame_of (element 0x03 (codes "filter") (frame_of (double (codes "limit") 0x3ff0000000000000)))

-- the section of kind 1 of {delete: .., deletes: [{q: {}, limit: ..}]} behind its kind, by the type
-- of the limit and its bits
abbrev pub deletes_with : ℕ → ℕ → List ℕ
deletes_with type bits =
    le_32 40 ++ codes "deletes" ++ 0 ∷ frame_of (element 0x03 (codes "q") (frame_of [])
    ++ element type (codes "limit") (to_le_bytes w64 bits))

-- {explain: {count: "c", ..}}
abbrev pub explain_with : List ℕ → List ℕ
explain_with field =
    frame_of (element 0x03 (codes "explain")
    (frame_of (element 0x02 (codes "count") (le_32 2 ++ 99 ∷ 0 ∷ []) ++ field)))

-- {writeConcern: {w: .., wtimeout: ..}}
abbrev pub concern_with : List ℕ → List ℕ → List ℕ
concern_with servers time =
    frame_of (element 0x03 (codes "writeConcern") (frame_of (servers ++ time)))

-- the section of kind 1 of {insert: .., documents: [{ping: 1.0}]} behind its kind
abbrev pub insert_of_double : List ℕ
insert_of_double =
    le_32 33 ++ codes "documents" ++ 0 ∷ frame_of (double (codes "ping") 0x3ff0000000000000)

-- {ping: .., maxTimeMS: ..}, as a message
abbrev pub ping_with : ℕ → ℕ → List ℕ
ping_with bits time =
    frame_bytes 1 0 (frame_of (double (codes "ping") bits ++ double (codes "maxTimeMS") time))

-- {getMore: 5.0}
abbrev pub get_more : List ℕ
get_more = frame_of (double (codes "getMore") 0x4014000000000000)

-- {count: "c", limit: ..}, as a message
abbrev pub count_with : ℕ → List ℕ
count_with bits =
    frame_bytes 1 0 (frame_of (element 0x02 (codes "count") (le_32 2 ++ 99 ∷ 0 ∷ [])
    ++ double (codes "limit") bits))

abbrev pub read_as : Result Pairs BodyFault → Result (Option (Message × List ℕ)) StreamFault
read_as body = read_in forms.Message body

-- {ismaster: ..}
abbrev pub is_master_by : ℕ → List ℕ
is_master_by bits = frame_of (double (codes "ismaster") bits)

pub record IntegerRows : Type 0 where
  pub whole : document_with [] (find_with (double (codes "a") 0xbff0000000000000)
      (double (codes "limit") 0x4014000000000000))
      ≡ find_with (long (codes "a") 0xffffffffffffffff) (long (codes "limit") 5)
  -- one that stays, and all behind it
  pub fraction : document_with [] (find_with (double (codes "a") 0x3ff0000000000000)
      (double (codes "limit") 0x3ff8000000000000))
      ≡ find_with (long (codes "a") 1) (double (codes "limit") 0x3ff8000000000000)
  pub in_filter : document_with [] filter_by_double ≡ filter_by_double
  pub in_section : section_with 1 (deletes_with 0x01 0x3ff0000000000000) ≡ deletes_with 0x12 1
  pub counted : next_message (count_with 0x4014000000000000)
      ≡ read_as (Ok (pair (codes "count") (scalar (text (codes "c")))
      (pair (codes "limit") (scalar (int64 (pos 5))) no_pairs)))
  pub not_counted : next_message (count_with 0x3ff8000000000000)
      ≡ read_as (Err (bodies.Foreign (record { kind = types.Double; path = codes "limit" })))
  -- beside the name of a command, and how long it may take
  pub pinged : next_message (ping_with 0x3ff0000000000000 0x40b3880000000000)
      ≡ read_as (Ok (pair (codes "ping") (scalar (int64 (pos 1)))
      (pair (codes "maxTimeMS") (scalar (int64 (pos 5000))) no_pairs)))
  pub not_pinged : next_message (ping_with 0x3fe0000000000000 0x40b3880000000000)
      ≡ read_as (Err (bodies.Foreign (record { kind = types.Double; path = codes "ping" })))
  pub of_cursor : document_with [] get_more ≡ get_more
  pub explained : document_with [] (explain_with (double (codes "maxTimeMS") 0x40b3880000000000))
      ≡ explain_with (long (codes "maxTimeMS") 5000)
  pub concern : document_with [] (concern_with (double (codes "w") 0x3ff0000000000000)
      (double (codes "wtimeout") 0x40b3880000000000))
      ≡ concern_with (long (codes "w") 1) (long (codes "wtimeout") 5000)
  pub inserted : section_with 1 insert_of_double ≡ insert_of_double
  pub handshake : next_message (query_of (is_master_by 0x3ff0000000000000) 62 (codes "admin.$cmd"))
      ≡ read_in forms.Command (Ok (pair (codes "ismaster") (scalar (int64 (pos 1))) no_pairs))
  pub no_handshake
      : next_message (query_of (is_master_by 0x3fe0000000000000) 62 (codes "admin.$cmd"))
      ≡ read_in forms.Command (Err (bodies.Foreign (
      record { kind = types.Double; path = codes "ismaster" })))
