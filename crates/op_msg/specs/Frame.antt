-- The message at the front of bytes, or the first fault there (MongoDB wire protocol, OP_MSG). A
-- message is the int32 of its length, which counts all its bytes, the numbers of the request and of
-- what it answers, the opcode 2013, 32 flags, and sections to its end. A section is a kind and, of
-- kind 0, a document that is the body; of kind 1 the int32 of its size, which counts itself, a name
-- that a zero ends, and documents to the section's end. One section is the body, and no two of kind
-- 1 have the same name. Flag bit 1 says that the message wants no reply. A wrong length is a fault
-- as soon as its four bytes are there; of the faults that wait for the whole message the first of
-- Opcode, Flags, Checksum, Section, TwoBodies and NoBody is the one. Bytes that are no whole
-- message and have no fault are nothing yet.
use Rattle.std.specs.Prelude.{ℕ, zero, suc, ◌%◌, ◌^◌, Bool, false, not, ◌||◌, ◌==◌, nat_lt}
use Rattle.std.specs.Prelude.{if◌then◌else◌, List, [], ◌∷◌, length, map, take, drop, Result, Ok}
use Rattle.std.specs.Prelude.{Err, Option, Some, None}
use Rattle.outcome.specs.Outcome.{◌>>=◌, unless}
use Rattle.std.specs.Int.{w32, from_le_bytes}
use Rattle.bson.specs.Limits.{message_limit}
use Rattle.bson.specs.Lookup.{stands_in}
use Rattle.bson_bytes.specs.Decoding as names
use Rattle.bson_bytes.specs.declared.fault.BsonFault.{BsonFault}
use Rattle.op_msg.specs.declared.fault.FrameFault.{FrameFault}
use Rattle.op_msg.specs.declared.fault.FrameFault.TheVariants as faults

-- A section of kind 1: the name of an array, and the bytes of each of its documents.
pub record Sequence : Type 0 where
  pub name : List ℕ
  pub documents : List (List ℕ)

pub data Section : Type 0 where
  -- the bytes of a body
  body : List ℕ → Section
  sequence : Sequence → Section

-- A message in its frame: the number of the request, whether it wants no reply, the bytes of its
-- body, and its sections of kind 1 in their order.
pub record Frame : Type 0 where
  pub number : ℕ
  pub more_to_come : Bool
  pub body : List ℕ
  pub sequences : List Sequence

-- what stands at the front, and the bytes after it
abbrev pub Part : Type 0 → Type 0
Part X = Result (X × List ℕ) FrameFault

-- the number in the four bytes at a place
abbrev pub number_at : ℕ → List ℕ → ℕ
number_at place bytes = from_le_bytes w32 (take 4 (drop place bytes))

-- Bytes that begin with their own length, where that is 5 at least and fits.
unfoldable pub part_at : List ℕ → Part (List ℕ)
part_at bytes =
    unless (nat_lt (length bytes) 4) faults.Section
    (unless (nat_lt (number_at 0 bytes) 5) faults.Section
    (unless (nat_lt (length bytes) (number_at 0 bytes)) faults.Section
    (Ok (take (number_at 0 bytes) bytes, drop (number_at 0 bytes) bytes))))

abbrev pub or_section : {X : Type 0} → Result X BsonFault → Result X FrameFault
or_section (Ok x) = Ok x
or_section (Err fault) = Err faults.Section

-- a name as documents have it: in UTF-8, up to the first zero
abbrev pub name_at : List ℕ → Part (List ℕ)
name_at bytes = or_section (names.name_at bytes)

-- As many as stand at the front, one behind the other, but no more than this, and the bytes that
-- are left.
abbrev pub each_from : {X : Type 0} → (List ℕ → List X × List ℕ) → List ℕ → Part X → List X × List ℕ
each_from others bytes (Ok x) = (x.0 ∷ (others x.1).0, (others x.1).1)
each_from others bytes (Err fault) = ([], bytes)

unfoldable pub each_by : {X : Type 0} → (List ℕ → Part X) → ℕ → List ℕ → List X × List ℕ
each_by read zero bytes = ([], bytes)
each_by read (suc most) bytes = each_from (each_by read most) bytes (read bytes)

-- Each takes a byte at least, so there are at most as many as there are bytes.
abbrev pub each_in : {X : Type 0} → (List ℕ → Part X) → List ℕ → List X × List ℕ
each_in read bytes = each_by read (length bytes) bytes

abbrev pub is_more : List ℕ → Bool
is_more bytes = not (length bytes == 0)

-- what a section of kind 1 holds behind its size
abbrev pub sequence_in : List ℕ → Result Sequence FrameFault
sequence_in bytes = do
  name ← name_at bytes
  unless (is_more (each_in part_at name.1).1) faults.Section
      (Ok (record { name = name.0; documents = (each_in part_at name.1).0 }))

-- a section behind its kind
abbrev pub body_at : List ℕ → Part Section
body_at bytes = do
  part ← part_at bytes
  Ok (body part.0, part.1)

abbrev pub sequence_at : List ℕ → Part Section
sequence_at bytes = do
  part ← part_at bytes
  found ← sequence_in (drop 4 part.0)
  Ok (sequence found, part.1)

unfoldable pub section_at : List ℕ → Part Section
section_at [] = Err faults.Section
section_at (kind ∷ bytes) =
    if kind == 0 then body_at bytes else
    if kind == 1 then sequence_at bytes else
    Err faults.Section

abbrev pub sections_in : List ℕ → List Section × List ℕ
sections_in bytes = each_in section_at bytes

abbrev pub bodies_of : List Section → List (List ℕ)
bodies_of [] = []
bodies_of (body bytes ∷ sections) = bytes ∷ bodies_of sections
bodies_of (sequence found ∷ sections) = bodies_of sections

abbrev pub sequences_of : List Section → List Sequence
sequences_of [] = []
sequences_of (body bytes ∷ sections) = sequences_of sections
sequences_of (sequence found ∷ sections) = found ∷ sequences_of sections

abbrev pub names_of : List Section → List (List ℕ)
names_of sections = map (λ s. s.name) (sequences_of sections)

-- some name stands twice
abbrev pub has_twice : List (List ℕ) → Bool
has_twice [] = false
has_twice (name ∷ names) = stands_in names name || has_twice names

abbrev pub only_of : List (List ℕ) → Result (List ℕ) FrameFault
only_of [] = Err faults.NoBody
only_of (bytes ∷ []) = Ok bytes
only_of (bytes ∷ other ∷ others) = Err faults.TwoBodies

-- the one body among sections that reach the end
abbrev pub body_of_all : List Section × List ℕ → Result (List ℕ) FrameFault
body_of_all found =
    unless (is_more found.1 || has_twice (names_of found.0)) faults.Section
    (only_of (bodies_of found.0))

-- the flags of which a reader has to know each
abbrev pub flags_of : List ℕ → ℕ
flags_of bytes = number_at 16 bytes % 2 ^ 16

-- a whole message
unfoldable pub frame_of : List ℕ → Result Frame FrameFault
frame_of bytes =
    unless (not (number_at 12 bytes == 2013)) faults.Opcode
    (unless (nat_lt 3 (flags_of bytes)) faults.Flags
    (unless (flags_of bytes % 2 == 1) faults.Checksum (do
      only ← body_of_all (sections_in (drop 20 bytes))
      Ok (record {
        number = number_at 4 bytes;
        more_to_come = flags_of bytes == 2;
        body = only;
        sequences = sequences_of (sections_in (drop 20 bytes)).0;
      }))))

-- the length is that of no message
abbrev pub is_no_length : ℕ → Bool
is_no_length len = nat_lt len 26 || nat_lt message_limit len

-- The message at the front with the bytes after it, or nothing where it isn't whole yet. A length
-- that is wrong is a fault as soon as its four bytes are there, any other fault comes with the
-- whole message.
unfoldable pub front : List ℕ → Result (Option (Frame × List ℕ)) FrameFault
front bytes =
    if nat_lt (length bytes) 4 then Ok None else
    unless (is_no_length (number_at 0 bytes)) faults.Length
    (if nat_lt (length bytes) (number_at 0 bytes) then Ok None else (do
      frame ← frame_of (take (number_at 0 bytes) bytes)
      Ok (Some (frame, drop (number_at 0 bytes) bytes))))
