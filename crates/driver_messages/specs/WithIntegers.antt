-- A message in which each whole double that is a number of the command itself stands as that
-- integer, an int64. It has as many bytes as a double has, so every length in the message stays as
-- it is.
use Rattle.std.specs.Prelude.{ℕ, ℤ, zero, suc, ◌+◌, ◌==◌, if◌then◌else◌, List, [], ◌∷◌, ◌++◌}
use Rattle.std.specs.Prelude.{length, take, drop, Option, Some, None, Result, Ok, Err}
use Rattle.std.specs.Fmt.{decimal}
use Rattle.std.specs.Int.{w64, to_le_bytes, cast_unsigned}
use Rattle.bson_bytes.specs.Raw.{number_at, len_at}
use Rattle.bson_bytes.specs.Decoding.{name_at, kind_of}
use Rattle.bson.specs.Spelling.{element}
use Rattle.bson_bytes.specs.declared.fault.BsonFault.{BsonFault}
use Rattle.bson.specs.declared.kind.Kind.{Kind}
use Rattle.bson.specs.declared.kind.Kind.TheVariants as kinds
use Rattle.driver_messages.specs.OwnNumbers.{is_own_number}
use Rattle.driver_messages.specs.Seeking.{Place, inside, outside}
use Rattle.driver_messages.specs.WholeDouble.{integer_at}

-- What stands at the front of what is left of a document.
pub data Passed : Type 0 where
  -- so many bytes that stay as they are, and the place behind them
  kept : ℕ → Place → Passed
  -- such a double, by its name and its integer; one stays at the place
  integer : List ℕ → ℤ → Place → Passed
  -- nothing that can be passed over
  ended : Passed

-- into a document or an array, behind its length, or over any other value
abbrev pub over_known : Kind → Place → List ℕ → List ℕ → Passed
over_known kinds.Document place name bytes = kept (length name + 6) (inside place name)
over_known kinds.Array place name bytes = kept (length name + 6) (inside place name)
over_known k place name bytes = kept (length name + 2 + len_at k bytes) place

abbrev pub over_kind : Result Kind BsonFault → Place → List ℕ → List ℕ → Passed
over_kind (Ok k) place name bytes = over_known k place name bytes
over_kind (Err fault) place name bytes = ended

abbrev pub integer_or_end : Option ℤ → Place → List ℕ → Passed
integer_or_end (Some z) place name = integer name z place
integer_or_end None place name = ended

abbrev pub over_double : Place → List ℕ → List ℕ → Passed
over_double place name bytes =
    if is_own_number place name then integer_or_end (integer_at bytes) place name else ended

abbrev pub over_value : ℕ → Place → List ℕ → List ℕ → Passed
over_value b place name bytes =
    if b == 0x01 then over_double place name bytes else over_kind (kind_of b) place name bytes

abbrev pub over_named : ℕ → Place → Result (List ℕ × List ℕ) BsonFault → Passed
over_named b place (Ok x) = over_value b place x.0 x.1
over_named b place (Err fault) = ended

-- a closing zero, or a value with its name
unfoldable pub passed : Place → List ℕ → Passed
passed place [] = ended
passed place (b ∷ bytes) =
    if b == 0 then kept 1 (outside place) else over_named b place (name_at bytes)

abbrev pub int64_element : List ℕ → ℤ → List ℕ
int64_element name z = element 0x12 name (to_le_bytes w64 (cast_unsigned w64 z))

abbrev pub written : (Place → List ℕ → List ℕ) → List ℕ → Passed → List ℕ
written others bytes (kept count place) = take count bytes ++ others place (drop count bytes)
written others bytes (integer name z place) =
    int64_element name z ++ others place (drop (length name + 10) bytes)
written others bytes ended = bytes

-- Each value takes a byte at least, so there are at most as many as there are bytes.
unfoldable pub elements_with : ℕ → Place → List ℕ → List ℕ
elements_with zero place bytes = bytes
elements_with (suc most) place bytes = written (elements_with most) bytes (passed place bytes)

-- in a document at this place, whose length stands in front
abbrev pub document_with : Place → List ℕ → List ℕ
document_with place bytes = take 4 bytes ++ elements_with (length bytes) place (drop 4 bytes)

-- ---- in the sections of a message (MongoDB wire protocol, OP_MSG)

-- in documents one behind the other, which are items of an array of this name, from this place on
unfoldable pub documents_with : ℕ → ℕ → List ℕ → List ℕ → List ℕ
documents_with zero i name bytes = bytes
documents_with (suc most) i name [] = []
documents_with (suc most) i name (b ∷ bytes) =
    document_with (name ∷ decimal i ∷ []) (take (number_at (b ∷ bytes)) (b ∷ bytes))
    ++ documents_with most (i + 1) name (drop (number_at (b ∷ bytes)) (b ∷ bytes))

-- a section of kind 1, by the name behind its size and what follows that
abbrev pub sequence_with : List ℕ → Result (List ℕ × List ℕ) BsonFault → List ℕ
sequence_with bytes (Ok x) =
    take (length x.0 + 5) bytes ++ documents_with (length bytes) 0 x.0 x.1
sequence_with bytes (Err fault) = bytes

abbrev pub section_with : ℕ → List ℕ → List ℕ
section_with kind bytes =
    if kind == 0 then document_with [] bytes else sequence_with bytes (name_at (drop 4 bytes))

unfoldable pub sections_with : ℕ → List ℕ → List ℕ
sections_with zero bytes = bytes
sections_with (suc most) [] = []
sections_with (suc most) (kind ∷ bytes) =
    kind ∷ (section_with kind (take (number_at bytes) bytes)
    ++ sections_with most (drop (number_at bytes) bytes))

-- an OP_MSG, whose sections stand behind a header of 16 bytes and the flags
abbrev pub with_integers : List ℕ → List ℕ
with_integers whole = take 20 whole ++ sections_with (length whole) (drop 20 whole)
