-- The first value, from the left, of a type that the database doesn't have (BSON 1.1,
-- bsonspec.org), in bytes that are otherwise a document: into documents and arrays, and over what
-- other values hold.
use Rattle.std.specs.Prelude.{ℕ, zero, suc, ◌+◌, ◌-◌, ◌==◌, if◌then◌else◌, List, [], ◌∷◌, ◌++◌}
use Rattle.std.specs.Prelude.{length, take, drop, Option, Some, None, Result, Ok, Err}
use Rattle.std.specs.Option.{option_or, option_map}
use Rattle.std.specs.Fmt.{decimal}
use Rattle.bson_bytes.specs.Raw.{number_at, len_at}
use Rattle.bson_bytes.specs.Decoding.{name_at, kind_of}
use Rattle.bson_bytes.specs.declared.fault.BsonFault.{BsonFault}
use Rattle.bson.specs.declared.kind.Kind.{Kind}
use Rattle.bson.specs.declared.kind.Kind.TheVariants as kinds
use Rattle.driver_messages.specs.ForeignTypes.{foreign_of}
use Rattle.driver_messages.specs.declared.foreign.Foreign.{Foreign}
use Rattle.driver_messages.specs.declared.foreign.ForeignType.{ForeignType}

-- Names, from the outermost one.
abbrev pub Place : Type 0
Place = List (List ℕ)

-- the place of a value in the document that has this place
abbrev pub inside : Place → List ℕ → Place
inside place name = place ++ name ∷ []

abbrev pub outside : Place → Place
outside place = take (length place - 1) place

-- names with dots between them
abbrev pub more_dotted : Place → List ℕ
more_dotted [] = []
more_dotted (name ∷ names) = 46 ∷ (name ++ more_dotted names)

abbrev pub dotted : Place → List ℕ
dotted [] = []
dotted (name ∷ names) = name ++ more_dotted names

-- Where one goes on, and the bytes that follow; or the end: with what was sought, or without.
abbrev pub Seek : Type 0
Seek = Result (Place × List ℕ) (Option (ForeignType × Place))

-- over the length of a document or an array, and over any other value
abbrev pub past : Kind → Place → List ℕ → List ℕ → Seek
past kinds.Document place name bytes = Ok (inside place name, drop 4 bytes)
past kinds.Array place name bytes = Ok (inside place name, drop 4 bytes)
past k place name bytes = Ok (place, drop (len_at k bytes) bytes)

abbrev pub past_known : Result Kind BsonFault → Place → List ℕ → List ℕ → Seek
past_known (Ok k) place name bytes = past k place name bytes
past_known (Err fault) place name bytes = Err None

-- a value under this type
abbrev pub past_value : Option ForeignType → ℕ → Place → List ℕ → List ℕ → Seek
past_value (Some type) b place name bytes = Err (Some (type, inside place name))
past_value None b place name bytes = past_known (kind_of b) place name bytes

abbrev pub past_named : ℕ → Place → Result (List ℕ × List ℕ) BsonFault → Seek
past_named b place (Ok x) = past_value (foreign_of b) b place x.0 x.1
past_named b place (Err fault) = Err None

-- One step to the right: out of a document or an array at its closing zero, else over a name and
-- into its value or over it.
unfoldable pub step : Place → List ℕ → Seek
step place [] = Err None
step place (b ∷ bytes) =
    if b == 0 then Ok (outside place, bytes) else past_named b place (name_at bytes)

abbrev pub on : (Place → List ℕ → Option (ForeignType × Place)) → Seek
    → Option (ForeignType × Place)
on next (Ok x) = next x.0 x.1
on next (Err end) = end

-- Each step takes a byte at least, so there are at most as many as there are bytes.
unfoldable pub seek : ℕ → Place → List ℕ → Option (ForeignType × Place)
seek zero place bytes = None
seek (suc most) place bytes = on (seek most) (step place bytes)

abbrev pub foreign_at : ForeignType × Place → Foreign
foreign_at x = record { kind = x.0; path = dotted x.1 }

-- in a document at this place, whose length stands in front
abbrev pub foreign_in : Place → List ℕ → Option Foreign
foreign_in place bytes = option_map foreign_at (seek (length bytes) place (drop 4 bytes))

-- ---- in the sections of a message (MongoDB wire protocol, OP_MSG)

-- in documents one behind the other, which are items of an array of this name, from this place on
unfoldable pub in_documents : ℕ → ℕ → List ℕ → List ℕ → Option Foreign
in_documents zero i name bytes = None
in_documents (suc most) i name [] = None
in_documents (suc most) i name (b ∷ bytes) =
    option_or (foreign_in (name ∷ decimal i ∷ []) (take (number_at (b ∷ bytes)) (b ∷ bytes)))
    (in_documents most (i + 1) name (drop (number_at (b ∷ bytes)) (b ∷ bytes)))

-- behind the size of a section of kind 1
abbrev pub in_sequence : Result (List ℕ × List ℕ) BsonFault → Option Foreign
in_sequence (Ok x) = in_documents (length x.1) 0 x.0 x.1
in_sequence (Err fault) = None

abbrev pub in_section : ℕ → List ℕ → Option Foreign
in_section kind bytes =
    if kind == 0 then foreign_in [] bytes else in_sequence (name_at (drop 4 bytes))

unfoldable pub in_sections : ℕ → List ℕ → Option Foreign
in_sections zero bytes = None
in_sections (suc most) [] = None
in_sections (suc most) (kind ∷ bytes) =
    option_or (in_section kind (take (number_at bytes) bytes))
    (in_sections most (drop (number_at bytes) bytes))

abbrev pub foreign_in_sections : List ℕ → Option Foreign
foreign_in_sections bytes = in_sections (length bytes) bytes
