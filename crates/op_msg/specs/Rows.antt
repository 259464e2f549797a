-- Messages with sections of kind 1, worked by hand: what stands at the front of their bytes, and
-- their documents.
use Rattle.std.specs.Prelude.{◌≡◌, ℕ, ◌+◌, Bool, true, false, List, [], ◌∷◌, ◌++◌, length, codes}
use Rattle.std.specs.Prelude.{Result, Ok, Err, Option, Some}
use Rattle.bson.specs.Tree.{document, array, no_pairs, pair, no_items, item}
use Rattle.bson_bytes.specs.declared.fault.BsonFault.TheVariants as bson_faults
use Rattle.op_msg.specs.Frame.{Frame, Sequence, front}
use Rattle.op_msg.specs.Request.{le_32, body_of}
use Rattle.op_msg.specs.declared.fault.FrameFault.{FrameFault}
use Rattle.op_msg.specs.declared.fault.FrameFault.TheVariants as faults

-- a message with these flags and sections, number 8
abbrev pub message : ℕ → List ℕ → List ℕ
message flags sections =
    le_32 (length sections + 20) ++ le_32 8 ++ le_32 0 ++ le_32 2013 ++ le_32 flags ++ sections

-- the document without fields
abbrev pub empty : List ℕ
empty = 5 ∷ 0 ∷ 0 ∷ 0 ∷ 0 ∷ []

-- {a: null}
abbrev pub one_field : List ℕ
one_field = 8 ∷ 0 ∷ 0 ∷ 0 ∷ 10 ∷ 97 ∷ 0 ∷ 0 ∷ []

abbrev pub body_section : List ℕ
body_section = 0 ∷ empty

-- a section of kind 1 with this size and what stands behind it
abbrev pub sized : ℕ → List ℕ → List ℕ
sized size bytes = 1 ∷ (le_32 size ++ bytes)

-- no document and two, under the name `a`
abbrev pub none_under_a : List ℕ
none_under_a = sized 6 (97 ∷ 0 ∷ [])

abbrev pub two_under_a : List ℕ
two_under_a = sized 19 (97 ∷ 0 ∷ [] ++ empty ++ one_field)

abbrev pub taken : Bool → List ℕ → List Sequence → Result (Option (Frame × List ℕ)) FrameFault
taken more_to_come body sequences =
    Ok (Some (
      record { number = 8; more_to_come = more_to_come; body = body; sequences = sequences },
      [],
    ))

-- the fault that a section behind a body makes of a message
abbrev pub Refuses : List ℕ → FrameFault → Type 0
Refuses section fault = front (message 0 (body_section ++ section)) ≡ Err fault

abbrev pub sequence_a : List (List ℕ) → Sequence
sequence_a documents = record { name = codes "a"; documents = documents }

-- a message of a body and of documents under the name `a`
abbrev pub beside : List ℕ → List (List ℕ) → Frame
beside body documents = record {
  number = 8;
  more_to_come = false;
  body = body;
  sequences = sequence_a documents ∷ [];
}

pub record FlagRows : Type 0 where
  pub none : front (message 0 body_section) ≡ taken false empty []
  pub more_to_come : front (message 2 body_section) ≡ taken true empty []
  pub high : front (message 65536 body_section) ≡ taken false empty []
  pub checksum : front (message 1 body_section) ≡ Err faults.Checksum
  pub both : front (message 3 body_section) ≡ Err faults.Checksum
  pub unknown : front (message 4 body_section) ≡ Err faults.Flags
  pub one_unknown : front (message 5 body_section) ≡ Err faults.Flags

pub record SectionRows : Type 0 where
  pub behind : front (message 0 (body_section ++ two_under_a))
      ≡ taken false empty (sequence_a (empty ∷ one_field ∷ []) ∷ [])
  pub before : front (message 0 (none_under_a ++ body_section))
      ≡ taken false empty (sequence_a [] ∷ [])
  pub unknown_kind : Refuses (2 ∷ empty) faults.Section
  pub small_size : Refuses (sized 4 (97 ∷ 0 ∷ [])) faults.Section
  pub size_past_the_end : Refuses (sized 7 (97 ∷ 0 ∷ [])) faults.Section
  pub endless_name : Refuses (sized 6 (97 ∷ 98 ∷ [])) faults.Section
  pub no_text : Refuses (sized 6 (255 ∷ 0 ∷ [])) faults.Section
  pub name_twice : Refuses (none_under_a ++ two_under_a) faults.Section
  pub small_document : Refuses (sized 10 (97 ∷ 0 ∷ 4 ∷ 0 ∷ 0 ∷ 0 ∷ [])) faults.Section
  pub document_past_its_end : Refuses (sized 11 (97 ∷ 0 ∷ 6 ∷ 0 ∷ 0 ∷ 0 ∷ 0 ∷ [])) faults.Section
  pub byte_left : Refuses (sized 12 (97 ∷ 0 ∷ empty ++ 0 ∷ [])) faults.Section
  pub two_bodies : Refuses (two_under_a ++ body_section) faults.TwoBodies
  pub section_first : Refuses (body_section ++ 2 ∷ empty) faults.Section
  pub no_body : front (message 0 two_under_a) ≡ Err faults.NoBody

pub record BodyRows : Type 0 where
  pub joined : body_of (beside empty (empty ∷ empty ∷ []))
      ≡ Ok (pair (codes "a")
      (array (item (document no_pairs) (item (document no_pairs) no_items))) no_pairs)
  pub none : body_of (beside empty []) ≡ Ok (pair (codes "a") (array no_items) no_pairs)
  pub repeated : body_of (beside one_field []) ≡ Err bson_faults.Repeated
  pub body_first : body_of (beside (5 ∷ 0 ∷ 0 ∷ 0 ∷ 1 ∷ []) ((5 ∷ 0 ∷ 0 ∷ 0 ∷ 1 ∷ []) ∷ []))
      ≡ Err bson_faults.Length
  pub name_first : body_of (beside one_field ((5 ∷ 0 ∷ 0 ∷ 0 ∷ 1 ∷ []) ∷ []))
      ≡ Err bson_faults.Repeated
  pub wrong_document : body_of (beside empty ((5 ∷ 0 ∷ 0 ∷ 0 ∷ 1 ∷ []) ∷ []))
      ≡ Err bson_faults.Length
