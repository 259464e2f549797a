-- What functions that read return, beside what the definitions give.
use Rattle.std.specs.Prelude.{◌≡◌, ℕ, Bool, List, [], ◌∷◌, Result, Ok, Err, Option, Some, None}
use Rattle.std.specs.Prelude.{option_map, is_some}
use Rattle.outcome.specs.Outcome.{◌>>=◌, unless}
use Rattle.bson.specs.Lawful.{NoZero, IsDocument}
use Rattle.bson.specs.Lookup.{lookup}
use Rattle.bson.specs.Lookup.{stands_in}
use Rattle.bson_bytes.specs.Decoding.{value_at}
use Rattle.bson.specs.Tree.{Items, no_items, item, append_items, Pairs, append}
use Rattle.bson.specs.View.{pairs_of}
use Rattle.bson.specs.declared.value.Pair.{Pair}
use Rattle.bson_bytes.specs.declared.fault.BsonFault.{BsonFault}
use Rattle.bson.specs.declared.kind.Kind.TheVariants as kinds
use Rattle.op_msg.specs.Frame.{Frame, Sequence, Section, body, sequence, part_at, each_in}
use Rattle.op_msg.specs.Frame.{bodies_of, sequences_of, sections_in}
use Rattle.op_msg.specs.declared.fault.FrameFault.{FrameFault}
use Rattle.op_msg.specs.declared.fault.FrameFault.TheVariants as faults
use Rattle.op_msg.specs.declared.first_message.Message.{Message}
use Rattle.op_msg.specs.declared.sections.Found.{Found}
use Rattle.op_msg.specs.declared.sections.Sequence.{Sequence as SequenceRead}
use Rattle.op_msg.specs.declared.sections.Section.{Section as SectionRead}
use Rattle.op_msg.specs.declared.sections.Section.TheVariants as read

-- what a function returned, seen by view, is what reading gives
abbrev pub Finds : {X Y : Type 0} → (X → Y) → Result X FrameFault → Result Y FrameFault → Type 0
Finds view (Ok x) planned = planned ≡ Ok (view x)
Finds view (Err e) planned = planned ≡ Err e

-- the sections of the definition
abbrev pub sequence_of : SequenceRead → Sequence
sequence_of s = record { name = s.name.now; documents = (each_in part_at s.documents.now).0 }

abbrev pub section_of : SectionRead → Section
section_of (read.Body bytes) = body bytes.now
section_of (read.Sequence s) = sequence (sequence_of s)

-- the frame of the definition
abbrev pub frame_in : Message → Frame
frame_in message = record {
  number = message.number;
  more_to_come = message.more_to_come;
  body = message.body.now;
  sequences = sequences_of (sections_in message.sections.now).0;
}

-- the one body, where some were found before these: the first, and whether there were more
abbrev pub only_found : Option (List ℕ) → Bool → Result (List ℕ) FrameFault
only_found None several = Err faults.NoBody
only_found (Some bytes) several = unless several faults.TwoBodies (Ok bytes)

abbrev pub first_or : Option (List ℕ) → List ℕ → List ℕ
first_or None bytes = bytes
first_or (Some first) bytes = first

abbrev pub only_from : Option (List ℕ) → Bool → List (List ℕ) → Result (List ℕ) FrameFault
only_from first several [] = only_found first several
only_from first several (bytes ∷ others) =
    only_from (Some (first_or first bytes)) (is_some first) others

-- the one body, of what was found and of these sections behind it
abbrev pub body_with : Found → List Section → Result (List ℕ) FrameFault
body_with found sections =
    only_from (option_map (λ b. b.now) found.body) found.has_more_bodies (bodies_of sections)

-- an array with one document more
abbrev pub with_document : Items → List ℕ → Result Items BsonFault
with_document ts bytes =
    value_at 98 kinds.Document bytes >>= λ t. Ok (append_items ts (item t.0 no_items))

-- a name has no zero
abbrev pub HasName : Section → Type 0
HasName (body bytes) = Unit {0}
HasName (sequence s) = NoZero s.name

-- the fields of a body, and those that sections added behind them
abbrev pub joined : Pairs → List Pair → Pairs
joined ps added = append ps (pairs_of added)

-- they make a document, whose names are these
pub record IsJoining (ps : Pairs) (names : List (List ℕ)) (added : List Pair) : Type 0 where
  pub lawful : IsDocument (joined ps added)
  pub named : (name : List ℕ) → stands_in names name ≡ is_some (lookup (joined ps added) name)
