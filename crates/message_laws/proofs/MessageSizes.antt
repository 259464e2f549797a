-- A message has no fewer bytes than its document's fields take.
use Rattle.std.proofs.Common.{◌≡◌, ℕ, zero, suc, ◌+◌, ◌%◌, ◌<◌, ◌≤◌, Bool, true, false, List, [], ◌∷◌, length, take, drop, Option, Some, None, Result}
use Rattle.std.proofs.Common.{Ok, Err, refl, ap, subst, ◌∙◌, arith}
use Rattle.std.proofs.Common.{length-append, length-take, length-drop}
use Rattle.std.specs.Prelude.{if◌then◌else◌, ◌||◌, ◌==◌, not, nat_le, nat_lt, is_some}
use Rattle.std.specs.Str.{is_utf8}
use Rattle.bson_bytes.proofs.FrameLaws.{IsBytes-drop, IsBytes-take}
use Rattle.bson_bytes.proofs.PairLaws.{IsBytes-rest}
use Rattle.bson_bytes.proofs.TreeLaws.{document_takes, value_reads}
use Rattle.bson.specs.Lawful.{IsBytes}
use Rattle.bson.specs.Limits.{message_limit}
use Rattle.bson.specs.Lookup.{lookup}
use Rattle.bson_bytes.specs.Decoding.{document_at, value_at, zero_at}
use Rattle.bson_bytes.specs.Decoding as names
use Rattle.bson.specs.SizingLaws.{frame_of-length, items_size-item, pairs_size-pair}
use Rattle.bson.specs.Spelling.{items_bytes, pairs_bytes, tree_bytes}
use Rattle.bson.specs.Tree.{Tree, scalar, document, array, append, Pairs, no_pairs, pair, Items, no_items, item}
use Rattle.bson_bytes.specs.declared.fault.BsonFault.{BsonFault}
use Rattle.bson_bytes.specs.declared.fault.BsonFault.TheVariants as bson_faults
use Rattle.bson.specs.declared.kind.Kind.TheVariants as kinds
use Rattle.outcome.specs.Outcome.{◌>>=◌, unless}
use Rattle.op_msg.specs.Frame.{body, body_at, body_of_all, bodies_of, each_by, each_from, each_in, Frame, frame_of, front, has_twice, is_more}
use Rattle.op_msg.specs.Frame.{is_no_length, name_at, names_of, or_section}
use Rattle.op_msg.specs.Frame.{number_at, only_of, Part, part_at, Section, section_at, sections_in, Sequence, sequence, sequence_at, sequence_in}
use Rattle.op_msg.specs.Frame.{sequences_of, flags_of}
use Rattle.op_msg.specs.Request.{array_of, body_of, document_alone, document_in, with_sequence, with_sequences}
use Rattle.op_msg.proofs.SectionWalks.{ok_is, unless_ok}
use Rattle.op_msg.specs.declared.fault.FrameFault.{FrameFault}
use Rattle.op_msg.specs.declared.fault.FrameFault.TheVariants as faults
use Rattle.command_model.specs.FieldsLaws.{later_false}
use Rattle.statements.proofs.ReplyRoom.{replies_have_room}
use Rattle.message_laws.specs.Room.{UpdatesHaveRoom}
use Rattle.statements.specs.Room.{field_size, fields_size, values_size}

-- ---- results

abbrev done : {A E : Type 0} → A → Result A E
done x = Ok x

step_to : {A B E : Type 0} (read : Result A E) (f : A → Result B E) (y : B) → (read >>= f) ≡ Ok y → (x : A) × (read ≡ Ok x) × (f x ≡ Ok y)
step_to (Ok x) f y e = (x, refl, e)
step_to (Err fault) f y e = absurd cc

some_is : {A : Type 0} {x y : A} → ◌≡◌ {A = Option A} (Some x) (Some y) → x ≡ y
some_is e = cc

not_less : (k n : ℕ) → nat_lt k n ≡ false → n ≤ k
not_less k n e = grind arith

-- ---- a document's fields

values_shorter : (i : ℕ) (ts : Items) → values_size ts ≤ length (items_bytes i ts)
values_shorter i no_items = omega arith
values_shorter i (item t ts) = omega (arith, items_size-item i t ts, values_shorter (i + 1) ts)

array_size : (ts : Items) → length (tree_bytes (array ts)) ≡ length (items_bytes 0 ts) + 5
unfolding tree_bytes
array_size ts = frame_of-length (items_bytes 0 ts)

field_shorter : (name : List ℕ) (t : Tree) → field_size name t ≤ length name + length (tree_bytes t) + 2
field_shorter name (array ts) = omega (arith, array_size ts, values_shorter 0 ts)
field_shorter name (scalar s) = omega arith
field_shorter name (document ps) = omega arith

fields_shorter : (ps : Pairs) → fields_size ps ≤ length (pairs_bytes ps)
fields_shorter no_pairs = omega arith
fields_shorter (pair name t ps) = omega (arith, field_shorter name t, fields_shorter ps, pairs_size-pair name t ps)

fields_behind : (ps : Pairs) (name : List ℕ) (t : Tree) → fields_size (append ps (pair name t no_pairs)) ≡ fields_size ps + field_size name t
fields_behind no_pairs name t = omega arith
fields_behind (pair other u ps) name t = omega (arith, fields_behind ps name t)

body_fields : (bytes : List ℕ) (ps : Pairs) → IsBytes bytes → document_in bytes ≡ Ok ps → fields_size ps + 5 ≤ length bytes
body_fields bytes ps fits e = by (document_at bytes) refl e
  where
    by : (r : Result (Pairs × ℕ) BsonFault) → document_at bytes ≡ r → document_alone r ≡ Ok ps → fields_size ps + 5 ≤ length bytes
    by (Err fault) is f = absurd cc
    by (Ok x) is f =
        let takes = document_takes bytes x fits is in
        let same : x.0 ≡ ps = ok_is x.0 ps f in
        omega (
          arith,
          takes.0,
          length-take x.1 bytes,
          ap length takes.1.spelled,
          frame_of-length (pairs_bytes x.0),
          fields_shorter x.0,
          ap fields_size same,
        )

-- ---- sections

abbrev documents_size : List (List ℕ) → ℕ
documents_size [] = 0
documents_size (bytes ∷ documents) = length bytes + documents_size documents

abbrev sequence_size : Sequence → ℕ
sequence_size s = length s.name + documents_size s.documents + 6

abbrev sequences_size : List Sequence → ℕ
sequences_size [] = 0
sequences_size (s ∷ ss) = sequence_size s + sequences_size ss

-- each document is bytes
abbrev AreBytes : List (List ℕ) → Type 0
AreBytes [] = Unit {0}
AreBytes (bytes ∷ documents) = IsBytes bytes × AreBytes documents

abbrev AreOfBytes : List Sequence → Type 0
AreOfBytes [] = Unit {0}
AreOfBytes (s ∷ ss) = AreBytes s.documents × AreOfBytes ss

array_values : (documents : List (List ℕ)) (ts : Items) → AreBytes documents → array_of documents ≡ Ok ts → values_size ts ≤ documents_size documents
array_values [] ts fits e = let same : no_items ≡ ts = cc in omega (arith, ap values_size same)
array_values (bytes ∷ documents) ts fits e =
    let first = step_to (value_at 98 kinds.Document bytes) (λ x. array_of documents >>= (λ others. done {E = BsonFault} (item x.0 others))) ts e in
    let others = step_to (array_of documents) (λ us. done {E = BsonFault} (item first.0.0 us)) ts first.2 in
    let same : item first.0.0 others.0 ≡ ts = ok_is _ _ others.2 in
    let takes = (value_reads 98).takes kinds.Document bytes first.0 fits.0 first.1 in
    omega (
      arith,
      ap length takes.takes.parts,
      length-append (tree_bytes first.0.0) first.0.1,
      array_values documents others.0 fits.1 others.1,
      ap values_size same,
    )

sequence_fields : (ps qs : Pairs) (s : Sequence) → AreBytes s.documents → with_sequence ps s ≡ Ok qs → fields_size qs ≤ fields_size ps + sequence_size s
sequence_fields ps qs s fits e =
    let p = unless_ok (is_some (lookup ps s.name)) bson_faults.Repeated _ qs e in
    let ts = step_to (array_of s.documents) (λ ts. done {E = BsonFault} (append ps (pair s.name (array ts) no_pairs))) qs p.1 in
    let same : append ps (pair s.name (array ts.0) no_pairs) ≡ qs = ok_is _ _ ts.2 in
    omega (arith, ap fields_size same, fields_behind ps s.name (array ts.0), array_values s.documents ts.0 fits ts.1)

sequences_fields : (ps qs : Pairs) (ss : List Sequence) → AreOfBytes ss → with_sequences ps ss ≡ Ok qs → fields_size qs ≤ fields_size ps + sequences_size ss
sequences_fields ps qs [] fits e = let same : ps ≡ qs = ok_is _ _ e in omega (arith, ap fields_size same)
sequences_fields ps qs (s ∷ ss) fits e =
    let one = step_to (with_sequence ps s) (λ rs. with_sequences rs ss) qs e in
    omega (arith, sequence_fields ps one.0 s fits.0 one.1, sequences_fields one.0 qs ss fits.1 one.2)

-- ---- what stands one behind the other

module _ {X : Type 0} (read : List ℕ → Part X) (size : X → ℕ) (Fits : X → Type 0)
    (one : (bytes : List ℕ) (x : X × List ℕ) → IsBytes bytes → read bytes ≡ Ok x → (size x.0 + length x.1 ≤ length bytes) × Fits x.0 × IsBytes x.1) where
  abbrev sum_of : List X → ℕ
  sum_of [] = 0
  sum_of (x ∷ xs) = size x + sum_of xs

  abbrev AllFit : List X → Type 0
  AllFit [] = Unit {0}
  AllFit (x ∷ xs) = Fits x × AllFit xs

  -- what was found is as long as it takes, and fits
  abbrev Holds : List ℕ → List X × List ℕ → Type 0
  Holds bytes found = (sum_of found.0 + length found.1 ≤ length bytes) × AllFit found.0

  each_holds : (most : ℕ) (bytes : List ℕ) → IsBytes bytes → Holds bytes (each_by read most bytes)
  unfolding each_by
  each_holds zero bytes fits = (omega arith, tt)
  each_holds (suc most) bytes fits = by (each_holds most) (read bytes) refl
    where
      by : ((left : List ℕ) → IsBytes left → Holds left (each_by read most left)) → (r : Part X) → read bytes ≡ r
          → Holds bytes (each_from (each_by read most) bytes r)
      by later (Err fault) is = (omega arith, tt)
      by later (Ok x) is =
          let first = one bytes x fits is in
          let others = later x.1 first.2 in
          (omega (arith, first.0, others.0), (first.1, others.1))

-- a part and the bytes after it
part_holds : (bytes : List ℕ) (x : List ℕ × List ℕ) → IsBytes bytes → part_at bytes ≡ Ok x
    → (length x.0 + length x.1 ≤ length bytes) × IsBytes x.0 × IsBytes x.1 × (4 ≤ length x.0)
unfolding part_at
part_holds bytes x fits e =
    let n = number_at 0 bytes in
    let a = unless_ok (nat_lt (length bytes) 4) faults.Section _ x e in
    let b = unless_ok (nat_lt n 5) faults.Section _ x a.1 in
    let c = unless_ok (nat_lt (length bytes) n) faults.Section _ x b.1 in
    let same : (take n bytes, drop n bytes) ≡ x = ok_is _ _ c.1 in
    subst (λ (y : List ℕ × List ℕ). (length y.0 + length y.1 ≤ length bytes) × IsBytes y.0 × IsBytes y.1 × (4 ≤ length y.0)) same (
      omega (arith, length-take n bytes, length-drop n bytes, not_less (length bytes) n c.0),
      IsBytes-take n bytes fits,
      IsBytes-drop n bytes fits,
      omega (arith, length-take n bytes, not_less (length bytes) n c.0, not_less n 5 b.0),
    )

abbrev section_size : Section → ℕ
section_size (body bytes) = length bytes + 1
section_size (sequence s) = sequence_size s

abbrev SectionFits : Section → Type 0
SectionFits (body bytes) = IsBytes bytes
SectionFits (sequence s) = AreBytes s.documents

abbrev SectionHolds : List ℕ → Section × List ℕ → Type 0
SectionHolds bytes x = (section_size x.0 + length x.1 ≤ length bytes + 1) × SectionFits x.0 × IsBytes x.1

body_holds : (bytes : List ℕ) (x : Section × List ℕ) → IsBytes bytes → body_at bytes ≡ Ok x → SectionHolds bytes x
body_holds bytes x fits e =
    let part = step_to (part_at bytes) (λ part. done {E = FrameFault} (body part.0, part.1)) x e in
    let same : (body part.0.0, part.0.1) ≡ x = ok_is _ _ part.2 in
    let p = part_holds bytes part.0 fits part.1 in
    subst (SectionHolds bytes) same (omega (arith, p.0), p.1, p.2)

-- the documents of a section
document_holds : (bytes : List ℕ) (x : List ℕ × List ℕ) → IsBytes bytes → part_at bytes ≡ Ok x
    → (length x.0 + length x.1 ≤ length bytes) × IsBytes x.0 × IsBytes x.1
document_holds bytes x fits e = let p = part_holds bytes x fits e in (p.0, p.1, p.2)

documents_fit : (documents : List (List ℕ)) → AllFit part_at length IsBytes document_holds documents → AreBytes documents
documents_fit [] h = tt
documents_fit (bytes ∷ documents) h = (h.0, documents_fit documents h.1)

documents_sum : (documents : List (List ℕ)) → sum_of part_at length IsBytes document_holds documents ≡ documents_size documents
documents_sum [] = refl
documents_sum (bytes ∷ documents) = ap (λ (n : ℕ). length bytes + n) (documents_sum documents)

section_ok : {X : Type 0} (read : Result X BsonFault) (x : X) → or_section read ≡ Ok x → read ≡ Ok x
section_ok (Ok y) x e = cc
section_ok (Err fault) x e = absurd cc

not_up_to : (k n : ℕ) → nat_le k n ≡ false → n < k
not_up_to k n e = grind arith

name_holds : (bytes : List ℕ) (x : List ℕ × List ℕ) → IsBytes bytes → name_at bytes ≡ Ok x → (length x.0 + 1 + length x.1 ≤ length bytes) × IsBytes x.1
unfolding names.name_at
name_holds bytes x fits e =
    let z = zero_at bytes in
    let a = unless_ok (nat_le (length bytes) z) _ _ x (section_ok (names.name_at bytes) x e) in
    let b = unless_ok (not (is_utf8 (take z bytes))) _ _ x a.1 in
    let same : (take z bytes, drop (z + 1) bytes) ≡ x = ok_is _ _ b.1 in
    subst (λ (y : List ℕ × List ℕ). (length y.0 + 1 + length y.1 ≤ length bytes) × IsBytes y.1) same (
      omega (arith, not_up_to (length bytes) z a.0, length-take z bytes, length-drop (z + 1) bytes),
      IsBytes-drop (z + 1) bytes fits,
    )

abbrev SequenceHolds : List ℕ → Sequence → Type 0
SequenceHolds bytes s = (length s.name + 1 + documents_size s.documents ≤ length bytes) × AreBytes s.documents

named_documents : List ℕ × List ℕ → Sequence
named_documents name = record { name = name.0; documents = (each_in part_at name.1).0 }

sequence_inside : (bytes : List ℕ) (s : Sequence) → IsBytes bytes → sequence_in bytes ≡ Ok s → SequenceHolds bytes s
unfolding named_documents
sequence_inside bytes s fits e =
    let name = step_to (name_at bytes) (λ name. unless (is_more (each_in part_at name.1).1) faults.Section (done (named_documents name))) s e in
    let p = unless_ok (is_more (each_in part_at name.0.1).1) faults.Section (done (named_documents name.0)) s name.2 in
    let same : named_documents name.0 ≡ s = ok_is _ _ p.1 in
    let n = name_holds bytes name.0 fits name.1 in
    let all = each_holds part_at length IsBytes document_holds (length name.0.1) name.0.1 n.1 in
    subst (SequenceHolds bytes) same
    (omega (arith, n.0, all.0, documents_sum (each_in part_at name.0.1).0), documents_fit (each_in part_at name.0.1).0 all.1)

sequence_holds : (bytes : List ℕ) (x : Section × List ℕ) → IsBytes bytes → sequence_at bytes ≡ Ok x → SectionHolds bytes x
sequence_holds bytes x fits e =
    let part = step_to (part_at bytes) (λ part. sequence_in (drop 4 part.0) >>= λ found. done {E = FrameFault} (sequence found, part.1)) x e in
    let found = step_to (sequence_in (drop 4 part.0.0)) (λ found. done {E = FrameFault} (sequence found, part.0.1)) x part.2 in
    let same : (sequence found.0, part.0.1) ≡ x = ok_is _ _ found.2 in
    let p = part_holds bytes part.0 fits part.1 in
    let inside = sequence_inside (drop 4 part.0.0) found.0 (IsBytes-drop 4 part.0.0 p.1) found.1 in
    subst (SectionHolds bytes) same (omega (arith, p.0, p.3, inside.0, length-drop 4 part.0.0), inside.1, p.2)

section_holds : (bytes : List ℕ) (x : Section × List ℕ) → IsBytes bytes → section_at bytes ≡ Ok x
    → (section_size x.0 + length x.1 ≤ length bytes) × SectionFits x.0 × IsBytes x.1
unfolding section_at
section_holds [] x fits e = absurd cc
section_holds (kind ∷ bytes) x fits e = by (kind == 0) (kind == 1) e
  where
    one_longer : SectionHolds bytes x → (section_size x.0 + length x.1 ≤ length (kind ∷ bytes)) × SectionFits x.0 × IsBytes x.1
    one_longer h = (omega (arith, h.0), h.1, h.2)

    by : (a b : Bool) → (if a then body_at bytes else if b then sequence_at bytes else Err faults.Section) ≡ Ok x
        → (section_size x.0 + length x.1 ≤ length (kind ∷ bytes)) × SectionFits x.0 × IsBytes x.1
    by true b f = one_longer (body_holds bytes x (IsBytes-rest kind bytes fits) f)
    by false true f = one_longer (sequence_holds bytes x (IsBytes-rest kind bytes fits) f)
    by false false f = absurd cc

-- ---- a message

-- the sections, by their kinds
abbrev AllSections : List Section → Type 0
AllSections sections = AllFit section_at section_size SectionFits section_holds sections

abbrev sections_size : List Section → ℕ
sections_size sections = sum_of section_at section_size SectionFits section_holds sections

abbrev bodies_size : List (List ℕ) → ℕ
bodies_size [] = 0
bodies_size (bytes ∷ bodies) = length bytes + 1 + bodies_size bodies

sections_parted : (sections : List Section) → sections_size sections ≡ bodies_size (bodies_of sections) + sequences_size (sequences_of sections)
sections_parted [] = refl
sections_parted (body bytes ∷ sections) = omega (arith, sections_parted sections)
sections_parted (sequence s ∷ sections) = omega (arith, sections_parted sections)

bodies_fit : (sections : List Section) → AllSections sections → AreBytes (bodies_of sections)
bodies_fit [] h = tt
bodies_fit (body bytes ∷ sections) h = (h.0, bodies_fit sections h.1)
bodies_fit (sequence s ∷ sections) h = bodies_fit sections h.1

sequences_fit : (sections : List Section) → AllSections sections → AreOfBytes (sequences_of sections)
sequences_fit [] h = tt
sequences_fit (body bytes ∷ sections) h = sequences_fit sections h.1
sequences_fit (sequence s ∷ sections) h = (h.0, sequences_fit sections h.1)

only_is : (bodies : List (List ℕ)) (only : List ℕ) → only_of bodies ≡ Ok only → bodies ≡ only ∷ []
only_is [] only e = absurd cc
only_is (bytes ∷ []) only e = ap (λ (b : List ℕ). b ∷ []) (ok_is bytes only e)
only_is (bytes ∷ other ∷ others) only e = absurd cc

-- a message that was read from these bytes
record FrameHolds (bytes : List ℕ) (frame : Frame) : Type 0 where
  size : length frame.body + sequences_size frame.sequences + 21 ≤ length bytes
  body_fits : IsBytes frame.body
  sequences_fit : AreOfBytes frame.sequences

whole_frame : List ℕ → List ℕ → Frame
whole_frame bytes only =
    record { number = number_at 4 bytes; more_to_come = flags_of bytes == 2; body = only; sequences = sequences_of (sections_in (drop 20 bytes)).0 }

frame_holds : (bytes : List ℕ) (frame : Frame) → IsBytes bytes → frame_of bytes ≡ Ok frame → FrameHolds bytes frame
unfolding frame_of whole_frame
frame_holds bytes frame fits e =
    let found = sections_in (drop 20 bytes) in
    let a = unless_ok (not (number_at 12 bytes == 2013)) faults.Opcode _ frame e in
    let b = unless_ok (nat_lt 3 (flags_of bytes)) faults.Flags _ frame a.1 in
    let c = unless_ok (flags_of bytes % 2 == 1) faults.Checksum _ frame b.1 in
    let only = step_to (body_of_all found) (λ only. done {E = FrameFault} (whole_frame bytes only)) frame c.1 in
    let same : whole_frame bytes only.0 ≡ frame = ok_is _ _ only.2 in
    let d = unless_ok (is_more found.1 || has_twice (names_of found.0)) faults.Section _ only.0 only.1 in
    let alone = only_is (bodies_of found.0) only.0 d.1 in
    let all = each_holds section_at section_size SectionFits section_holds (length (drop 20 bytes)) (drop 20 bytes) (IsBytes-drop 20 bytes fits) in
    subst (FrameHolds bytes) same (record {
      size = omega (arith, all.0, sections_parted found.0, ap bodies_size alone, length-drop 20 bytes);
      body_fits = (subst AreBytes alone (bodies_fit found.0 all.1)).0;
      sequences_fit = sequences_fit found.0 all.1;
    })

frame_fields : (bytes : List ℕ) (frame : Frame) (ps : Pairs) → FrameHolds bytes frame → body_of frame ≡ Ok ps → fields_size ps + 26 ≤ length bytes
frame_fields bytes frame ps h e =
    let inner = step_to (document_in frame.body) (λ qs. with_sequences qs frame.sequences) ps e in
    omega (arith, h.size, body_fields frame.body inner.0 h.body_fits inner.1, sequences_fields inner.0 ps frame.sequences h.sequences_fit inner.2)

-- the document of a message at the front has the limit of a message, less what stands before it
pub message_fields : (bytes : List ℕ) (frame : Frame) (rest : List ℕ) (ps : Pairs) → IsBytes bytes → front bytes ≡ Ok (Some (frame, rest))
    → body_of frame ≡ Ok ps → fields_size ps + 5 ≤ 1048555
unfolding front
message_fields bytes frame rest ps fits e is = by (nat_lt (length bytes) 4) e
  where
    n : ℕ
    n = number_at 0 bytes

    made : Frame → Result (Option (Frame × List ℕ)) FrameFault
    made f = Ok (Some (f, drop n bytes))

    taken : (b : Bool) → is_no_length n ≡ false → (if b then Ok None else (frame_of (take n bytes) >>= made)) ≡ Ok (Some (frame, rest))
        → fields_size ps + 5 ≤ 1048555
    taken true fine f = absurd cc
    taken false fine f =
        let got = step_to (frame_of (take n bytes)) made (Some (frame, rest)) f in
        let same : (got.0, drop n bytes) ≡ (frame, rest) = some_is (ok_is _ _ got.2) in
        let read : frame_of (take n bytes) ≡ Ok frame = got.1 ∙ ap (λ (x : Frame × List ℕ). done {E = FrameFault} x.0) same in
        let h = frame_holds (take n bytes) frame (IsBytes-take n bytes fits) read in
        omega (
          arith,
          frame_fields (take n bytes) frame ps h is,
          length-take n bytes,
          not_less message_limit n (later_false (nat_lt n 26) (nat_lt message_limit n) fine),
        )

    by : (b : Bool)
        → (if b then Ok None else unless (is_no_length n) faults.Length (if nat_lt (length bytes) n then Ok None else (frame_of (take n bytes) >>= made)))
        ≡ Ok (Some (frame, rest)) → fields_size ps + 5 ≤ 1048555
    by true f = absurd cc
    by false f =
        let p = unless_ok (is_no_length n) faults.Length (if nat_lt (length bytes) n then Ok None else (frame_of (take n bytes) >>= made))
        (Some (frame, rest)) f in
        taken (nat_lt (length bytes) n) p.0 p.1

pub updates_have_room : UpdatesHaveRoom
updates_have_room bytes frame rest ps c cs fits e is spelled = replies_have_room ps c cs spelled (message_fields bytes frame rest ps fits e is)
