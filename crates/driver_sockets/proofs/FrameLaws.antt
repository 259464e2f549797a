-- Why a question is one whole message.
use Rattle.std.proofs.Common.{◌≡◌, ℕ, zero, suc, ◌+◌, ◌≤◌, List, [], ◌∷◌, length, take, drop, refl, sym, ◌∙◌, ap, arith}
use Rattle.std.specs.Prelude.{Bool, true, false, nat_lt, ◌||◌, Result, Ok, Option, Some, None, if◌then◌else◌}
use Rattle.std.proofs.lemmas.List.{length-append, take_all, drop_all}
use Rattle.std.proofs.lemmas.Nat.{from_le_bytes-to_le_bytes_4}
use Rattle.outcome.specs.Outcome.{◌>>=◌, unless}
use Rattle.bson.specs.Limits.{message_limit}
use Rattle.bson.specs.Spelling.{frame_of as document_of, pairs_bytes}
use Rattle.bson.specs.Tree.{Pairs}
use Rattle.op_msg.specs.Frame.{Frame, Part, Section, body, part_at, number_at, each_from, each_by, section_at, sections_in, body_of_all, sequences_of, frame_of}
use Rattle.op_msg.specs.Frame.{is_no_length, front}
use Rattle.op_msg.specs.Request.{head_bytes, reply_bytes}
use Rattle.op_msg.specs.declared.fault.FrameFault.{FrameFault}
use Rattle.op_msg.specs.declared.fault.FrameFault.TheVariants as faults
use Rattle.driver_sockets.specs.Questions.{question_bytes}
use Rattle.driver_sockets.specs.Laws.{question_frame, QuestionsAreMessages}

not_below : (k n : ℕ) → n ≤ k → nat_lt k n ≡ false
not_below k n e = grind arith

-- ---- a document is the one section

abbrev part_by : Bool → Bool → Bool → List ℕ → List ℕ → Part (List ℕ)
part_by few short long part rest = unless few faults.Section (unless short faults.Section (unless long faults.Section (Ok (part, rest))))

fits_by : (f s l : Bool) (part rest : List ℕ) → f ≡ false → s ≡ false → l ≡ false → part_by f s l part rest ≡ Ok (part, rest)
fits_by false false false part rest a b c = refl
fits_by false false true part rest a b c = absurd cc
fits_by false true l part rest a b c = absurd cc
fits_by true s l part rest a b c = absurd cc

abbrev part_found : List ℕ → List ℕ → Part (List ℕ)
part_found part rest = Ok (part, rest)

-- bytes that say how many they are
whole_part : (bytes : List ℕ) → 5 ≤ length bytes → number_at 0 bytes ≡ length bytes → part_at bytes ≡ part_found bytes []
unfolding part_at
whole_part bytes many own =
    let n = number_at 0 bytes in
    let all : take n bytes ≡ bytes = take_all n bytes (omega (arith, own)) in
    let none : drop n bytes ≡ [] = drop_all n bytes (omega (arith, own)) in
    fits_by (nat_lt (length bytes) 4) (nat_lt n 5) (nat_lt (length bytes) n) (take n bytes) (drop n bytes)
    (not_below (length bytes) 4 (omega (arith, many))) (not_below n 5 (omega (arith, many, own))) (not_below (length bytes) n (omega (arith, own)))
    ∙ (λ i. part_found (all i) (none i))

document_part : (content : List ℕ) → length (document_of content) ≤ message_limit → part_at (document_of content) ≡ part_found (document_of content) []
document_part content fits =
    let doc = document_of content in
    let len : length doc ≡ length content + 5 = omega (arith, length-append content (0 ∷ [])) in
    let own : number_at 0 doc ≡ length content + 5 = from_le_bytes-to_le_bytes_4 (length content + 5) (omega (arith, len, fits)) in
    whole_part doc (omega (arith, len)) (own ∙ sym len)

abbrev section_found : Section → List ℕ → Part Section
section_found section rest = Ok (section, rest)

body_section : (bytes : List ℕ) → part_at bytes ≡ part_found bytes [] → section_at (0 ∷ bytes) ≡ section_found (body bytes) []
unfolding section_at
body_section bytes is = ap (λ (r : Part (List ℕ)). r >>= λ part. section_found (body part.0) part.1) is

no_sections : (most : ℕ) → each_by section_at most [] ≡ ([], [])
unfolding each_by section_at
no_sections zero = refl
no_sections (suc most) = refl

one_section : (bytes : List ℕ) → part_at bytes ≡ part_found bytes [] → sections_in (0 ∷ bytes) ≡ (body bytes ∷ [], [])
unfolding each_by
one_section bytes is =
    ap (each_from (each_by section_at (length bytes)) (0 ∷ bytes)) (body_section bytes is)
    ∙ ap (λ (o : List Section × List ℕ). (body bytes ∷ o.0, o.1)) (no_sections (length bytes))

-- ---- so it is a message

abbrev with_sections : List Section × List ℕ → Result Frame FrameFault
with_sections found =
    body_of_all found >>= λ only. Ok (record { number = 1; more_to_come = false; body = only; sequences = sequences_of found.0 })

whole_frame : (command : Pairs) → length (document_of (pairs_bytes command)) ≤ message_limit → frame_of (question_bytes command) ≡ Ok (question_frame command)
unfolding frame_of reply_bytes
whole_frame command fits =
    ap with_sections (one_section (document_of (pairs_bytes command)) (document_part (pairs_bytes command) fits))

question_length : (command : Pairs) → length (question_bytes command) ≡ length (document_of (pairs_bytes command)) + 21
unfolding reply_bytes
question_length command =
    let doc = document_of (pairs_bytes command) in
    let head : length (head_bytes 1 0 (length doc)) ≡ 21 = refl in
    omega (arith, head, length-append (head_bytes 1 0 (length doc)) doc)

question_own : (command : Pairs) → length (document_of (pairs_bytes command)) + 21 ≤ message_limit
    → number_at 0 (question_bytes command) ≡ length (document_of (pairs_bytes command)) + 21
unfolding reply_bytes
question_own command room = from_le_bytes-to_le_bytes_4 (length (document_of (pairs_bytes command)) + 21) (omega (arith, room))

abbrev Front : Type 0
Front = Result (Option (Frame × List ℕ)) FrameFault

abbrev found : Frame → List ℕ → Front
found frame rest = Ok (Some (frame, rest))

abbrev nothing : Front
nothing = Ok None

-- what is at the front, by the tests
abbrev front_by : Bool → Bool → Bool → Result Frame FrameFault → List ℕ → Front
front_by short wrong part frame rest =
    if short then nothing else unless wrong faults.Length (if part then nothing else (frame >>= λ f. found f rest))

whole_by : (s w p : Bool) (frame : Result Frame FrameFault) (rest : List ℕ) → s ≡ false → w ≡ false → p ≡ false
    → front_by s w p frame rest ≡ (frame >>= λ f. found f rest)
whole_by false false false frame rest a b c = refl
whole_by false false true frame rest a b c = absurd cc
whole_by false true p frame rest a b c = absurd cc
whole_by true w p frame rest a b c = absurd cc

abbrev read_to : List ℕ → List ℕ → Front
read_to whole rest = frame_of whole >>= λ f. found f rest

pub questions_are_messages : QuestionsAreMessages
unfolding front
questions_are_messages command room =
    let w = question_bytes command in
    let n = number_at 0 w in
    let doc = document_of (pairs_bytes command) in
    let len : length w ≡ length doc + 21 = question_length command in
    let own : n ≡ length doc + 21 = question_own command room in
    let long : length doc ≡ length (pairs_bytes command) + 5 = omega (arith, length-append (pairs_bytes command) (0 ∷ [])) in
    let least : nat_lt n 26 ≡ false = not_below n 26 (omega (arith, own, long)) in
    let most : nat_lt message_limit n ≡ false = not_below message_limit n (omega (arith, own, room)) in
    let all : take n w ≡ w = take_all n w (omega (arith, own, len)) in
    let none : drop n w ≡ [] = drop_all n w (omega (arith, own, len)) in
    whole_by (nat_lt (length w) 4) (is_no_length n) (nat_lt (length w) n) (frame_of (take n w)) (drop n w)
    (not_below (length w) 4 (omega (arith, len))) (λ i. least i || most i) (not_below (length w) n (omega (arith, own, len)))
    ∙ (λ i. read_to (all i) (none i))
    ∙ ap (λ (r : Result Frame FrameFault). r >>= λ f. found f []) (whole_frame command (omega (arith, room)))
