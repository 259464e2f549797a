-- A message is as long with its whole doubles as integers as it is without.
use Rattle.std.proofs.Common.{◌≡◌, ℕ, zero, suc, ◌+◌, ◌≤◌, Bool, true, false, List, [], ◌∷◌, ◌++◌, length, take, drop, Option, Some, None, Result, Ok, Err}
use Rattle.std.proofs.Common.{ℤ, refl, ap, arith}
use Rattle.std.specs.Prelude.{if◌then◌else◌, nat_lt, nat_le, ◌==◌}
use Rattle.std.specs.Int.{w64, to_le_bytes, cast_unsigned}
use Rattle.std.specs.Fmt.{decimal}
use Rattle.std.proofs.lemmas.Bool.Decides.{nat_tests}
use Rattle.std.proofs.lemmas.List.{length-take, length-drop, length-append}
use Rattle.outcome.specs.Outcome.{unless}
use Rattle.bson_bytes.specs.Raw.{number_at}
use Rattle.bson_bytes.specs.Decoding.{name_at, kind_of, zero_at}
use Rattle.bson_bytes.specs.declared.fault.BsonFault.{BsonFault}
use Rattle.bson_bytes.specs.declared.fault.BsonFault.TheVariants as faults
use Rattle.bson.specs.declared.kind.Kind.{Kind}
use Rattle.bson.specs.declared.kind.Kind.TheVariants as kinds
use Rattle.driver_messages.specs.Laws.{CommandKeepsLength, KeepsLength}
use Rattle.driver_messages.specs.OwnNumbers.{is_own_number}
use Rattle.driver_messages.specs.Seeking.{Place}
use Rattle.driver_messages.specs.WholeDouble.{integer_at}
use Rattle.driver_messages.specs.WithIntegers.{Passed, kept, integer, ended, passed, over_named, over_kind, over_known, integer_or_end, int64_element, written}
use Rattle.driver_messages.specs.WithIntegers.{elements_with, document_with, documents_with, sequence_with, section_with, sections_with}

-- ---- what is passed over is there

-- a double that is put as an integer has its bytes
abbrev Fits : List ℕ → Passed → Type 0
Fits bytes (kept count place) = Unit {0}
Fits bytes (integer name z place) = length name + 10 ≤ length bytes
Fits bytes ended = Unit {0}

one_fits : (bytes : List ℕ) (test : Bool) (p q : Passed) → Fits bytes p → Fits bytes q → Fits bytes (if test then p else q)
one_fits bytes true p q a b = a
one_fits bytes false p q a b = b

known_fits : (bytes : List ℕ) (k : Kind) (place : Place) (name value : List ℕ) → Fits bytes (over_known k place name value)
known_fits bytes kinds.String place name value = tt
known_fits bytes kinds.Document place name value = tt
known_fits bytes kinds.Array place name value = tt
known_fits bytes kinds.Binary place name value = tt
known_fits bytes kinds.ObjectId place name value = tt
known_fits bytes kinds.Bool place name value = tt
known_fits bytes kinds.Date place name value = tt
known_fits bytes kinds.Null place name value = tt
known_fits bytes kinds.Int32 place name value = tt
known_fits bytes kinds.Timestamp place name value = tt
known_fits bytes kinds.Int64 place name value = tt
known_fits bytes kinds.MinKey place name value = tt
known_fits bytes kinds.MaxKey place name value = tt

kind_fits : (bytes : List ℕ) (k : Result Kind BsonFault) (place : Place) (name value : List ℕ) → Fits bytes (over_kind k place name value)
kind_fits bytes (Ok k) place name value = known_fits bytes k place name value
kind_fits bytes (Err fault) place name value = tt

eight_by : (value : List ℕ) (test : Bool) (found : Option ℤ) (z : ℤ) → nat_lt (length value) 8 ≡ test → (if test then None else found) ≡ Some z
    → 8 ≤ length value
eight_by value true found z is e = absurd cc
eight_by value false found z is e = grind (arith, nat_tests)

integer_fits : (bytes : List ℕ) (found : Option ℤ) (place : Place) (name : List ℕ) → ((z : ℤ) → found ≡ Some z → length name + 10 ≤ length bytes)
    → Fits bytes (integer_or_end found place name)
integer_fits bytes (Some z) place name room = room z refl
integer_fits bytes None place name room = tt

named_by : (bytes : List ℕ) (at : ℕ) (x : List ℕ × List ℕ) (short wrong : Bool) → nat_le (length bytes) at ≡ short
    → unless {X = List ℕ × List ℕ} short faults.Name (unless wrong faults.Name (Ok (take at bytes, drop (at + 1) bytes))) ≡ Ok x
    → length x.0 + 1 + length x.1 ≡ length bytes
named_by bytes at x true wrong is e = absurd cc
named_by bytes at x false true is e = absurd cc
named_by bytes at x false false is e =
    let both : x ≡ (take at bytes, drop (at + 1) bytes) = cc in
    let front : length x.0 ≡ length (take at bytes) = ap (λ (y : List ℕ × List ℕ). length y.0) both in
    let behind : length x.1 ≡ length (drop (at + 1) bytes) = ap (λ (y : List ℕ × List ℕ). length y.1) both in
    grind (arith, nat_tests, is, front, behind, length-take at bytes, length-drop (at + 1) bytes)

-- a name, the zero that ends it, and what follows are all the bytes
named : (bytes : List ℕ) (x : List ℕ × List ℕ) → name_at bytes ≡ Ok x → length x.0 + 1 + length x.1 ≡ length bytes
unfolding name_at
named bytes x e = named_by bytes (zero_at bytes) x (nat_le (length bytes) (zero_at bytes)) _ refl e

value_fits : (b : ℕ) (bytes : List ℕ) (place : Place) (found : Result (List ℕ × List ℕ) BsonFault) → name_at bytes ≡ found
    → Fits (b ∷ bytes) (over_named b place found)
value_fits b bytes place (Err fault) is = tt
value_fits b bytes place (Ok x) is =
    let all = b ∷ bytes in
    let room : (z : ℤ) → integer_at x.1 ≡ Some z → length x.0 + 10 ≤ length all =
    λ z e. omega (arith, eight_by x.1 (nat_lt (length x.1) 8) _ z refl e, named bytes x is) in
    one_fits all (b == 0x01) _ _
    (one_fits all (is_own_number place x.0) _ _ (integer_fits all (integer_at x.1) place x.0 room) tt)
    (kind_fits all (kind_of b) place x.0 x.1)

passed_fits : (place : Place) (bytes : List ℕ) → Fits bytes (passed place bytes)
unfolding passed
passed_fits place [] = tt
passed_fits place (b ∷ bytes) = one_fits (b ∷ bytes) (b == 0) _ _ tt (value_fits b bytes place (name_at bytes) refl)

-- ---- elements

put_keeps : (count : ℕ) (bytes others : List ℕ) → length others ≡ length (drop count bytes) → length (take count bytes ++ others) ≡ length bytes
put_keeps count bytes others same =
    omega (arith, same, length-append (take count bytes) others, length-take count bytes, length-drop count bytes)

int64_long : (name : List ℕ) (z : ℤ) → length (int64_element name z) ≡ length name + 10
int64_long name z = omega (arith, length-append name (0 ∷ to_le_bytes w64 (cast_unsigned w64 z)))

written_keeps : (others : Place → List ℕ → List ℕ) → ((place : Place) (bytes : List ℕ) → length (others place bytes) ≡ length bytes)
    → (bytes : List ℕ) (p : Passed) → Fits bytes p → length (written others bytes p) ≡ length bytes
written_keeps others keep bytes (kept count place) fits = put_keeps count bytes (others place (drop count bytes)) (keep place (drop count bytes))
written_keeps others keep bytes (integer name z place) fits =
    let rest = drop (length name + 10) bytes in
    omega (arith, fits, length-append (int64_element name z) (others place rest), int64_long name z, keep place rest, length-drop (length name + 10) bytes)
written_keeps others keep bytes ended fits = refl

elements_keep : (most : ℕ) (place : Place) (bytes : List ℕ) → length (elements_with most place bytes) ≡ length bytes
unfolding elements_with
elements_keep zero place bytes = refl
elements_keep (suc most) place bytes = written_keeps (elements_with most) (elements_keep most) bytes (passed place bytes) (passed_fits place bytes)

document_keeps : (place : Place) (bytes : List ℕ) → length (document_with place bytes) ≡ length bytes
document_keeps place bytes = put_keeps 4 bytes _ (elements_keep (length bytes) place (drop 4 bytes))

-- ---- sections

part_keeps : (bytes part others : List ℕ) → length part ≡ length (take (number_at bytes) bytes) → length others ≡ length (drop (number_at bytes) bytes)
    → length (part ++ others) ≡ length bytes
part_keeps bytes part others first later =
    omega (arith, first, later, length-append part others, length-take (number_at bytes) bytes, length-drop (number_at bytes) bytes)

documents_keep : (most i : ℕ) (name bytes : List ℕ) → length (documents_with most i name bytes) ≡ length bytes
unfolding documents_with
documents_keep zero i name bytes = refl
documents_keep (suc most) i name [] = refl
documents_keep (suc most) i name (b ∷ bytes) =
    let all = b ∷ bytes in
    part_keeps all (document_with (name ∷ decimal i ∷ []) (take (number_at all) all)) (documents_with most (i + 1) name (drop (number_at all) all))
    (document_keeps (name ∷ decimal i ∷ []) (take (number_at all) all)) (documents_keep most (i + 1) name (drop (number_at all) all))

sequence_keeps : (bytes : List ℕ) (found : Result (List ℕ × List ℕ) BsonFault) → name_at (drop 4 bytes) ≡ found
    → length (sequence_with bytes found) ≡ length bytes
sequence_keeps bytes (Err fault) is = refl
sequence_keeps bytes (Ok x) is =
    let documents = documents_with (length bytes) 0 x.0 x.1 in
    omega (
      arith,
      named (drop 4 bytes) x is,
      length-drop 4 bytes,
      documents_keep (length bytes) 0 x.0 x.1,
      length-append (take (length x.0 + 5) bytes) documents,
      length-take (length x.0 + 5) bytes,
    )

one_keeps : (test : Bool) (bytes first other : List ℕ) → length first ≡ length bytes → length other ≡ length bytes
    → length (if test then first else other) ≡ length bytes
one_keeps true bytes first other a b = a
one_keeps false bytes first other a b = b

section_keeps : (kind : ℕ) (bytes : List ℕ) → length (section_with kind bytes) ≡ length bytes
section_keeps kind bytes =
    one_keeps (kind == 0) bytes _ _ (document_keeps [] bytes) (sequence_keeps bytes (name_at (drop 4 bytes)) refl)

sections_keep : (most : ℕ) (bytes : List ℕ) → length (sections_with most bytes) ≡ length bytes
unfolding sections_with
sections_keep zero bytes = refl
sections_keep (suc most) [] = refl
sections_keep (suc most) (kind ∷ bytes) =
    let part = take (number_at bytes) bytes in
    let after = drop (number_at bytes) bytes in
    ap suc (part_keeps bytes (section_with kind part) (sections_with most after) (section_keeps kind part) (sections_keep most after))

pub keeps_length : KeepsLength
keeps_length whole = put_keeps 20 whole _ (sections_keep (length whole) (drop 20 whole))

pub command_keeps_length : CommandKeepsLength
command_keeps_length bytes = document_keeps [] bytes
