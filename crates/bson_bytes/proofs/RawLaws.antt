-- Elements that are known to spell pairs, taken apart.
use Rattle.std.proofs.Common.{◌≡◌, ℕ, ◌+◌, ◌-◌, ◌^◌, ◌<◌, ◌≤◌, false, ◌||◌, ltb, cond, Some, List, [], ◌∷◌, ◌++◌, length, take, drop, Result, Ok, Err, refl}
use Rattle.std.proofs.Common.{sym, ap, subst, ◌∙◌, append_assoc, arith}
use Rattle.std.specs.Int.{w32, to_le_bytes}
use Rattle.std.specs.Str.{bytes_eq}
use Rattle.std.proofs.lemmas.Bool.{le-ltb}
use Rattle.std.proofs.lemmas.List.{length-append, append-nil, take_all, take_at, drop_at}
use Rattle.bson_bytes.specs.declared.fault.BsonFault.{BsonFault}
use Rattle.bson.specs.declared.kind.Kind.{Kind}
use Rattle.bson.specs.Tree.{Scalar, text, binary, object_id, boolean, date, null, int32, timestamp, int64, min_key, max_key, Tree, scalar, document, array}
use Rattle.bson.specs.Tree.{Pairs, no_pairs, pair}
use Rattle.bson.specs.Kinds.{kind}
use Rattle.bson.specs.Lawful.{IsBytes, IsScalar, IsTree}
use Rattle.bson.specs.Spelling.{Spells, scalar_bytes, frame_of, element, type_byte, tree_bytes, pairs_bytes, items_bytes}
use Rattle.bson.specs.SizingLaws.{frame_of-length, element-length, pairs_bytes-none, pairs_bytes-pair}
use Rattle.bson.specs.Lookup.{stands_in}
use Rattle.bson_bytes.specs.Decoding.{kind_of, name_at, value_at, document_at}
use Rattle.bson.specs.Lookup.{lookup}
use Rattle.bson_bytes.specs.Raw.{tree_names, pairs_or_none, pairs_spelled, Elements, IsFirst, number_at, len_at, value_or_null, value_spelled, SpellsValue}
use Rattle.bson_bytes.specs.Raw.{document_or_none, document_spelled, only_length, only_document}
use Rattle.bson_bytes.proofs.FrameLaws.{ok_is, wide32, name_again, kind_again}
use Rattle.bson_bytes.proofs.PairLaws.{pairs_again}
use Rattle.bson_bytes.proofs.TreeLaws.{value_reads, AreNew-none, document_takes, document_again}

-- ---- what elements spell

pub pairs_spelled-is : (bytes : List ℕ) (ps : Pairs) → Elements bytes ps → pairs_spelled bytes ≡ ps
pairs_spelled-is bytes ps e =
    let again = pairs_again (value_at 99) 99 (value_reads 99) (length (pairs_bytes ps)) [] ps e.lawful e.depth (AreNew-none ps) (omega arith)
    (subst (λ (xs : List ℕ). length xs < 2 ^ 31) e.spelled e.short) in
    ap pairs_spelled e.spelled ∙ ap pairs_or_none again

pub Elements-spelled : (bytes : List ℕ) (ps : Pairs) → Elements bytes ps → Elements bytes (pairs_spelled bytes)
Elements-spelled bytes ps e = subst (Elements bytes) (sym (pairs_spelled-is bytes ps e)) e

-- ---- the length of a value

number_at-is : (n : ℕ) (rest : List ℕ) → n < 2 ^ 32 → number_at (to_le_bytes w32 n ++ rest) ≡ n
number_at-is n rest lt =
    let long : ltb (length (to_le_bytes w32 n ++ rest)) 4 ≡ false = le-ltb _ _ (omega arith) in
    rw (long, wide32.again n lt) refl

scalar_len : (s : Scalar) (rest : List ℕ) → IsScalar s → length (scalar_bytes s) < 2 ^ 31
    → len_at (kind (scalar s)) (scalar_bytes s ++ rest) ≡ length (scalar_bytes s)
unfolding len_at
scalar_len (text s) rest lawful short = let n = number_at-is (length s + 1) ((s ++ 0 ∷ []) ++ rest) (omega (arith, length-append s (0 ∷ []))) in
    omega (arith, n, length-append s (0 ∷ []))
scalar_len (binary subtype bytes) rest lawful short = let n = number_at-is (length bytes) ((subtype ∷ bytes) ++ rest) (omega arith) in omega (arith, n)
scalar_len (object_id bytes) rest lawful short = sym lawful.0
scalar_len (boolean b) rest lawful short = refl
scalar_len (date z) rest lawful short = refl
scalar_len null rest lawful short = refl
scalar_len (int32 z) rest lawful short = refl
scalar_len (timestamp n) rest lawful short = refl
scalar_len (int64 z) rest lawful short = refl
scalar_len min_key rest lawful short = refl
scalar_len max_key rest lawful short = refl

frame_len : (content rest : List ℕ) → length (frame_of content) < 2 ^ 31 → number_at (frame_of content ++ rest) ≡ length (frame_of content)
frame_len content rest short =
    let n = number_at-is (length content + 5) ((content ++ 0 ∷ []) ++ rest) (omega (arith, short, frame_of-length content)) in
    omega (arith, n, frame_of-length content)

pub tree_len : (t : Tree) (rest : List ℕ) → IsTree t → length (tree_bytes t) < 2 ^ 31 → len_at (kind t) (tree_bytes t ++ rest) ≡ length (tree_bytes t)
unfolding tree_bytes len_at
tree_len (scalar s) rest lawful short = scalar_len s rest lawful short
tree_len (document ps) rest lawful short = frame_len (pairs_bytes ps) rest short
tree_len (array ts) rest lawful short = frame_len (items_bytes 0 ts) rest short

-- ---- the first element

-- what stands at the front of the elements of a first pair
pub record Front (name : List ℕ) (t : Tree) (ps : Pairs) (type : ℕ) (after : List ℕ) : Type 0 where
  pub kinds : kind_of type ≡ Ok (kind t)
  pub named : name_at after ≡ Ok (name, tree_bytes t ++ pairs_bytes ps)
  pub long : len_at (kind t) (tree_bytes t ++ pairs_bytes ps) ≡ length (tree_bytes t)

abbrev pub HasFront : Pairs → ℕ → List ℕ → Type 0
HasFront no_pairs type after = ⊥
HasFront (pair name t ps) type after = Front name t ps type after

cons_is : (a b : ℕ) (xs ys : List ℕ) → a ∷ xs ≡ b ∷ ys → (a ≡ b) × (xs ≡ ys)
cons_is a b xs ys e = (cc, cc)

pub has_front : (bytes : List ℕ) (ps : Pairs) (type : ℕ) (after : List ℕ) → Elements bytes ps → bytes ≡ type ∷ after → HasFront ps type after
has_front bytes no_pairs type after e front = let both : [] ≡ type ∷ after = sym pairs_bytes-none ∙ sym e.spelled ∙ front in absurd cc
has_front bytes (pair name t ps) type after e front =
    let parts : type ∷ after ≡ type_byte t ∷ (name ++ 0 ∷ (tree_bytes t ++ pairs_bytes ps)) =
    sym front ∙ e.spelled ∙ pairs_bytes-pair name t ps ∙ ap (λ (x : List ℕ). type_byte t ∷ x) (append_assoc name (0 ∷ tree_bytes t) (pairs_bytes ps)) in
    let both = cons_is type (type_byte t) after (name ++ 0 ∷ (tree_bytes t ++ pairs_bytes ps)) parts in
    let size = ap length (e.spelled ∙ pairs_bytes-pair name t ps) in
    let one = length-append (element (type_byte t) name (tree_bytes t)) (pairs_bytes ps) in
    let two = element-length (type_byte t) name (tree_bytes t) in
    record {
      kinds = ap kind_of both.0 ∙ kind_again (kind t);
      named = ap name_at both.1 ∙ name_again name (tree_bytes t ++ pairs_bytes ps) e.lawful.0;
      long = tree_len t (pairs_bytes ps) e.lawful.1 (omega (arith, size, one, two, e.short));
    }

pub no_front : (bytes : List ℕ) (ps : Pairs) → Elements bytes ps → length bytes ≡ 0 → ps ≡ no_pairs
no_front bytes no_pairs e none = refl
no_front bytes (pair name t ps) e none =
    absurd (omega (
      arith,
      ap length (e.spelled ∙ pairs_bytes-pair name t ps),
      length-append (element (type_byte t) name (tree_bytes t)) (pairs_bytes ps),
      element-length (type_byte t) name (tree_bytes t),
    ))

pub kind_found : (ps : Pairs) (type : ℕ) (after : List ℕ) (e : BsonFault) → HasFront ps type after → kind_of type ≡ Err e → ⊥
kind_found no_pairs type after e front failed = front
kind_found (pair name t ps) type after e front failed = let f = front.kinds in absurd cc

pub name_found : (ps : Pairs) (type : ℕ) (after : List ℕ) (e : BsonFault) → HasFront ps type after → name_at after ≡ Err e → ⊥
name_found no_pairs type after e front failed = front
name_found (pair name t ps) type after e front failed = let f = front.named in absurd cc

pub value_fits : (ps : Pairs) (type : ℕ) (after : List ℕ) (k : Kind) (x : List ℕ × List ℕ) → HasFront ps type after → kind_of type ≡ Ok k
    → name_at after ≡ Ok x → len_at k x.1 ≤ length x.1
value_fits no_pairs type after k x front kinded named = absurd front
value_fits (pair name t ps) type after k x front kinded named =
    let same_kind : kind t ≡ k = ok_is (kind t) k (sym front.kinds ∙ kinded) in
    let same : ◌≡◌ {A = List ℕ × List ℕ} (name, tree_bytes t ++ pairs_bytes ps) x = ok_is (name, tree_bytes t ++ pairs_bytes ps) x (sym front.named ∙ named) in
    let len : len_at (kind t) (tree_bytes t ++ pairs_bytes ps) ≡ len_at k x.1 = λ i. len_at (same_kind i) (same i).1 in
    omega (arith, len, ap (λ (y : List ℕ × List ℕ). length y.1) same, front.long, length-append (tree_bytes t) (pairs_bytes ps))

pub first_is : (ps : Pairs) (type : ℕ) (after : List ℕ) (k : Kind) (x : List ℕ × List ℕ) (value rest : List ℕ) (n : ℕ) → HasFront ps type after
    → kind_of type ≡ Ok k → name_at after ≡ Ok x
    → n ≡ len_at k x.1 → value ≡ take n x.1 → rest ≡ drop n x.1 → IsFirst ps k x.0 value rest
first_is no_pairs type after k x value rest n front kinded named len e1 e2 = absurd front
first_is (pair name t ps) type after k x value rest n front kinded named len e1 e2 =
    let same_kind : kind t ≡ k = ok_is (kind t) k (sym front.kinds ∙ kinded) in
    let same : ◌≡◌ {A = List ℕ × List ℕ} (name, tree_bytes t ++ pairs_bytes ps) x = ok_is (name, tree_bytes t ++ pairs_bytes ps) x (sym front.named ∙ named) in
    let at : length (tree_bytes t) ≡ n = sym front.long ∙ (λ i. len_at (same_kind i) (same i).1) ∙ sym len in (
      sym same_kind,
      ap (λ (y : List ℕ × List ℕ). y.0) (sym same),
      e1 ∙ ap (λ (y : List ℕ × List ℕ). take n y.1) (sym same) ∙ take_at (tree_bytes t) (pairs_bytes ps) n at,
      e2 ∙ ap (λ (y : List ℕ × List ℕ). drop n y.1) (sym same) ∙ drop_at (tree_bytes t) (pairs_bytes ps) n at,
    )

-- ---- the elements behind the first

pub Elements-rest : (bytes : List ℕ) (ps : Pairs) (k : Kind) (name value rest : List ℕ) → Elements bytes ps → IsFirst ps k name value rest
    → (qs : Pairs) × (t : Tree) × (ps ≡ pair name t qs) × Elements rest qs × (length rest < length bytes) × (value ≡ tree_bytes t) × (k ≡ kind t)
Elements-rest bytes no_pairs k name value rest e first = absurd first
Elements-rest bytes (pair other t qs) k name value rest e first =
    let size = ap length (e.spelled ∙ pairs_bytes-pair other t qs) in
    let one = length-append (element (type_byte t) other (tree_bytes t)) (pairs_bytes qs) in
    let shorter : length rest < length bytes = omega (arith, size, one, ap length first.3) in (
      qs,
      t,
      ap (λ (n : List ℕ). pair n t qs) (sym first.1),
      record { lawful = e.lawful.3; depth = omega (arith, e.depth); spelled = first.3; short = omega (arith, e.short, shorter) },
      shorter,
      first.2,
      first.0,
    )

-- ---- a value

pub value_spelled-is : (k : Kind) (bytes : List ℕ) (t : Tree) → SpellsValue k bytes t → value_spelled k bytes ≡ t
value_spelled-is k bytes t s =
    let again = (value_reads 99).again t [] s.lawful s.depth (subst (λ (xs : List ℕ). length xs < 2 ^ 31) s.spelled s.short) in
    (λ i. value_spelled (s.same_kind i) ((s.spelled ∙ sym (append-nil (tree_bytes t))) i)) ∙ ap value_or_null again

pub SpellsValue-spelled : (k : Kind) (bytes : List ℕ) (t : Tree) → SpellsValue k bytes t → SpellsValue k bytes (value_spelled k bytes)
SpellsValue-spelled k bytes t s = subst (SpellsValue k bytes) (sym (value_spelled-is k bytes t s)) s

-- reading such a value fails for want of memory alone
pub value_at-spelled : (k : Kind) (bytes : List ℕ) (t : Tree) → SpellsValue k bytes t → value_at 99 k bytes ≡ Ok (t, [])
value_at-spelled k bytes t s =
    let again = (value_reads 99).again t [] s.lawful s.depth (subst (λ (xs : List ℕ). length xs < 2 ^ 31) s.spelled s.short) in
    (λ i. value_at 99 (s.same_kind i) ((s.spelled ∙ sym (append-nil (tree_bytes t))) i)) ∙ again

-- ---- a step from the elements to those behind the first

pub record Step (bytes : List ℕ) (k : Kind) (value rest name wanted : List ℕ) : Type 0 where
  pub elements : Elements rest (pairs_spelled rest)
  pub shorter : length rest < length bytes
  pub stands : stands_in (tree_names (pairs_spelled bytes)) wanted ≡ (bytes_eq wanted name || stands_in (tree_names (pairs_spelled rest)) wanted)
  pub looked : lookup (pairs_spelled bytes) wanted ≡ cond (bytes_eq wanted name) (Some (value_spelled k value)) (lookup (pairs_spelled rest) wanted)
  pub spelled : SpellsValue k value (value_spelled k value)

pub element_step : (bytes : List ℕ) (k : Kind) (name value rest wanted : List ℕ) → Elements bytes (pairs_spelled bytes)
    → IsFirst (pairs_spelled bytes) k name value rest → Step bytes k value rest name wanted
element_step bytes k name value rest wanted e first =
    let r = Elements-rest bytes (pairs_spelled bytes) k name value rest e first in
    let others : pairs_spelled rest ≡ r.0 = pairs_spelled-is rest r.0 r.3 in
    let whole = subst (Elements bytes) r.2 e in
    let size = ap length (whole.spelled ∙ pairs_bytes-pair name r.1 r.0) in
    let one = length-append (element (type_byte r.1) name (tree_bytes r.1)) (pairs_bytes r.0) in
    let two = element-length (type_byte r.1) name (tree_bytes r.1) in
    let spells :
    SpellsValue k value r.1 = record {
      lawful = whole.lawful.1;
      depth = omega (arith, whole.depth);
      same_kind = r.6;
      spelled = r.5;
      short = omega (arith, ap length r.5, size, one, two, e.short);
    } in
    let same : value_spelled k value ≡ r.1 = value_spelled-is k value r.1 spells in
    record {
      elements = Elements-spelled rest r.0 r.3;
      shorter = r.4;
      stands = ap (λ (ps : Pairs). stands_in (tree_names ps) wanted) r.2
          ∙ ap (λ (ps : Pairs). bytes_eq wanted name || stands_in (tree_names ps) wanted) (sym others);
      looked = ap (λ (ps : Pairs). lookup ps wanted) r.2 ∙ (λ i. cond (bytes_eq wanted name) (Some (sym same i)) (lookup (sym others i) wanted));
      spelled = SpellsValue-spelled k value r.1 spells;
    }

-- ---- a whole document

-- what spells a document is read whole
pub document_whole : (bytes : List ℕ) (ps : Pairs) → Spells bytes ps → document_at bytes ≡ Ok (ps, length bytes)
document_whole bytes ps s = ap document_at (sym (append-nil bytes)) ∙ document_again bytes ps [] s

-- so no other length is read there
pub no_other_length : (bytes : List ℕ) (ps : Pairs) (n : ℕ) → only_length (document_at bytes) ≡ Ok n → Spells bytes ps → n ≡ length bytes
no_other_length bytes ps n e s = ok_is n (length bytes) (sym e ∙ ap only_length (document_whole bytes ps s))

pub no_fault : (bytes : List ℕ) (ps : Pairs) (f : BsonFault) → only_length (document_at bytes) ≡ Err f → Spells bytes ps → ⊥
no_fault bytes ps f e s = let both = sym e ∙ ap only_length (document_whole bytes ps s) in cc

pub document_spelled-is : (bytes : List ℕ) (ps : Pairs) → Spells bytes ps → document_spelled bytes ≡ ps
document_spelled-is bytes ps s = ap document_spelled (sym (append-nil bytes)) ∙ ap document_or_none (document_again bytes ps [] s)

-- the elements of a document
pub content_elements : (bytes rest content : List ℕ) (ps : Pairs) (n : ℕ) → Spells bytes ps → rest ≡ drop 4 bytes → n ≡ length rest - 1 → content ≡ take n rest
    → Elements content ps
content_elements bytes rest content ps n s e1 e2 e3 =
    let tail : rest ≡ pairs_bytes ps ++ 0 ∷ [] = e1 ∙ ap (drop 4) s.spelled in
    let size : length (pairs_bytes ps) ≡ n = omega (arith, ap length tail, length-append (pairs_bytes ps) (0 ∷ []), e2) in
    let same : content ≡ pairs_bytes ps = e3 ∙ ap (take n) tail ∙ take_at (pairs_bytes ps) (0 ∷ []) n size in
    let whole = ap length s.spelled ∙ frame_of-length (pairs_bytes ps) in
    record { lawful = s.lawful.lawful; depth = s.lawful.depth; spelled = same; short = omega (arith, ap length same, whole, s.size) }

-- what reading found at the front of the input
pub record RawFound (bytes : List ℕ) (n : ℕ) : Type 0 where
  pub within : n ≤ length bytes
  pub spells : Spells (take n bytes) (document_spelled (take n bytes))
  pub gives : only_document (document_at bytes) ≡ Ok (document_spelled (take n bytes))

length_ok : (r : Result (Pairs × ℕ) BsonFault) (n : ℕ) → only_length r ≡ Ok n → (ps : Pairs) × (r ≡ Ok (ps, n))
length_ok (Ok x) n e = let same : x.1 ≡ n = cc in (x.0, ap (λ (m : ℕ). let y : Result (Pairs × ℕ) BsonFault = Ok (x.0, m) in y) same)
length_ok (Err f) n e = absurd cc

pub length_err : (r : Result (Pairs × ℕ) BsonFault) (f : BsonFault) → only_length r ≡ Err f → r ≡ Err f
length_err (Ok x) f e = absurd cc
length_err (Err g) f e = let same : g ≡ f = cc in ap (λ (h : BsonFault). Err h) same

pub raw_found : (bytes : List ℕ) (n : ℕ) → IsBytes bytes → only_length (document_at bytes) ≡ Ok n → RawFound bytes n
raw_found bytes n fits e =
    let found = length_ok (document_at bytes) n e in
    let took = document_takes bytes (found.0, n) fits found.1 in
    let same = document_spelled-is (take n bytes) found.0 took.1 in
    record {
      within = took.0;
      spells = subst (Spells (take n bytes)) (sym same) took.1;
      gives = ap only_document found.1 ∙ ap (λ (ps : Pairs). Ok ps) (sym same);
    }

-- bytes of which all were read spell a document
pub all_found : (bytes : List ℕ) (n : ℕ) → IsBytes bytes → only_length (document_at bytes) ≡ Ok n → n ≡ length bytes → Spells bytes (document_spelled bytes)
all_found bytes n fits e is =
    subst (λ xs. Spells xs (document_spelled xs)) (take_all n bytes (omega (arith, is))) (raw_found bytes n fits e).spells

-- what is spelled at the front is what reading found
pub raw_only : (bytes front rest : List ℕ) (ps : Pairs) → Spells front ps → bytes ≡ front ++ rest → only_document (document_at bytes) ≡ Ok ps
raw_only bytes front rest ps s e = ap (λ (xs : List ℕ). only_document (document_at xs)) e ∙ ap only_document (document_again front ps rest s)
