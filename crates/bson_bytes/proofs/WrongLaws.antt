-- What is wrong at a place, behind what is spelled before it, is the fault that reading gives.
use Rattle.std.proofs.Common.{◌≡◌, ◌≢◌, ◌⊎◌, ℕ, zero, suc, ◌+◌, ◌-◌, ◌^◌, ◌<◌, ◌≤◌, Bool, true, false, not, eqb, List, [], ◌∷◌, ◌++◌, length, drop, Result, Ok}
use Rattle.std.proofs.Common.{Err, refl, sym, ap, subst, ◌∙◌, append_assoc, arith, inl, inr}
use Rattle.std.specs.Prelude.{slice_index, nat_le, nat_lt}
use Rattle.std.specs.Int.{w32, to_le_bytes}
use Rattle.std.specs.Fmt.{decimal}
use Rattle.std.proofs.lemmas.Slice.Eq.{bytes_eq-Decides}
use Rattle.std.proofs.lemmas.List.{append-nil, length-append, length-drop, get_or-drop}
use Rattle.bson_bytes.specs.declared.fault.BsonFault.{BsonFault}
use Rattle.bson_bytes.specs.declared.fault.BsonFault.TheVariants as faults
use Rattle.bson.specs.declared.kind.Kind.{Kind}
use Rattle.bson.specs.declared.kind.Kind.TheVariants as kinds
use Rattle.bson.specs.Tree.{Tree, document, array, Pairs, no_pairs, pair, Items, no_items, item}
use Rattle.bson.specs.Lawful.{IsBytes, IsPairs, IsItems, pairs_levels, items_levels}
use Rattle.bson.specs.Limits.{message_limit}
use Rattle.outcome.specs.Outcome.{◌>>=◌}
use Rattle.bson.specs.Spelling.{frame_of, element, type_byte, tree_bytes, pairs_bytes, items_bytes}
use Rattle.bson.specs.Edits.{items_len}
use Rattle.bson_bytes.specs.Decoding.{Read, leaf, scalar_at, count_at, ended_at, content_at, element_by, item_by, pairs_by, items_by, value_at, pairs_in}
use Rattle.bson_bytes.specs.Decoding.{items_in}
use Rattle.bson.specs.Lookup.{stands_in}
use Rattle.bson_bytes.specs.Decoding.{length_at, document_at, is_no_index}
use Rattle.bson_bytes.specs.Raw.{tree_names}
use Rattle.bson_bytes.specs.FirstFault.{WrongScalar, WrongElement, wrong_type, wrong_name, wrong_here, wrong_value, WrongPair, WrongItem, WrongFrame}
use Rattle.bson_bytes.specs.FirstFault.{wrong_count}
use Rattle.bson_bytes.specs.FirstFault.{wrong_end, wrong_in, WrongValue, WrongDocument, wrong_length, wrong_last, wrong_inside}
use Rattle.bson_bytes.proofs.FrameLaws.{name_again, content_again, not_below, wide32, ended_again}
use Rattle.bson_bytes.proofs.PairLaws.{Reads, AreNew, AreNew-with, regroup_element, element_again}
use Rattle.bson_bytes.proofs.TreeLaws.{AreNew-none, value_reads, length_takes, IsName-decimal}

abbrev Reader : Type 0
Reader = Kind → List ℕ → Read Tree

abbrev Wrong : Type 1
Wrong = Kind → List ℕ → ℕ → ℕ → BsonFault → Type 0

-- ---- elements

element_refused : (value : Kind → List ℕ → ℕ → ℕ → BsonFault → Type 0) (read : Reader) (wrong : List ℕ → Bool) (named_fault : BsonFault) (type : ℕ)
    (bytes : List ℕ) (place seen : ℕ) (e : BsonFault) → length bytes < 2 ^ 31
    → ((k : Kind) (rest : List ℕ) (p s : ℕ) → length rest < 2 ^ 31 → value k rest p s e → read k rest ≡ Err e)
    → WrongElement value wrong named_fault type bytes place seen e → element_by read wrong named_fault type bytes ≡ Err e
unfolding element_by
element_refused value read wrong named_fault type bytes place seen e short inner (wrong_type at upto unknown) = rw unknown refl
element_refused value read wrong named_fault type bytes place seen e short inner (wrong_name at upto k known bad) = rw (known, bad) refl
element_refused value read wrong named_fault type bytes place seen e short inner (wrong_here at name rest upto k known is_name parts here is) =
    ap (element_by read wrong named_fault type) parts ∙ rw (known, name_again name rest is_name, here) (ap (λ (g : BsonFault). Err g) (sym is))
element_refused value read wrong named_fault type bytes place seen e short inner (wrong_value name rest k known is_name parts right w) =
    let bad = inner k rest w.at w.upto (omega (arith, ap length parts, length-append name (0 ∷ rest))) w.inner in
    ap (element_by read wrong named_fault type) parts ∙ rw (known, name_again name rest is_name, right, bad) refl

-- ---- element after element

pairs_before : (read : Reader) (more : ℕ) → Reads read more → (e : BsonFault) (rest : List ℕ) (ps : Pairs) (most : ℕ) (earlier : List (List ℕ)) → IsPairs ps
    → pairs_levels ps ≤ more → AreNew ps earlier → length (pairs_bytes ps ++ rest) ≤ most
    → length (pairs_bytes ps) < 2 ^ 31 → ((left : ℕ) → length rest ≤ left → pairs_by read left (earlier ++ tree_names ps) rest ≡ Err e)
    → pairs_by read most earlier (pairs_bytes ps ++ rest) ≡ Err e
unfolding pairs_by pairs_bytes
pairs_before read more reads e rest no_pairs most earlier lawful depth new fits short failed =
    ap (λ (names : List (List ℕ)). pairs_by read most names rest) (sym (append-nil earlier)) ∙ failed most fits
pairs_before read more reads e rest (pair name t ps) zero earlier lawful depth new fits short failed = absurd (omega arith)
pairs_before read more reads e rest (pair name t ps) (suc most) earlier lawful depth new fits short failed =
    let tail = pairs_bytes ps ++ rest in
    let whole : pairs_bytes (pair name t ps) ++ rest ≡ type_byte t ∷ (name ++ 0 ∷ (tree_bytes t ++ tail)) =
    append_assoc (element (type_byte t) name (tree_bytes t)) (pairs_bytes ps) rest ∙ regroup_element (type_byte t) name (tree_bytes t) tail in
    let len = length-append (name ++ 0 ∷ tree_bytes t) (pairs_bytes ps) in
    let len2 = length-append name (0 ∷ tree_bytes t) in
    let len3 = length-append (element (type_byte t) name (tree_bytes t) ++ pairs_bytes ps) rest in
    let len4 = length-append (pairs_bytes ps) rest in
    let others =
    pairs_before read more reads e rest ps most (earlier ++ name ∷ []) lawful.3 (omega arith) (AreNew-with ps earlier name new.1 lawful.2)
    (omega (arith, fits, len, len2, len3, len4)) (omega (arith, short, len, len2))
    (λ left le. ap (λ (names : List (List ℕ)). pairs_by read left names rest) (append_assoc earlier (name ∷ []) (tree_names ps)) ∙ failed left le) in
    let first = element_again read more reads (stands_in earlier) faults.Repeated name t tail lawful.0 lawful.1 (omega arith)
    (omega (arith, short, len, len2)) new.0 in
    ap (pairs_by read (suc most) earlier) whole ∙ rw (first, others) refl

pair_failed : (read : Reader) (earlier : List (List ℕ)) (type : ℕ) (bytes : List ℕ) (e : BsonFault)
    → element_by read (stands_in earlier) faults.Repeated type bytes ≡ Err e → (left : ℕ) → length (type ∷ bytes) ≤ left
    → pairs_by read left ([] ++ earlier) (type ∷ bytes) ≡ Err e
unfolding pairs_by
pair_failed read earlier type bytes e bad zero le = absurd (omega arith)
pair_failed read earlier type bytes e bad (suc left) le = rw bad refl

pairs_refused : (value : Kind → List ℕ → ℕ → ℕ → BsonFault → Type 0) (read : Reader) (more : ℕ) → Reads read more → (e : BsonFault)
    → ((k : Kind) (rest : List ℕ) (p s : ℕ) → length rest < 2 ^ 31 → value k rest p s e → read k rest ≡ Err e)
    → (content : List ℕ) (place seen : ℕ) → length content < 2 ^ 31 → WrongPair more value content place seen e
    → pairs_by read (length content) [] content ≡ Err e
pairs_refused value read more reads e inner content place seen short w =
    let size = ap length w.parts in
    let len = length-append (pairs_bytes w.before) (w.type ∷ w.bytes) in
    ap (pairs_by read (length content) []) w.parts
    ∙ pairs_before read more reads e (w.type ∷ w.bytes) w.before (length content) [] w.lawful w.depth (AreNew-none w.before) (omega (arith, size))
    (omega (arith, size, len, short))
    (pair_failed read (tree_names w.before) w.type w.bytes e
    (element_refused value read (stands_in (tree_names w.before)) faults.Repeated w.type w.bytes w.element.at w.element.upto e
    (omega (arith, size, len, short)) inner w.element.inner))

items_before : (read : Reader) (more : ℕ) → Reads read more → (e : BsonFault) (rest : List ℕ) (ts : Items) (most i : ℕ) → IsItems ts → items_levels ts ≤ more
    → length (items_bytes i ts ++ rest) ≤ most
    → i + length (items_bytes i ts) < 2 ^ 31 → ((left : ℕ) → length rest ≤ left → items_by read left (i + items_len ts) rest ≡ Err e)
    → items_by read most i (items_bytes i ts ++ rest) ≡ Err e
unfolding items_by items_bytes item_by
items_before read more reads e rest no_items most i lawful depth fits short failed = let same : i ≡ i + 0 = omega arith in
    ap (λ (j : ℕ). items_by read most j rest) same ∙ failed most fits
items_before read more reads e rest (item t ts) zero i lawful depth fits short failed = absurd (omega arith)
items_before read more reads e rest (item t ts) (suc most) i lawful depth fits short failed =
    let tail = items_bytes (i + 1) ts ++ rest in
    let whole : items_bytes i (item t ts) ++ rest ≡ type_byte t ∷ (decimal i ++ 0 ∷ (tree_bytes t ++ tail)) =
    append_assoc (element (type_byte t) (decimal i) (tree_bytes t)) (items_bytes (i + 1) ts) rest
    ∙ regroup_element (type_byte t) (decimal i) (tree_bytes t) tail in
    let len = length-append (decimal i ++ 0 ∷ tree_bytes t) (items_bytes (i + 1) ts) in
    let len2 = length-append (decimal i) (0 ∷ tree_bytes t) in
    let len3 = length-append (element (type_byte t) (decimal i) (tree_bytes t) ++ items_bytes (i + 1) ts) rest in
    let len4 = length-append (items_bytes (i + 1) ts) rest in
    let others =
    items_before read more reads e rest ts most (i + 1) lawful.1 (omega arith) (omega (arith, fits, len, len2, len3, len4)) (omega (arith, short, len, len2))
    (λ left le. let same : i + 1 + items_len ts ≡ i + suc (items_len ts) = omega arith in ap (λ (j : ℕ). items_by read left j rest) same ∙ failed left le) in
    let right : is_no_index i (decimal i) ≡ false = ap not ((bytes_eq-Decides (decimal i) (decimal i)).1 refl) in
    let first = element_again read more reads (is_no_index i) faults.ArrayName (decimal i) t tail (IsName-decimal i (omega arith)) lawful.0 (omega arith)
    (omega (arith, short, len, len2)) right in
    ap (items_by read (suc most) i) whole ∙ rw (first, others) refl

item_failed : (read : Reader) (i type : ℕ) (bytes : List ℕ) (e : BsonFault) → element_by read (is_no_index i) faults.ArrayName type bytes ≡ Err e → (left : ℕ)
    → length (type ∷ bytes) ≤ left → items_by read left (0 + i) (type ∷ bytes) ≡ Err e
unfolding items_by item_by
item_failed read i type bytes e bad zero le = absurd (omega arith)
item_failed read i type bytes e bad (suc left) le = let same : 0 + i ≡ i = omega arith in
    ap (λ (j : ℕ). items_by read (suc left) j (type ∷ bytes)) same ∙ rw bad refl

items_refused : (value : Kind → List ℕ → ℕ → ℕ → BsonFault → Type 0) (read : Reader) (more : ℕ) → Reads read more → (e : BsonFault)
    → ((k : Kind) (rest : List ℕ) (p s : ℕ) → length rest < 2 ^ 31 → value k rest p s e → read k rest ≡ Err e)
    → (content : List ℕ) (place seen : ℕ) → length content < 2 ^ 31 → WrongItem more value content place seen e
    → items_by read (length content) 0 content ≡ Err e
items_refused value read more reads e inner content place seen short w =
    let size = ap length w.parts in
    let len = length-append (items_bytes 0 w.before) (w.type ∷ w.bytes) in
    ap (items_by read (length content) 0) w.parts
    ∙ items_before read more reads e (w.type ∷ w.bytes) w.before (length content) 0 w.lawful w.depth (omega (arith, size)) (omega (arith, size, len, short))
    (item_failed read (items_len w.before) w.type w.bytes e
    (element_refused value read (is_no_index (items_len w.before)) faults.ArrayName w.type w.bytes w.element.at w.element.upto e
    (omega (arith, size, len, short)) inner w.element.inner))

-- ---- documents and arrays

le-nat_le : (a b : ℕ) → a ≤ b → nat_le a b ≡ true
le-nat_le a b le = grind arith

lt-nat_le : (a b : ℕ) → b < a → nat_le a b ≡ false
lt-nat_le a b lt = grind arith

ne-eqb : (a b : ℕ) → a ≢ b → eqb a b ≡ false
ne-eqb a b ne = grind arith

ended_short : (fault : BsonFault) (n : ℕ) (bytes : List ℕ) → length bytes ≤ n → ended_at fault n bytes ≡ Err faults.Length
unfolding ended_at
ended_short fault n bytes le = rw (le-nat_le (length bytes) n le) refl

ended_not : (fault : BsonFault) (n : ℕ) (bytes : List ℕ) → n < length bytes → slice_index bytes n ≢ 0 → ended_at fault n bytes ≡ Err fault
unfolding ended_at
ended_not fault n bytes lt ne = rw (lt-nat_le (length bytes) n lt, ne-eqb (slice_index bytes n) 0 ne) refl

frame_length : (content : List ℕ) → length (frame_of content) ≡ length content + 5
frame_length content = omega (arith, length-append content (0 ∷ []))

frame_refused : {Y Z : Type 0} (inner : List ℕ → ℕ → ℕ → BsonFault → Type 0) (read : List ℕ → Result Y BsonFault) (made : Y → List ℕ → Z) (bytes : List ℕ)
    (place seen : ℕ) (e : BsonFault) → length bytes < 2 ^ 31
    → ((content : List ℕ) (p s : ℕ) → length content < 2 ^ 31 → inner content p s e → read content ≡ Err e)
    → WrongFrame inner bytes place seen e → (content_at bytes >>= λ content. read content.0 >>= λ y. Ok (made y content.1)) ≡ Err e
unfolding content_at
frame_refused inner read made bytes place seen e short each (wrong_count w) = counted w.judged
  where
    counted : (count_at 5 bytes ≡ Err faults.Length) ⊎ ((n : ℕ × List ℕ) × (count_at 5 bytes ≡ Ok n) × (length n.1 ≤ n.0 - 5))
        → (content_at bytes >>= λ content. read content.0 >>= λ y. Ok (made y content.1)) ≡ Err e
    counted (inl bad) = rw bad (ap (λ (g : BsonFault). Err g) (sym w.fault_is))
    counted (inr n) = rw (n.1, ended_short faults.Length (n.0.0 - 5) n.0.1 n.2) (ap (λ (g : BsonFault). Err g) (sym w.fault_is))
frame_refused inner read made bytes place seen e short each (wrong_end w) =
    rw (w.counted, ended_not faults.Length (w.count.0 - 5) w.count.1 w.fits w.judged) (ap (λ (g : BsonFault). Err g) (sym w.fault_is))
frame_refused {Y} {Z} inner read made bytes place seen e short each (wrong_in w) =
    let size = ap length w.parts in
    let len = length-append (frame_of w.content) w.rest in
    let framed = frame_length w.content in
    let bad = each w.content w.fault_in.at w.fault_in.upto (omega (arith, size, len, framed, short)) w.fault_in.inner in
    let found : content_at bytes ≡ Ok (w.content, w.rest) = ap content_at w.parts ∙ content_again w.content w.rest (omega (arith, size, len, framed, short)) in
    ap (λ (r : Read (List ℕ)). r >>= λ content. read content.0 >>= λ y. Ok (made y content.1)) found
    ∙ ap (λ (r : Result Y BsonFault). r >>= λ y. Ok (made y w.rest)) bad

-- ---- values

leaf_refused : (k : Kind) (bytes : List ℕ) (place seen : ℕ) (e : BsonFault) → WrongScalar k bytes place seen e → leaf (scalar_at k bytes) ≡ Err e
leaf_refused k bytes place seen e w = rw w.judged refl

value_refused_zero : (e : BsonFault) (k : Kind) (bytes : List ℕ) (place seen : ℕ) → length bytes < 2 ^ 31 → WrongValue 0 k bytes place seen e
    → value_at 0 k bytes ≡ Err e
unfolding value_at WrongValue
value_refused_zero e kinds.Document bytes p s short w = ap (λ (g : BsonFault). Err g) (sym w.deep)
value_refused_zero e kinds.Array bytes p s short w = ap (λ (g : BsonFault). Err g) (sym w.deep)
value_refused_zero e kinds.String bytes p s short w = leaf_refused kinds.String bytes p s e w
value_refused_zero e kinds.Binary bytes p s short w = leaf_refused kinds.Binary bytes p s e w
value_refused_zero e kinds.ObjectId bytes p s short w = leaf_refused kinds.ObjectId bytes p s e w
value_refused_zero e kinds.Bool bytes p s short w = leaf_refused kinds.Bool bytes p s e w
value_refused_zero e kinds.Date bytes p s short w = leaf_refused kinds.Date bytes p s e w
value_refused_zero e kinds.Null bytes p s short w = leaf_refused kinds.Null bytes p s e w
value_refused_zero e kinds.Int32 bytes p s short w = leaf_refused kinds.Int32 bytes p s e w
value_refused_zero e kinds.Timestamp bytes p s short w = leaf_refused kinds.Timestamp bytes p s e w
value_refused_zero e kinds.Int64 bytes p s short w = leaf_refused kinds.Int64 bytes p s e w
value_refused_zero e kinds.MinKey bytes p s short w = leaf_refused kinds.MinKey bytes p s e w
value_refused_zero e kinds.MaxKey bytes p s short w = leaf_refused kinds.MaxKey bytes p s e w

pairs_in_refused : (more : ℕ) (e : BsonFault)
    → ((k : Kind) (rest : List ℕ) (p s : ℕ) → length rest < 2 ^ 31 → WrongValue more k rest p s e → value_at more k rest ≡ Err e)
    → (content : List ℕ) (place seen : ℕ) → length content < 2 ^ 31 → WrongPair more (WrongValue more) content place seen e
    → pairs_in (value_at more) content ≡ Err e
pairs_in_refused more e inner content place seen short w =
    pairs_refused (WrongValue more) (value_at more) more (value_reads more) e inner content place seen short w

items_in_refused : (more : ℕ) (e : BsonFault)
    → ((k : Kind) (rest : List ℕ) (p s : ℕ) → length rest < 2 ^ 31 → WrongValue more k rest p s e → value_at more k rest ≡ Err e)
    → (content : List ℕ) (place seen : ℕ) → length content < 2 ^ 31 → WrongItem more (WrongValue more) content place seen e
    → items_in (value_at more) content ≡ Err e
items_in_refused more e inner content place seen short w =
    items_refused (WrongValue more) (value_at more) more (value_reads more) e inner content place seen short w

value_refused_more : (more : ℕ) (e : BsonFault)
    → ((k : Kind) (rest : List ℕ) (p s : ℕ) → length rest < 2 ^ 31 → WrongValue more k rest p s e → value_at more k rest ≡ Err e)
    → (k : Kind) (bytes : List ℕ) (place seen : ℕ) → length bytes < 2 ^ 31 → WrongValue (suc more) k bytes place seen e → value_at (suc more) k bytes ≡ Err e
unfolding value_at WrongValue
value_refused_more more e inner kinds.Document bytes p s short w =
    frame_refused (WrongPair more (WrongValue more)) (pairs_in (value_at more)) (λ ps rest. (document ps, rest)) bytes p s e short
    (pairs_in_refused more e inner) w
value_refused_more more e inner kinds.Array bytes p s short w =
    frame_refused (WrongItem more (WrongValue more)) (items_in (value_at more)) (λ ts rest. (array ts, rest)) bytes p s e short
    (items_in_refused more e inner) w
value_refused_more more e inner kinds.String bytes p s short w = leaf_refused kinds.String bytes p s e w
value_refused_more more e inner kinds.Binary bytes p s short w = leaf_refused kinds.Binary bytes p s e w
value_refused_more more e inner kinds.ObjectId bytes p s short w = leaf_refused kinds.ObjectId bytes p s e w
value_refused_more more e inner kinds.Bool bytes p s short w = leaf_refused kinds.Bool bytes p s e w
value_refused_more more e inner kinds.Date bytes p s short w = leaf_refused kinds.Date bytes p s e w
value_refused_more more e inner kinds.Null bytes p s short w = leaf_refused kinds.Null bytes p s e w
value_refused_more more e inner kinds.Int32 bytes p s short w = leaf_refused kinds.Int32 bytes p s e w
value_refused_more more e inner kinds.Timestamp bytes p s short w = leaf_refused kinds.Timestamp bytes p s e w
value_refused_more more e inner kinds.Int64 bytes p s short w = leaf_refused kinds.Int64 bytes p s e w
value_refused_more more e inner kinds.MinKey bytes p s short w = leaf_refused kinds.MinKey bytes p s e w
value_refused_more more e inner kinds.MaxKey bytes p s short w = leaf_refused kinds.MaxKey bytes p s e w

value_refused : (more : ℕ) (e : BsonFault) (k : Kind) (bytes : List ℕ) (place seen : ℕ) → length bytes < 2 ^ 31 → WrongValue more k bytes place seen e
    → value_at more k bytes ≡ Err e
value_refused zero e = value_refused_zero e
value_refused (suc more) e = value_refused_more more e (value_refused more e)

-- ---- whole documents

ge-nat_lt : (a b : ℕ) → b ≤ a → nat_lt a b ≡ false
ge-nat_lt a b le = grind arith

in_frame : (content rest : List ℕ) (e : BsonFault) → length content + 5 ≤ message_limit → pairs_in (value_at 99) content ≡ Err e
    → document_at (frame_of content ++ rest) ≡ Err e
unfolding document_at length_at
in_frame content rest e high bad =
    let n = length content + 5 in
    let regrouped : frame_of content ++ rest ≡ to_le_bytes w32 n ++ (content ++ 0 ∷ rest) =
    ap (λ (t : List ℕ). to_le_bytes w32 n ++ t) (append_assoc content (0 ∷ []) rest) in
    let all = length-append content (0 ∷ rest) in
    let back = wide32.again n (omega (arith, high)) in
    let long : nat_lt (length (to_le_bytes w32 n ++ (content ++ 0 ∷ rest))) 4 ≡ false = ge-nat_lt _ _ (omega arith) in
    let large : nat_lt message_limit n ≡ false = ge-nat_lt _ _ high in
    let whole : nat_lt (length (to_le_bytes w32 n ++ (content ++ 0 ∷ rest))) n ≡ false = ge-nat_lt _ _ (omega (arith, all)) in
    ap document_at regrouped
    ∙ rw (long, back, not_below 5 n (omega arith) (omega (arith, high)), large, whole, ended_again faults.Length (n - 5) content rest (omega arith), bad) refl

pub document_refused : (bytes : List ℕ) (place seen : ℕ) (e : BsonFault) → IsBytes bytes → WrongDocument bytes place seen e → document_at bytes ≡ Err e
unfolding document_at
document_refused bytes place seen e fits (wrong_length w) = rw w.judged refl
document_refused bytes place seen e fits (wrong_last w) =
    let l = length_takes bytes seen fits w.counted in
    let last : slice_index (drop 4 bytes) (seen - 5) ≢ 0 =
    subst (λ (b : ℕ). b ≢ 0) (sym (get_or-drop 4 bytes (seen - 5) 0 ∙ ap (slice_index bytes) (omega (arith, l.low)))) w.judged in
    rw (w.counted, ended_not faults.Length (seen - 5) (drop 4 bytes) (omega (arith, length-drop 4 bytes, l.low, l.whole)) last)
    (ap (λ (g : BsonFault). Err g) (sym w.fault_is))
document_refused bytes place seen e fits (wrong_inside w high) =
    let bad = pairs_in_refused 99 e (value_refused 99 e) w.content w.fault_in.at w.fault_in.upto (omega (arith, high)) w.fault_in.inner in
    ap document_at w.parts ∙ in_frame w.content w.rest e high bad
