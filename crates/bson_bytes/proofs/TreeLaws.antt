-- The two laws: what is read is spelled so, and what is spelled so is read.
use Rattle.std.proofs.Common.{◌≡◌, ℕ, zero, suc, ◌+◌, ◌-◌, ◌%◌, ◌^◌, ◌<◌, ◌≤◌, Bool, true, false, not, ltb, List, [], ◌∷◌, ◌++◌, length, take, drop}
use Rattle.std.proofs.Common.{Result, Ok, Err, refl, sym, ap, subst, ◌∙◌, append_assoc, arith}
use Rattle.std.specs.Prelude.{IfOk}
use Rattle.std.specs.Str.{bytes_eq}
use Rattle.std.specs.Fmt.{decimal}
use Rattle.std.specs.Int.{w32, to_le_bytes, from_le_bytes}
use Rattle.bson.specs.Limits.{message_limit}
use Rattle.std.proofs.lemmas.List.{length-append, length-take, take_at}
use Rattle.std.proofs.lemmas.Bool.{ltb-false, le-ltb}
use Rattle.std.proofs.lemmas.Str.{IsUtf8-from_ascii}
use Rattle.std.proofs.lemmas.Fmt.{IsAscii-decimal, decimal_by_steps}
use Rattle.std.proofs.lemmas.Slice.Eq.{bytes_eq-Decides}
use Rattle.bson_bytes.specs.declared.fault.BsonFault.{BsonFault}
use Rattle.bson_bytes.specs.declared.fault.BsonFault.TheVariants as faults
use Rattle.bson.specs.declared.kind.Kind.{Kind}
use Rattle.bson.specs.declared.kind.Kind.TheVariants as kinds
use Rattle.bson.specs.Tree.{Scalar, text, binary, object_id, boolean, date, null, int32, timestamp, int64, min_key, max_key, Tree, scalar, document, array}
use Rattle.bson.specs.Tree.{Pairs, no_pairs, pair, Items, no_items, item}
use Rattle.bson.specs.Kinds.{scalar_kind, kind}
use Rattle.bson.specs.Lawful.{IsBytes, levels, items_levels, NoZero, IsName, IsScalar, IsTree, IsItems}
use Rattle.bson.specs.Spelling.{Spells, scalar_bytes, frame_of, type_byte, element, tree_bytes, pairs_bytes, items_bytes}
use Rattle.outcome.specs.Outcome.{◌>>=◌, unless, Gives}
use Rattle.bson_bytes.specs.Decoding.{Read, element_by, item_by, is_no_index, leaf, scalar_at, content_at, items_by, pairs_in}
use Rattle.bson_bytes.specs.Decoding.{items_in, value_at, is_below, ended_at, length_at, document_at}
use Rattle.bson_bytes.proofs.FrameLaws.{is_below-false, not_below, bind_ok, unless_ok, done, ok_is, Takes, Takes-then, content_takes, content_again}
use Rattle.bson_bytes.proofs.FrameLaws.{front32, wide32, ended_takes, ended_again}
use Rattle.bson_bytes.proofs.ScalarLaws.{scalar_takes, scalar_again}
use Rattle.bson_bytes.proofs.PairLaws.{IsRead, Reads, AreNew, regroup_element, IsBytes-rest}
use Rattle.bson_bytes.proofs.PairLaws.{ElementRead, element_takes, element_again, pairs_take}
use Rattle.bson_bytes.proofs.PairLaws.{pairs_again}

-- ---- arrays

pub record ItemsRead (more i : ℕ) (bytes : List ℕ) (ts : Items) : Type 0 where
  pub spelled : bytes ≡ items_bytes i ts
  pub lawful : IsItems ts
  pub depth : items_levels ts ≤ more

not_false : (b : Bool) → not b ≡ false → b ≡ true
not_false true e = refl
not_false false e = absurd cc

pub item_takes : (read : Kind → List ℕ → Read Tree) (more : ℕ) → Reads read more → (i type : ℕ) (bytes : List ℕ) (x : Tree × List ℕ)
    → IsBytes bytes → item_by read i type bytes ≡ Ok x → ElementRead more type bytes (decimal i) x.0 x.1
unfolding item_by
item_takes read more reads i type bytes x fits e =
    let a = bind_ok (element_by read (is_no_index i) faults.ArrayName type bytes) (λ first. Ok (first.0.1, first.1)) x e in
    let first = element_takes read more reads (is_no_index i) faults.ArrayName type bytes a.0 fits a.1 in
    let named : a.0.0.0 ≡ decimal i = (bytes_eq-Decides a.0.0.0 (decimal i)).0 (not_false (bytes_eq a.0.0.0 (decimal i)) first.1) in
    let made : Tree × List ℕ = (a.0.0.1, a.0.1) in
    subst (λ (y : Tree × List ℕ). ElementRead more type bytes (decimal i) y.0 y.1) (ok_is made x a.2)
    (subst (λ (n : List ℕ). ElementRead more type bytes n a.0.0.1 a.0.1) named first.0)

pub items_take : (read : Kind → List ℕ → Read Tree) (more : ℕ) → Reads read more → (most i : ℕ) (bytes : List ℕ) (ts : Items) → IsBytes bytes
    → items_by read most i bytes ≡ Ok ts → ItemsRead more i bytes ts
unfolding items_by items_bytes
items_take read more reads zero i [] ts fits e =
    subst (λ (us : Items). ItemsRead more i [] us) (ok_is no_items ts e) (record { spelled = refl; lawful = tt; depth = omega arith })
items_take read more reads (suc most) i [] ts fits e =
    subst (λ (us : Items). ItemsRead more i [] us) (ok_is no_items ts e) (record { spelled = refl; lawful = tt; depth = omega arith })
items_take read more reads zero i (type ∷ bytes) ts fits e = absurd cc
items_take read more reads (suc most) i (type ∷ bytes) ts fits e =
    let a = bind_ok (item_by read i type bytes) (λ first. items_by read most (i + 1) first.1 >>= λ others. Ok (item first.0 others)) ts e in
    let t = a.0.0 in
    let b = bind_ok (items_by read most (i + 1) a.0.1) (λ others. Ok (item t others)) ts a.2 in
    let others = b.0 in
    let first = item_takes read more reads i type bytes a.0 (IsBytes-rest type bytes fits) a.1 in
    let o = items_take read more reads most (i + 1) a.0.1 others first.takes.rest_fits b.1 in
    subst (λ (us : Items). ItemsRead more i (type ∷ bytes) us) (ok_is (item t others) ts b.2) (record {
      spelled = first.takes.parts ∙ ap (λ (x : List ℕ). element (type_byte t) (decimal i) (tree_bytes t) ++ x) o.spelled;
      lawful = (first.lawful, o.lawful);
      depth = omega (arith, first.depth, o.depth);
    })

NoZero-push : (bytes : List ℕ) (b : ℕ) → NoZero bytes → NoZero (bytes ++ (48 + b) ∷ [])
NoZero-push [] b h = (λ e. absurd (omega arith), tt)
NoZero-push (c ∷ cs) b h = (h.0, NoZero-push cs b h.1)

-- The name of an item has no zero.
NoZero-decimal : (n : ℕ) → n < 2 ^ 64 → NoZero (decimal n)
NoZero-decimal n h = decimal_by_steps (λ _ ds. NoZero ds) (λ m lt. (λ e. absurd (omega arith), tt)) (λ m ds le so_far. NoZero-push ds (m % 10) so_far) n h

pub IsName-decimal : (n : ℕ) → n < 2 ^ 64 → IsName (decimal n)
IsName-decimal n h = record { is_text = IsUtf8-from_ascii (decimal n) (IsAscii-decimal n h); no_zero = NoZero-decimal n h }

pub items_again : (read : Kind → List ℕ → Read Tree) (more : ℕ) → Reads read more → (most i : ℕ) (ts : Items) → IsItems ts → items_levels ts ≤ more
    → length (items_bytes i ts) ≤ most → i + length (items_bytes i ts) < 2 ^ 31 → items_by read most i (items_bytes i ts) ≡ Ok ts
unfolding items_by items_bytes item_by
items_again read more reads zero i no_items lawful depth fits short = refl
items_again read more reads (suc most) i no_items lawful depth fits short = refl
items_again read more reads zero i (item t ts) lawful depth fits short = absurd (omega arith)
items_again read more reads (suc most) i (item t ts) lawful depth fits short =
    let len = length-append (decimal i ++ 0 ∷ tree_bytes t) (items_bytes (i + 1) ts) in
    let len2 = length-append (decimal i) (0 ∷ tree_bytes t) in
    let others = items_again read more reads most (i + 1) ts lawful.1 (omega arith) (omega (arith, len, len2)) (omega (arith, len, len2)) in
    let right : is_no_index i (decimal i) ≡ false = ap not ((bytes_eq-Decides (decimal i) (decimal i)).1 refl) in
    let first = element_again read more reads (is_no_index i) faults.ArrayName (decimal i) t (items_bytes (i + 1) ts) (IsName-decimal i (omega arith)) lawful.0
    (omega arith) (omega (arith, len, len2)) right in
    ap (items_by read (suc most) i) (regroup_element (type_byte t) (decimal i) (tree_bytes t) (items_bytes (i + 1) ts)) ∙ rw (first, others) refl

-- ---- values at each level

leaf_is_read : (more : ℕ) (k : Kind) (bytes : List ℕ) (x : Tree × List ℕ) → IsBytes bytes → leaf (scalar_at k bytes) ≡ Ok x → IsRead more k bytes x.0 x.1
unfolding tree_bytes
leaf_is_read more k bytes x fits e =
    let a = bind_ok (scalar_at k bytes) (λ s. Ok (scalar s.0, s.1)) x e in
    let t = scalar_takes k bytes a.0 fits a.1 in
    let made : Tree × List ℕ = (scalar a.0.0, a.0.1) in
    subst (λ (y : Tree × List ℕ). IsRead more k bytes y.0 y.1) (ok_is made x a.2)
    (record { takes = t.takes; lawful = t.lawful; depth = omega arith; same_kind = t.same_kind })

document_is_read : (more : ℕ) → Reads (value_at more) more → (bytes : List ℕ) (x : Tree × List ℕ) → IsBytes bytes
    → (content_at bytes >>= λ content. pairs_in (value_at more) content.0 >>= λ ps. Ok (document ps, content.1)) ≡ Ok x
    → IsRead (suc more) kinds.Document bytes x.0 x.1
unfolding tree_bytes
document_is_read more reads bytes x fits e =
    let a = bind_ok (content_at bytes) (λ content. pairs_in (value_at more) content.0 >>= λ ps. Ok (document ps, content.1)) x e in
    let content = a.0 in
    let b = bind_ok (pairs_in (value_at more) content.0) (λ ps. Ok (document ps, content.1)) x a.2 in
    let ps = b.0 in
    let frame = content_takes bytes content fits a.1 in
    let r = pairs_take (value_at more) more reads (length content.0) [] content.0 ps frame.1 b.1 in
    let made : Tree × List ℕ = (document ps, content.1) in
    subst (λ (y : Tree × List ℕ). IsRead (suc more) kinds.Document bytes y.0 y.1) (ok_is made x b.2)
    (record {
      takes = subst (λ (c : List ℕ). Takes bytes (frame_of c) content.1) r.spelled frame.0;
      lawful = r.lawful;
      depth = omega (arith, r.depth);
      same_kind = refl;
    })

array_is_read : (more : ℕ) → Reads (value_at more) more → (bytes : List ℕ) (x : Tree × List ℕ) → IsBytes bytes
    → (content_at bytes >>= λ content. items_in (value_at more) content.0 >>= λ ts. Ok (array ts, content.1)) ≡ Ok x
    → IsRead (suc more) kinds.Array bytes x.0 x.1
unfolding tree_bytes
array_is_read more reads bytes x fits e =
    let a = bind_ok (content_at bytes) (λ content. items_in (value_at more) content.0 >>= λ ts. Ok (array ts, content.1)) x e in
    let content = a.0 in
    let b = bind_ok (items_in (value_at more) content.0) (λ ts. Ok (array ts, content.1)) x a.2 in
    let ts = b.0 in
    let frame = content_takes bytes content fits a.1 in
    let r = items_take (value_at more) more reads (length content.0) 0 content.0 ts frame.1 b.1 in
    let made : Tree × List ℕ = (array ts, content.1) in
    subst (λ (y : Tree × List ℕ). IsRead (suc more) kinds.Array bytes y.0 y.1) (ok_is made x b.2)
    (record {
      takes = subst (λ (c : List ℕ). Takes bytes (frame_of c) content.1) r.spelled frame.0;
      lawful = r.lawful;
      depth = omega (arith, r.depth);
      same_kind = refl;
    })

pub AreNew-none : (ps : Pairs) → AreNew ps []
AreNew-none no_pairs = tt
AreNew-none (pair name t ps) = (refl, AreNew-none ps)

framed_length : (content : List ℕ) → length (frame_of content) ≡ length content + 5
framed_length content = omega (arith, length-append content (0 ∷ []))

-- what is read of a kind other than documents and arrays
pub value_at_leaf : (more : ℕ) (s : Scalar) (bytes : List ℕ) → value_at more (scalar_kind s) bytes ≡ leaf (scalar_at (scalar_kind s) bytes)
unfolding value_at
value_at_leaf zero (text s) bytes = refl
value_at_leaf (suc more) (text s) bytes = refl
value_at_leaf zero (binary subtype content) bytes = refl
value_at_leaf (suc more) (binary subtype content) bytes = refl
value_at_leaf zero (object_id id) bytes = refl
value_at_leaf (suc more) (object_id id) bytes = refl
value_at_leaf zero (boolean b) bytes = refl
value_at_leaf (suc more) (boolean b) bytes = refl
value_at_leaf zero (date z) bytes = refl
value_at_leaf (suc more) (date z) bytes = refl
value_at_leaf zero null bytes = refl
value_at_leaf (suc more) null bytes = refl
value_at_leaf zero (int32 z) bytes = refl
value_at_leaf (suc more) (int32 z) bytes = refl
value_at_leaf zero (timestamp n) bytes = refl
value_at_leaf (suc more) (timestamp n) bytes = refl
value_at_leaf zero (int64 z) bytes = refl
value_at_leaf (suc more) (int64 z) bytes = refl
value_at_leaf zero min_key bytes = refl
value_at_leaf (suc more) min_key bytes = refl
value_at_leaf zero max_key bytes = refl
value_at_leaf (suc more) max_key bytes = refl

leaf_again : (more : ℕ) (s : Scalar) (rest : List ℕ) → IsScalar s → length (scalar_bytes s) < 2 ^ 31
    → value_at more (kind (scalar s)) (scalar_bytes s ++ rest) ≡ Ok (scalar s, rest)
leaf_again more s rest lawful short = value_at_leaf more s (scalar_bytes s ++ rest) ∙ ap leaf (scalar_again s rest lawful short)

value_takes_zero : (k : Kind) (bytes : List ℕ) (x : Tree × List ℕ) → IsBytes bytes → value_at 0 k bytes ≡ Ok x → IsRead 0 k bytes x.0 x.1
unfolding value_at
value_takes_zero kinds.String bytes x fits e = leaf_is_read 0 kinds.String bytes x fits e
value_takes_zero kinds.Document bytes x fits e = absurd cc
value_takes_zero kinds.Array bytes x fits e = absurd cc
value_takes_zero kinds.Binary bytes x fits e = leaf_is_read 0 kinds.Binary bytes x fits e
value_takes_zero kinds.ObjectId bytes x fits e = leaf_is_read 0 kinds.ObjectId bytes x fits e
value_takes_zero kinds.Bool bytes x fits e = leaf_is_read 0 kinds.Bool bytes x fits e
value_takes_zero kinds.Date bytes x fits e = leaf_is_read 0 kinds.Date bytes x fits e
value_takes_zero kinds.Null bytes x fits e = leaf_is_read 0 kinds.Null bytes x fits e
value_takes_zero kinds.Int32 bytes x fits e = leaf_is_read 0 kinds.Int32 bytes x fits e
value_takes_zero kinds.Timestamp bytes x fits e = leaf_is_read 0 kinds.Timestamp bytes x fits e
value_takes_zero kinds.Int64 bytes x fits e = leaf_is_read 0 kinds.Int64 bytes x fits e
value_takes_zero kinds.MinKey bytes x fits e = leaf_is_read 0 kinds.MinKey bytes x fits e
value_takes_zero kinds.MaxKey bytes x fits e = leaf_is_read 0 kinds.MaxKey bytes x fits e

value_takes_more : (more : ℕ) → Reads (value_at more) more → (k : Kind) (bytes : List ℕ) (x : Tree × List ℕ) → IsBytes bytes
    → value_at (suc more) k bytes ≡ Ok x → IsRead (suc more) k bytes x.0 x.1
unfolding value_at
value_takes_more more reads kinds.String bytes x fits e = leaf_is_read (suc more) kinds.String bytes x fits e
value_takes_more more reads kinds.Document bytes x fits e = document_is_read more reads bytes x fits e
value_takes_more more reads kinds.Array bytes x fits e = array_is_read more reads bytes x fits e
value_takes_more more reads kinds.Binary bytes x fits e = leaf_is_read (suc more) kinds.Binary bytes x fits e
value_takes_more more reads kinds.ObjectId bytes x fits e = leaf_is_read (suc more) kinds.ObjectId bytes x fits e
value_takes_more more reads kinds.Bool bytes x fits e = leaf_is_read (suc more) kinds.Bool bytes x fits e
value_takes_more more reads kinds.Date bytes x fits e = leaf_is_read (suc more) kinds.Date bytes x fits e
value_takes_more more reads kinds.Null bytes x fits e = leaf_is_read (suc more) kinds.Null bytes x fits e
value_takes_more more reads kinds.Int32 bytes x fits e = leaf_is_read (suc more) kinds.Int32 bytes x fits e
value_takes_more more reads kinds.Timestamp bytes x fits e = leaf_is_read (suc more) kinds.Timestamp bytes x fits e
value_takes_more more reads kinds.Int64 bytes x fits e = leaf_is_read (suc more) kinds.Int64 bytes x fits e
value_takes_more more reads kinds.MinKey bytes x fits e = leaf_is_read (suc more) kinds.MinKey bytes x fits e
value_takes_more more reads kinds.MaxKey bytes x fits e = leaf_is_read (suc more) kinds.MaxKey bytes x fits e

value_again_zero : (t : Tree) (rest : List ℕ) → IsTree t → levels t ≤ 0 → length (tree_bytes t) < 2 ^ 31
    → value_at 0 (kind t) (tree_bytes t ++ rest) ≡ Ok (t, rest)
unfolding tree_bytes
value_again_zero (scalar s) rest lawful depth short = leaf_again 0 s rest lawful short
value_again_zero (document ps) rest lawful depth short = absurd (omega arith)
value_again_zero (array ts) rest lawful depth short = absurd (omega arith)

value_again_more : (more : ℕ) → Reads (value_at more) more → (t : Tree) (rest : List ℕ) → IsTree t → levels t ≤ suc more → length (tree_bytes t) < 2 ^ 31
    → value_at (suc more) (kind t) (tree_bytes t ++ rest) ≡ Ok (t, rest)
unfolding tree_bytes value_at
value_again_more more reads (scalar s) rest lawful depth short = leaf_again (suc more) s rest lawful short
value_again_more more reads (document ps) rest lawful depth short =
    let size = framed_length (pairs_bytes ps) in
    let inner = pairs_again (value_at more) more reads (length (pairs_bytes ps)) [] ps lawful (omega arith) (AreNew-none ps) (omega arith)
    (omega (arith, size)) in
    rw (content_again (pairs_bytes ps) rest (omega (arith, size)), inner) refl
value_again_more more reads (array ts) rest lawful depth short =
    let size = framed_length (items_bytes 0 ts) in
    let inner = items_again (value_at more) more reads (length (items_bytes 0 ts)) 0 ts lawful (omega arith) (omega arith) (omega (arith, size)) in
    rw (content_again (items_bytes 0 ts) rest (omega (arith, size)), inner) refl

pub value_reads : (more : ℕ) → Reads (value_at more) more
value_reads zero = record { takes = value_takes_zero; again = value_again_zero }
value_reads (suc more) = record { takes = value_takes_more more (value_reads more); again = value_again_more more (value_reads more) }

-- ---- the document at the front of the input

-- the length at the front of a document
pub record HasLength (bytes : List ℕ) (n : ℕ) : Type 0 where
  pub takes : Takes bytes (to_le_bytes w32 n) (drop 4 bytes)
  pub low : 5 ≤ n
  pub high : n ≤ message_limit
  pub whole : n ≤ length bytes

pub length_takes : (bytes : List ℕ) (n : ℕ) → IsBytes bytes → length_at bytes ≡ Ok n → HasLength bytes n
unfolding length_at
length_takes bytes n fits e =
    let m = from_le_bytes w32 (take 4 bytes) in
    let a = unless_ok (ltb (length bytes) 4) faults.Truncated
    (unless (is_below 5 m) faults.Length (unless (ltb message_limit m) faults.TooLarge (unless (ltb (length bytes) m) faults.Truncated (Ok m)))) n e in
    let b = unless_ok (is_below 5 m) faults.Length
    (unless (ltb message_limit m) faults.TooLarge (unless (ltb (length bytes) m) faults.Truncated (Ok m))) n a.1 in
    let c = unless_ok (ltb message_limit m) faults.TooLarge (unless (ltb (length bytes) m) faults.Truncated (Ok m)) n b.1 in
    let d = unless_ok (ltb (length bytes) m) faults.Truncated (Ok m) n c.1 in
    let low = is_below-false 5 m b.0 in
    subst (λ (k : ℕ). HasLength bytes k) (ok_is m n d.1)
    (record { takes = front32 bytes fits (ltb-false _ _ a.0); low = low.0; high = ltb-false _ _ c.0; whole = ltb-false _ _ d.0 })

pub document_takes : (bytes : List ℕ) (x : Pairs × ℕ) → IsBytes bytes → document_at bytes ≡ Ok x → (x.1 ≤ length bytes) × Spells (take x.1 bytes) x.0
unfolding document_at
document_takes bytes x fits e =
    let f2 = λ (len : ℕ). λ (content : List ℕ × List ℕ). pairs_in (value_at 99) content.0 >>= λ ps. Ok (ps, len) in
    let a = bind_ok (length_at bytes) (λ len. ended_at faults.Length (len - 5) (drop 4 bytes) >>= f2 len) x e in
    let len = a.0 in
    let b = bind_ok (ended_at faults.Length (len - 5) (drop 4 bytes)) (f2 len) x a.2 in
    let content = b.0 in
    let c = bind_ok (pairs_in (value_at 99) content.0) (λ ps. Ok (ps, len)) x b.2 in
    let ps = c.0 in
    let l = length_takes bytes len fits a.1 in
    let f = ended_takes faults.Length (len - 5) (drop 4 bytes) content l.takes.rest_fits b.1 in
    let r = pairs_take (value_at 99) 99 (value_reads 99) (length content.0) [] content.0 ps f.1 c.1 in
    let size : len ≡ length content.0 + 5 = omega (arith, f.2, l.low) in
    let both = Takes-then bytes (to_le_bytes w32 len) (drop 4 bytes) (content.0 ++ 0 ∷ []) content.1 l.takes f.0 in
    let frame_of-is : Takes bytes (frame_of content.0) content.1 =
    subst (λ (k : ℕ). Takes bytes (to_le_bytes w32 k ++ (content.0 ++ 0 ∷ [])) content.1) size both in
    let front : take len bytes ≡ frame_of content.0 =
    ap (take len) frame_of-is.parts ∙ take_at (frame_of content.0) content.1 len (omega (arith, framed_length content.0)) in
    subst (λ (y : Pairs × ℕ). (y.1 ≤ length bytes) × Spells (take y.1 bytes) y.0) (ok_is (ps, len) x c.2) (
      l.whole,
      record {
        lawful = record { lawful = r.lawful; depth = r.depth };
        spelled = front ∙ ap frame_of r.spelled;
        size = omega (arith, length-take len bytes, l.high);
      },
    )

pub document_again : (bytes : List ℕ) (ps : Pairs) (rest : List ℕ) → Spells bytes ps → document_at (bytes ++ rest) ≡ Ok (ps, length bytes)
unfolding document_at length_at
document_again bytes ps rest s =
    let content = pairs_bytes ps in
    let n = length content + 5 in
    let size : length bytes ≡ n = ap length s.spelled ∙ framed_length content in
    let regrouped : bytes ++ rest ≡ to_le_bytes w32 n ++ (content ++ 0 ∷ rest) =
    ap (λ (t : List ℕ). t ++ rest) s.spelled ∙ ap (λ (t : List ℕ). to_le_bytes w32 n ++ t) (append_assoc content (0 ∷ []) rest) in
    let all = length-append content (0 ∷ rest) in
    let high : n ≤ message_limit = omega (arith, s.size) in
    let back = wide32.again n (omega (arith, high)) in
    let long : ltb (length (to_le_bytes w32 n ++ (content ++ 0 ∷ rest))) 4 ≡ false = le-ltb _ _ (omega arith) in
    let large : ltb message_limit n ≡ false = le-ltb _ _ high in
    let whole : ltb (length (to_le_bytes w32 n ++ (content ++ 0 ∷ rest))) n ≡ false = le-ltb _ _ (omega (arith, all)) in
    let inner = pairs_again (value_at 99) 99 (value_reads 99) (length content) [] ps s.lawful.lawful s.lawful.depth (AreNew-none ps) (omega arith)
    (omega (arith, high)) in
    ap document_at regrouped
    ∙ rw (
      long,
      back,
      not_below 5 n (omega arith) (omega (arith, high)),
      large,
      whole,
      ended_again faults.Length (n - 5) content rest (omega arith),
      inner,
      size,
    ) refl

-- ---- what decode promises

pub is_found : (bytes : List ℕ) (r : Result (Pairs × ℕ) BsonFault) → IsBytes bytes → Gives faults.Memory (λ x. x) r (document_at bytes)
    → IfOk r (λ x. (x.1 ≤ length bytes) × Spells (take x.1 bytes) x.0)
is_found bytes (Ok x) fits given = document_takes bytes x fits given
is_found bytes (Err e) fits given = tt

-- a document that was read inside so many others
pub is_shallow : {Y : Type 0} (view : Y → Tree × List ℕ) (outer : ℕ) (bytes : List ℕ) (r : Result Y BsonFault) → outer ≤ 100 → IsBytes bytes
    → Gives faults.Memory view r (value_at (100 - outer) kinds.Document bytes) → IfOk r (λ x. levels (view x).0 + outer ≤ 100)
is_shallow view outer bytes (Ok x) le fits given = omega (arith, ((value_reads (100 - outer)).takes kinds.Document bytes (view x) fits given).depth)
is_shallow view outer bytes (Err e) le fits given = tt

pub is_only : (bytes front rest : List ℕ) (ps : Pairs) (r : Result (Pairs × ℕ) BsonFault) → Gives faults.Memory (λ x. x) r (document_at bytes)
    → Spells front ps → bytes ≡ front ++ rest → Gives faults.Memory (λ x. x) r (Ok (ps, length front))
is_only bytes front rest ps r given s e =
    subst (λ (read : Result (Pairs × ℕ) BsonFault). Gives faults.Memory (λ x. x) r read) (ap document_at e ∙ document_again front ps rest s) given

-- a value has one spelling, and no document's spelling begins another's
pub one_spelling : (a b x y : List ℕ) (ps qs : Pairs) → Spells a ps → Spells b qs → a ++ x ≡ b ++ y → (ps ≡ qs) × (a ≡ b)
one_spelling a b x y ps qs s u e =
    let both : done {A = Pairs × ℕ} (ps, length a) ≡ done (qs, length b) = sym (document_again a ps x s) ∙ ap document_at e ∙ document_again b qs y u in
    let pair-is : ◌≡◌ {A = Pairs × ℕ} (ps, length a) (qs, length b) = ok_is (ps, length a) (qs, length b) both in
    let same : ps ≡ qs = ap (λ (p : Pairs × ℕ). p.0) pair-is in
    (same, s.spelled ∙ ap (λ (p : Pairs). frame_of (pairs_bytes p)) same ∙ sym u.spelled)

pub one_value : (t u : Tree) (x y : List ℕ) → IsTree t → IsTree u → levels t ≤ 99 → levels u ≤ 99 → length (tree_bytes t) < 2 ^ 31
    → length (tree_bytes u) < 2 ^ 31 → kind t ≡ kind u → tree_bytes t ++ x ≡ tree_bytes u ++ y → (t ≡ u) × (x ≡ y)
one_value t u x y t_lawful u_lawful t_deep u_deep t_short u_short same_kind e =
    let first = (value_reads 99).again t x t_lawful t_deep t_short in
    let second = (value_reads 99).again u y u_lawful u_deep u_short in
    let both : done {A = Tree × List ℕ} (t, x) ≡ done (u, y) = sym first ∙ (λ i. value_at 99 (same_kind i) (e i)) ∙ second in
    let pair-is : ◌≡◌ {A = Tree × List ℕ} (t, x) (u, y) = ok_is (t, x) (u, y) both in
    (ap (λ (p : Tree × List ℕ). p.0) pair-is, ap (λ (p : Tree × List ℕ). p.1) pair-is)
