-- Writing element after element, as a loop does.
use Rattle.std.proofs.Common.{◌≡◌, ℕ, zero, suc, ◌+◌, ◌-◌, ◌<◌, ◌≤◌, List, [], ◌∷◌, ◌++◌, length, take, drop, get_or, Result, Ok, Err, refl, sym, ap, subst}
use Rattle.std.proofs.Common.{◌∙◌, append_assoc, arith}
use borrow.Rule.Slice.PartMut.{put_mid, same_len_mid}
use Rattle.std.proofs.lemmas.Slice.{take-put_mid}
use Rattle.std.specs.Int.{w32, to_le_bytes}
use Rattle.std.specs.Fmt.{decimal}
use Rattle.std.proofs.lemmas.List.{drop-drop, length-append, length-take, length-drop, take_more, take_at, take_all, drop_at}
use Rattle.bson.specs.declared.fault.EncodeFault.{EncodeFault}
use Rattle.bson.specs.declared.fault.EncodeFault.TheVariants.{TooLarge, Memory}
use Rattle.bson.specs.declared.value.Value.{Value}
use Rattle.bson.specs.declared.value.Pair.{Pair}
use Rattle.bson.specs.Tree.{Pairs, no_pairs, pair, Items, no_items}
use Rattle.bson.specs.View.{tree, pairs_of, items_of}
use Rattle.bson.specs.Spelling.{type_byte, element, tree_bytes, pairs_bytes, items_bytes, frame_of}
use Rattle.bson.specs.Writing.{Puts, Fills}
use Rattle.bson.specs.EditsLaws.{pairs_of-push, items_of-push, items_len-items_of}
use Rattle.bson.specs.Edits.{items_len}
use Rattle.bson.specs.SizingLaws.{element-length, pairs_bytes-append, pairs_bytes-one, items_bytes-append}
use Rattle.bson.specs.Sizing.{capped_len}

abbrev pub zeros : List ℕ
zeros = 0 ∷ 0 ∷ 0 ∷ 0 ∷ []

-- four bytes that are written at the front of a part
pub written_at : (start : ℕ) (bytes four new : List ℕ) → start + 4 ≤ length bytes → length four ≡ 4
    → new ≡ four ++ drop 4 (take (length bytes - start) (drop start bytes))
    → put_mid start (length bytes - start) bytes new ≡ take start bytes ++ (four ++ drop (start + 4) bytes)
written_at start bytes four new room size e =
    let part : take (length bytes - start) (drop start bytes) ≡ drop start bytes =
    take_all (length bytes - start) (drop start bytes) (omega (arith, length-drop start bytes)) in
    let is : new ≡ four ++ drop (start + 4) bytes = e ∙ ap (λ (x : List ℕ). four ++ drop 4 x) part ∙ ap (λ (x : List ℕ). four ++ x) (drop-drop 4 start bytes) in
    let len : length new ≡ length bytes - start =
    omega (arith, ap length is, length-append four (drop (start + 4) bytes), length-drop (start + 4) bytes, size) in
    let all = same_len_mid start (length bytes - start) bytes new (omega (arith, len, ap length part, length-drop start bytes)) in
    sym (take_all (start + length new) (put_mid start (length bytes - start) bytes new) (omega (arith, all, len)))
    ∙ take-put_mid start (length bytes - start) bytes new (start + length new) refl (omega arith) ∙ ap (λ (x : List ℕ). take start bytes ++ x) is

-- ---- more elements

pub pairs_grow : (ps : List Pair) (i : ℕ) (p : Pair) → i < length ps → p ≡ get_or ps i p
    → pairs_bytes (pairs_of (take (i + 1) ps)) ≡ pairs_bytes (pairs_of (take i ps)) ++ element (type_byte (tree p.value)) p.name (tree_bytes (tree p.value))
pairs_grow ps i p lt is =
    let one : take (i + 1) ps ≡ take i ps ++ p ∷ [] = take_more ps i p lt ∙ ap (λ (q : Pair). take i ps ++ q ∷ []) (sym is) in
    ap (λ (xs : List Pair). pairs_bytes (pairs_of xs)) one ∙ ap pairs_bytes (pairs_of-push (take i ps) p)
    ∙ pairs_bytes-append (pairs_of (take i ps)) (pair p.name (tree p.value) no_pairs)
    ∙ ap (λ (x : List ℕ). pairs_bytes (pairs_of (take i ps)) ++ x) (pairs_bytes-one p.name (tree p.value))

-- a value in a document has no more bytes than the document's content
pub pairs_part : (ps : List Pair) (i : ℕ) (p : Pair) → i < length ps → length (tree_bytes (tree (get_or ps i p).value)) ≤ length (pairs_bytes (pairs_of ps))
unfolding pairs_bytes
pairs_part [] i p lt = absurd (omega arith)
pairs_part (q ∷ qs) zero p lt =
    omega (arith, length-append (q.name ++ 0 ∷ tree_bytes (tree q.value)) (pairs_bytes (pairs_of qs)), length-append q.name (0 ∷ tree_bytes (tree q.value)))
pairs_part (q ∷ qs) (suc i) p lt =
    omega (arith, length-append (q.name ++ 0 ∷ tree_bytes (tree q.value)) (pairs_bytes (pairs_of qs)), pairs_part qs i p (omega arith))

items_bytes-pushed : (vs : List Value) (v : Value)
    → items_bytes 0 (items_of (vs ++ v ∷ [])) ≡ items_bytes 0 (items_of vs) ++ element (type_byte (tree v)) (decimal (length vs)) (tree_bytes (tree v))
items_bytes-pushed vs v =
    let at : 0 + items_len (items_of vs) ≡ length vs = omega (arith, items_len-items_of vs) in
    ap (items_bytes 0) (items_of-push vs v) ∙ items_bytes-append 0 (items_of vs) (tree v)
    ∙ ap (λ (k : ℕ). items_bytes 0 (items_of vs) ++ element (type_byte (tree v)) (decimal k) (tree_bytes (tree v))) at

pub items_grow : (vs : List Value) (i : ℕ) (v : Value) → i < length vs → v ≡ get_or vs i v
    → items_bytes 0 (items_of (take (i + 1) vs)) ≡ items_bytes 0 (items_of (take i vs)) ++ element (type_byte (tree v)) (decimal i) (tree_bytes (tree v))
items_grow vs i v lt is =
    let one : take (i + 1) vs ≡ take i vs ++ v ∷ [] = take_more vs i v lt ∙ ap (λ (w : Value). take i vs ++ w ∷ []) (sym is) in
    let at : length (take i vs) ≡ i = omega (arith, length-take i vs) in
    ap (λ (xs : List Value). items_bytes 0 (items_of xs)) one ∙ items_bytes-pushed (take i vs) v
    ∙ ap (λ (k : ℕ). items_bytes 0 (items_of (take i vs)) ++ element (type_byte (tree v)) (decimal k) (tree_bytes (tree v))) at

pub items_part : (n : ℕ) (vs : List Value) (i : ℕ) (v : Value) → i < length vs
    → length (tree_bytes (tree (get_or vs i v))) ≤ length (items_bytes n (items_of vs))
unfolding items_bytes
items_part n [] i v lt = absurd (omega arith)
items_part n (w ∷ ws) zero v lt =
    omega (arith, length-append (decimal n ++ 0 ∷ tree_bytes (tree w)) (items_bytes (n + 1) (items_of ws)), length-append (decimal n) (0 ∷ tree_bytes (tree w)))
items_part n (w ∷ ws) (suc i) v lt =
    omega (arith, length-append (decimal n ++ 0 ∷ tree_bytes (tree w)) (items_bytes (n + 1) (items_of ws)), items_part (n + 1) ws i v (omega arith))

-- a name was put, and then a value
pub element_put : (before now with_name with_value name value : List ℕ) (type : ℕ) → now ≡ before → with_name ≡ now ++ type ∷ (name ++ 0 ∷ [])
    → with_value ≡ with_name ++ value → with_value ≡ before ++ element type name value
element_put before now with_name with_value name value type e1 e2 e3 =
    let whole : with_value ≡ (before ++ type ∷ (name ++ 0 ∷ [])) ++ value =
    e3 ∙ ap (λ (x : List ℕ). x ++ value) (e2 ∙ ap (λ (x : List ℕ). x ++ type ∷ (name ++ 0 ∷ [])) e1) in
    whole ∙ append_assoc before (type ∷ (name ++ 0 ∷ [])) value ∙ ap (λ (x : List ℕ). before ++ type ∷ x) (append_assoc name (0 ∷ []) value)

frame_length : (old content now : List ℕ) (start : ℕ) → start ≡ length old → now ≡ ((old ++ zeros) ++ content) ++ 0 ∷ []
    → length now - start ≡ length content + 5
frame_length old content now start s e =
    omega (arith, ap length e, s, length-append ((old ++ zeros) ++ content) (0 ∷ []), length-append (old ++ zeros) content, length-append old zeros)

-- the length that was filled in makes the frame
pub fills_frame : (old content now new : List ℕ) (start : ℕ) (r : Result (Unit {0}) EncodeFault) → start ≡ length old
    → now ≡ ((old ++ zeros) ++ content) ++ 0 ∷ [] → Fills start now new r → Puts (frame_of content) old new r
fills_frame old content now new start (Err Memory) s e f = tt
fills_frame old content now new start (Err TooLarge) s e f = let len = frame_length old content now start s e in
    omega (arith, f, len, length-append content (0 ∷ []))
fills_frame old content now new start (Ok u) s e f =
    let len = frame_length old content now start s e in
    let parts : now ≡ old ++ (zeros ++ (content ++ 0 ∷ [])) = e ∙ append_assoc (old ++ zeros) content (0 ∷ []) ∙ append_assoc old zeros (content ++ 0 ∷ []) in
    let front : take start now ≡ old = ap (take start) parts ∙ take_at old (zeros ++ (content ++ 0 ∷ [])) start (sym s) in
    let parts4 : now ≡ (old ++ zeros) ++ (content ++ 0 ∷ []) = e ∙ append_assoc (old ++ zeros) content (0 ∷ []) in
    let back : drop (start + 4) now ≡ content ++ 0 ∷ [] =
    ap (drop (start + 4)) parts4 ∙ drop_at (old ++ zeros) (content ++ 0 ∷ []) (start + 4) (omega (arith, s, length-append old zeros)) in (
      f.0 ∙ ap (λ (x : List ℕ). x ++ (to_le_bytes w32 (length now - start) ++ drop (start + 4) now)) front
          ∙ ap (λ (x : List ℕ). old ++ (to_le_bytes w32 (length now - start) ++ x)) back
          ∙ ap (λ (k : ℕ). old ++ (to_le_bytes w32 k ++ (content ++ 0 ∷ []))) len,
      omega (arith, f.1, len, length-append content (0 ∷ [])),
    )

pub fill_is : (items seen new : List ℕ) (len start counted : ℕ) → seen ≡ items → len ≡ length items → counted ≡ len
    → new ≡ take start seen ++ (to_le_bytes w32 (counted - start) ++ drop (start + 4) seen)
    → start + 4 ≤ length items
    → take len (new ++ drop (length new) items) ≡ take start items ++ (to_le_bytes w32 (length items - start) ++ drop (start + 4) items)
fill_is items seen new len start counted e1 e2 e3 e4 h =
    let whole : new ≡ take start items ++ (to_le_bytes w32 (length items - start) ++ drop (start + 4) items) =
    e4 ∙ (λ i. take start (e1 i) ++ (to_le_bytes w32 ((e3 ∙ e2) i - start) ++ drop (start + 4) (e1 i))) in
    let size : length new ≡ len =
    omega (
      arith,
      ap length whole,
      length-append (take start items) (to_le_bytes w32 (length items - start) ++ drop (start + 4) items),
      length-take start items,
      length-drop (start + 4) items,
      e2,
    ) in
    take_at new (drop (length new) items) len size ∙ whole

-- ---- one turn of each loop

pub items_bytes-none : (i : ℕ) → items_bytes i no_items ≡ []
unfolding items_bytes
items_bytes-none i = refl

pub pairs_bytes-none : pairs_bytes no_pairs ≡ []
unfolding pairs_bytes
pairs_bytes-none = refl

-- bytes, and one more element behind them
one_more : (base content more out1 out2 out3 name value : List ℕ) (type type' : ℕ) (name' : List ℕ) → out1 ≡ base ++ content → type ≡ type' → name ≡ name'
    → out2 ≡ out1 ++ (type ∷ (name ++ 0 ∷ [])) → out3 ≡ out2 ++ value
    → more ≡ content ++ element type' name' value → out3 ≡ base ++ more
one_more base content more out1 out2 out3 name value type type' name' e1 et en e2 e3 grow =
    element_put out1 out1 out2 out3 name value type refl e2 e3 ∙ (λ i. e1 i ++ element (et i) (en i) value)
    ∙ append_assoc base content (element type' name' value) ∙ ap (λ (x : List ℕ). base ++ x) (sym grow)

pub item_put : (vs : List Value) (i : ℕ) (v : Value) (base out1 out2 out3 name : List ℕ) (type : ℕ) → i < length vs → v ≡ get_or vs i v
    → out1 ≡ base ++ items_bytes 0 (items_of (take i vs))
    → type ≡ type_byte (tree v) → name ≡ decimal i → out2 ≡ out1 ++ (type ∷ (name ++ 0 ∷ [])) → out3 ≡ out2 ++ tree_bytes (tree v)
    → out3 ≡ base ++ items_bytes 0 (items_of (take (i + 1) vs))
item_put vs i v base out1 out2 out3 name type lt is e1 et en e2 e3 =
    one_more base (items_bytes 0 (items_of (take i vs))) (items_bytes 0 (items_of (take (i + 1) vs))) out1 out2 out3 name (tree_bytes (tree v)) type
    (type_byte (tree v)) (decimal i) e1 et en e2 e3 (items_grow vs i v lt is)

pub pair_put : (ps : List Pair) (i : ℕ) (p : Pair) (base out1 out2 out3 name : List ℕ) (type : ℕ) → i < length ps → p ≡ get_or ps i p
    → out1 ≡ base ++ pairs_bytes (pairs_of (take i ps))
    → type ≡ type_byte (tree p.value) → name ≡ p.name → out2 ≡ out1 ++ (type ∷ (name ++ 0 ∷ [])) → out3 ≡ out2 ++ tree_bytes (tree p.value)
    → out3 ≡ base ++ pairs_bytes (pairs_of (take (i + 1) ps))
pair_put ps i p base out1 out2 out3 name type lt is e1 et en e2 e3 =
    one_more base (pairs_bytes (pairs_of (take i ps))) (pairs_bytes (pairs_of (take (i + 1) ps))) out1 out2 out3 name (tree_bytes (tree p.value)) type
    (type_byte (tree p.value)) p.name e1 et en e2 e3 (pairs_grow ps i p lt is)

-- what is too large makes the whole too large
too_large : (part content a b old new : List ℕ) (fault : EncodeFault) → length part ≤ length content → Puts part a b (Err fault)
    → Puts (frame_of content) old new (Err fault)
too_large part content a b old new TooLarge le h = omega (arith, h, length-append content (0 ∷ []))
too_large part content a b old new Memory le h = tt

pub item_too_large : (vs : List Value) (ts : Items) (i : ℕ) (v : Value) (a b old new : List ℕ) (fault : EncodeFault) → items_of vs ≡ ts → i < length vs
    → v ≡ get_or vs i v
    → Puts (tree_bytes (tree v)) a b (Err fault) → Puts (frame_of (items_bytes 0 ts)) old new (Err fault)
item_too_large vs ts i v a b old new fault same lt is h =
    let le : length (tree_bytes (tree v)) ≤ length (items_bytes 0 ts) =
    subst (λ (us : Items). length (tree_bytes (tree v)) ≤ length (items_bytes 0 us)) same
    (subst (λ (w : Value). length (tree_bytes (tree w)) ≤ length (items_bytes 0 (items_of vs))) (sym is) (items_part 0 vs i v lt)) in
    too_large (tree_bytes (tree v)) (items_bytes 0 ts) a b old new fault le h

pub pair_too_large : (ps : List Pair) (qs : Pairs) (i : ℕ) (p : Pair) (a b old new : List ℕ) (fault : EncodeFault) → pairs_of ps ≡ qs → i < length ps
    → p ≡ get_or ps i p
    → Puts (tree_bytes (tree p.value)) a b (Err fault) → Puts (frame_of (pairs_bytes qs)) old new (Err fault)
pair_too_large ps qs i p a b old new fault same lt is h =
    let le : length (tree_bytes (tree p.value)) ≤ length (pairs_bytes qs) =
    subst (λ (us : Pairs). length (tree_bytes (tree p.value)) ≤ length (pairs_bytes us)) same
    (subst (λ (w : Pair). length (tree_bytes (tree w.value)) ≤ length (pairs_bytes (pairs_of ps))) (sym is) (pairs_part ps i p lt)) in
    too_large (tree_bytes (tree p.value)) (pairs_bytes qs) a b old new fault le h

-- the loop went over all
pub items_all : (vs : List Value) (ts : Items) (i : ℕ) → items_of vs ≡ ts → length vs ≤ i → items_bytes 0 (items_of (take i vs)) ≡ items_bytes 0 ts
items_all vs ts i same le = ap (λ (ws : List Value). items_bytes 0 (items_of ws)) (take_all i vs le) ∙ ap (items_bytes 0) same

pub pairs_all : (ps : List Pair) (qs : Pairs) (i : ℕ) → pairs_of ps ≡ qs → length ps ≤ i → pairs_bytes (pairs_of (take i ps)) ≡ pairs_bytes qs
pairs_all ps qs i same le = ap (λ (ws : List Pair). pairs_bytes (pairs_of ws)) (take_all i ps le) ∙ ap pairs_bytes same

pub has_room : (base content out pushed : List ℕ) (start : ℕ) → out ≡ (base ++ zeros) ++ content → pushed ≡ out ++ 0 ∷ [] → start ≡ length base
    → start + 4 ≤ length pushed
has_room base content out pushed start e1 e2 s =
    omega (arith, ap length e1, ap length e2, s, length-append (base ++ zeros) content, length-append base zeros, length-append out (0 ∷ []))

pub frame_done : (old content out pushed new : List ℕ) (start : ℕ) (so_far : List ℕ) (r : Result (Unit {0}) EncodeFault) → out ≡ (old ++ zeros) ++ so_far
    → so_far ≡ content → pushed ≡ out ++ 0 ∷ [] → start ≡ length old
    → Fills start pushed new r → Puts (frame_of content) old new r
frame_done old content out pushed new start so_far r e1 same e2 s f =
    fills_frame old content pushed new start r s (e2 ∙ ap (λ (x : List ℕ). x ++ 0 ∷ []) (e1 ∙ ap (λ (x : List ℕ). (old ++ zeros) ++ x) same)) f

-- ---- lengths as they are counted

pub pairs_longer : (ps : List Pair) (i : ℕ) (p : Pair) → i < length ps → p ≡ get_or ps i p
    → length (pairs_bytes (pairs_of (take (i + 1) ps))) ≡ length (pairs_bytes (pairs_of (take i ps))) + length p.name + length (tree_bytes (tree p.value)) + 2
pairs_longer ps i p lt is =
    omega (
      arith,
      ap length (pairs_grow ps i p lt is),
      length-append (pairs_bytes (pairs_of (take i ps))) (element (type_byte (tree p.value)) p.name (tree_bytes (tree p.value))),
      element-length (type_byte (tree p.value)) p.name (tree_bytes (tree p.value)),
    )

pub items_longer : (vs : List Value) (i : ℕ) (v : Value) → i < length vs → v ≡ get_or vs i v
    → length (items_bytes 0 (items_of (take (i + 1) vs))) ≡ length (items_bytes 0 (items_of (take i vs))) + length (decimal i) + length (tree_bytes (tree v))
    + 2
items_longer vs i v lt is =
    omega (
      arith,
      ap length (items_grow vs i v lt is),
      length-append (items_bytes 0 (items_of (take i vs))) (element (type_byte (tree v)) (decimal i) (tree_bytes (tree v))),
      element-length (type_byte (tree v)) (decimal i) (tree_bytes (tree v)),
    )

-- what is added up in three steps, each stopping at the greatest number
pub capped_sum : (old name value new total grown a b c d e : ℕ) → old ≡ capped_len (total + 5) → a ≡ capped_len (old + 2) → d ≡ name → b ≡ capped_len (a + d)
    → e ≡ capped_len value → c ≡ capped_len (b + e)
    → grown ≡ total + name + value + 2 → new ≡ c → new ≡ capped_len (grown + 5)
capped_sum old name value new total grown a b c d e e1 e2 e3 e4 e5 e6 e7 e8 = omega arith
