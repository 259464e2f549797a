-- Reading element after element, as a loop does.
use Rattle.std.proofs.Common.{◌≡◌, ℕ, zero, suc, max, ◌+◌, ◌-◌, ◌<◌, ◌≤◌, Bool, true, false, ◌||◌, List, [], ◌∷◌, ◌++◌, length, Result, Ok, Err, refl, sym, ap}
use Rattle.std.proofs.Common.{subst, ◌∙◌, arith, sub-one}
use Rattle.std.specs.Str.{bytes_eq}
use Rattle.std.specs.List.{list_any}
use Rattle.std.specs.Fmt.{decimal}
use Rattle.std.proofs.lemmas.List.Folds.{list_any-append}
use Rattle.std.proofs.lemmas.List.{length-append, map-append, nil_from_length}
use Rattle.bson_bytes.specs.declared.fault.BsonFault.{BsonFault}
use Rattle.bson_bytes.specs.declared.fault.BsonFault.TheVariants as faults
use Rattle.bson.specs.declared.kind.Kind.TheVariants as kinds
use Rattle.bson.specs.declared.value.Value.{Value}
use Rattle.bson.specs.declared.value.Pair.{Pair}
use Rattle.bson.specs.Tree.{Tree, document, array, append, append_items, Pairs, no_pairs, pair, Items, no_items, item}
use Rattle.bson.specs.View.{tree, pairs_of, items_of, names_of}
use Rattle.bson.specs.EditPlaces.{append-none, append-one, append_items-none, append_items-one}
use Rattle.bson.specs.EditsLaws.{pairs_of-push, items_of-push}
use Rattle.bson.specs.Spelling.{element, type_byte, tree_bytes}
use Rattle.outcome.specs.Outcome.{◌>>=◌, Fails}
use Rattle.bson.specs.Lookup.{stands_in}
use Rattle.bson_bytes.specs.Decoding.{Read, element_by, item_by, pairs_by, items_by, pairs_in, items_in, value_at, content_at}
use Rattle.bson_bytes.specs.Checked.{PairsSoFar, with_front}
use Rattle.bson_bytes.proofs.PairLaws.{IsBytes-rest, element_takes, pairs_take}
use Rattle.bson_bytes.proofs.TreeLaws.{item_takes, items_take, value_reads}
use Rattle.bson.specs.Lawful.{IsBytes, levels, pairs_levels, items_levels, IsDocument, IsArray}

pub stands_in_names : (ps : List Pair) (name : List ℕ) → stands_in (names_of ps) name ≡ list_any (λ (p : Pair). bytes_eq name p.name) ps
stands_in_names [] name = refl
stands_in_names (p ∷ ps) name = ap (λ (b : Bool). bytes_eq name p.name || b) (stands_in_names ps name)

-- ---- documents

front-none : (read : Result Pairs BsonFault) → with_front no_pairs read ≡ read
front-none (Ok ps) = refl
front-none (Err e) = refl

front-one : (front : Pairs) (name : List ℕ) (t : Tree) (read : Result Pairs BsonFault)
    → with_front front (read >>= λ others. Ok (pair name t others)) ≡ with_front (append front (pair name t no_pairs)) read
front-one front name t (Ok ps) = ap (λ (qs : Pairs). Ok qs) (sym (append-one front name t ps))
front-one front name t (Err e) = refl

pub pairs_start : (more : ℕ) (content : List ℕ) → IsBytes content → PairsSoFar more no_pairs [] content (pairs_in (value_at more) content)
pairs_start more content fits = record { fits = fits; most = length content; enough = omega arith; same = front-none (pairs_in (value_at more) content) }

pub element_shorter : (more : ℕ) (wrong : List ℕ → Bool) (fault : BsonFault) (type : ℕ) (bytes : List ℕ) (name : List ℕ) (t : Tree) (after : List ℕ)
    → IsBytes bytes
    → element_by (value_at more) wrong fault type bytes ≡ Ok ((name, t), after) → length after < length bytes
element_shorter more wrong fault type bytes name t after fits e =
    let r = element_takes (value_at more) more (value_reads more) wrong fault type bytes ((name, t), after) fits e in
    let len = ap length r.0.takes.parts in
    let first = length-append (element (type_byte t) name (tree_bytes t)) after in
    let second = length-append name (0 ∷ tree_bytes t) in
    omega (arith, len, first, second)

pub pairs_step : (more : ℕ) (front : Pairs) (earlier : List (List ℕ)) (type : ℕ) (bytes : List ℕ) (total : Result Pairs BsonFault) (name : List ℕ) (t : Tree)
    (after : List ℕ)
    → PairsSoFar more front earlier (type ∷ bytes) total → element_by (value_at more) (stands_in earlier) faults.Repeated type bytes ≡ Ok ((name, t), after)
    → PairsSoFar more (append front (pair name t no_pairs)) (earlier ++ name ∷ []) after total
unfolding pairs_by
pairs_step more front earlier type bytes total name t after s e = go s.most s.enough s.same
  where
    fits : IsBytes bytes
    fits = IsBytes-rest type bytes s.fits

    go : (most : ℕ) → length (type ∷ bytes) ≤ most → with_front front (pairs_by (value_at more) most earlier (type ∷ bytes)) ≡ total
        → PairsSoFar more (append front (pair name t no_pairs)) (earlier ++ name ∷ []) after total
    go zero enough same = absurd (omega arith)
    go (suc most) enough same = record {
      fits = (element_takes (value_at more) more (value_reads more) (stands_in earlier) faults.Repeated type bytes ((name, t), after) fits e).0.takes.rest_fits;
      most = most;
      enough = omega (arith, element_shorter more (stands_in earlier) faults.Repeated type bytes name t after fits e);
      same = sym (front-one front name t (pairs_by (value_at more) most (earlier ++ name ∷ []) after))
          ∙ ap (λ (r : Read (List ℕ × Tree)). with_front front
          (r >>= λ first. pairs_by (value_at more) most (earlier ++ first.0.0 ∷ []) first.1 >>= λ others. Ok (pair first.0.0 first.0.1 others))) (sym e) ∙ same;
    }

pub pairs_stop : (fault : BsonFault) (more : ℕ) (front : Pairs) (earlier : List (List ℕ)) (type : ℕ) (bytes : List ℕ) (total : Result Pairs BsonFault)
    → PairsSoFar more front earlier (type ∷ bytes) total → element_by (value_at more) (stands_in earlier) faults.Repeated type bytes ≡ Err fault
    → total ≡ Err fault
unfolding pairs_by
pairs_stop fault more front earlier type bytes total s f = go s.most s.enough s.same
  where
    go : (most : ℕ) → length (type ∷ bytes) ≤ most → with_front front (pairs_by (value_at more) most earlier (type ∷ bytes)) ≡ total → total ≡ Err fault
    go zero enough same = absurd (omega arith)
    go (suc most) enough same =
        sym same ∙ ap
        (λ (r : Read (List ℕ × Tree)). with_front front
        (r >>= λ first. pairs_by (value_at more) most (earlier ++ first.0.0 ∷ []) first.1 >>= λ others. Ok (pair first.0.0 first.0.1 others))) f

pub pairs_done : (more : ℕ) (front : Pairs) (earlier : List (List ℕ)) (total : Result Pairs BsonFault) → PairsSoFar more front earlier [] total
    → total ≡ Ok front
unfolding pairs_by
pairs_done more front earlier total s = go s.most s.same
  where
    go : (most : ℕ) → with_front front (pairs_by (value_at more) most earlier []) ≡ total → total ≡ Ok front
    go zero same = sym same ∙ ap (λ (qs : Pairs). Ok qs) (append-none front)
    go (suc most) same = sym same ∙ ap (λ (qs : Pairs). Ok qs) (append-none front)

-- ---- arrays

abbrev pub with_items : Items → Result Items BsonFault → Result Items BsonFault
with_items front read = read >>= λ ts. Ok (append_items front ts)

pub record ItemsSoFar (more : ℕ) (front : Items) (i : ℕ) (rest : List ℕ) (total : Result Items BsonFault) : Type 0 where
  pub fits : IsBytes rest
  pub most : ℕ
  pub enough : length rest ≤ most
  pub same : with_items front (items_by (value_at more) most i rest) ≡ total

items-none : (read : Result Items BsonFault) → with_items no_items read ≡ read
items-none (Ok ts) = refl
items-none (Err e) = refl

items-one : (front : Items) (t : Tree) (read : Result Items BsonFault)
    → with_items front (read >>= λ others. Ok (item t others)) ≡ with_items (append_items front (item t no_items)) read
items-one front t (Ok ts) = ap (λ (us : Items). Ok us) (sym (append_items-one front t ts))
items-one front t (Err e) = refl

pub items_start : (more : ℕ) (content : List ℕ) → IsBytes content → ItemsSoFar more no_items 0 content (items_in (value_at more) content)
items_start more content fits = record { fits = fits; most = length content; enough = omega arith; same = items-none (items_in (value_at more) content) }

pub item_shorter : (more i type : ℕ) (bytes : List ℕ) (t : Tree) (after : List ℕ) → IsBytes bytes → item_by (value_at more) i type bytes ≡ Ok (t, after)
    → length after < length bytes
item_shorter more i type bytes t after fits e =
    let r = item_takes (value_at more) more (value_reads more) i type bytes (t, after) fits e in
    let len = ap length r.takes.parts in
    let first = length-append (element (type_byte t) (decimal i) (tree_bytes t)) after in
    let second = length-append (decimal i) (0 ∷ tree_bytes t) in
    omega (arith, len, first, second)

abbrev items_after : (more most i : ℕ) (front : Items) → Read Tree → Result Items BsonFault
items_after more most i front r = with_items front (r >>= λ first. items_by (value_at more) most (i + 1) first.1 >>= λ others. Ok (item first.0 others))

pub items_step : (more : ℕ) (front : Items) (i type : ℕ) (bytes : List ℕ) (total : Result Items BsonFault) (t : Tree) (after : List ℕ)
    → ItemsSoFar more front i (type ∷ bytes) total → item_by (value_at more) i type bytes ≡ Ok (t, after)
    → ItemsSoFar more (append_items front (item t no_items)) (i + 1) after total
unfolding items_by
items_step more front i type bytes total t after s e = go s.most s.enough s.same
  where
    fits : IsBytes bytes
    fits = IsBytes-rest type bytes s.fits

    go : (most : ℕ) → length (type ∷ bytes) ≤ most → with_items front (items_by (value_at more) most i (type ∷ bytes)) ≡ total
        → ItemsSoFar more (append_items front (item t no_items)) (i + 1) after total
    go zero enough same = absurd (omega arith)
    go (suc most) enough same = record {
      fits = (item_takes (value_at more) more (value_reads more) i type bytes (t, after) fits e).takes.rest_fits;
      most = most;
      enough = omega (arith, item_shorter more i type bytes t after fits e);
      same = sym (items-one front t (items_by (value_at more) most (i + 1) after)) ∙ ap (items_after more most i front) (sym e) ∙ same;
    }

pub items_stop : (fault : BsonFault) (more : ℕ) (front : Items) (i type : ℕ) (bytes : List ℕ) (total : Result Items BsonFault)
    → ItemsSoFar more front i (type ∷ bytes) total → item_by (value_at more) i type bytes ≡ Err fault → total ≡ Err fault
unfolding items_by
items_stop fault more front i type bytes total s f = go s.most s.enough s.same
  where
    go : (most : ℕ) → length (type ∷ bytes) ≤ most → with_items front (items_by (value_at more) most i (type ∷ bytes)) ≡ total → total ≡ Err fault
    go zero enough same = absurd (omega arith)
    go (suc most) enough same = sym same ∙ ap (items_after more most i front) f

pub items_done : (more : ℕ) (front : Items) (i : ℕ) (total : Result Items BsonFault) → ItemsSoFar more front i [] total → total ≡ Ok front
unfolding items_by
items_done more front i total s = go s.most s.same
  where
    go : (most : ℕ) → with_items front (items_by (value_at more) most i []) ≡ total → total ≡ Ok front
    go zero same = sym same ∙ ap (λ (us : Items). Ok us) (append_items-none front)
    go (suc most) same = sym same ∙ ap (λ (us : Items). Ok us) (append_items-none front)

-- ---- what was read makes a document, or an array

pub document_holds : (more : ℕ) (content : List ℕ) (ps : Pairs) → more ≤ 99 → IsBytes content → pairs_in (value_at more) content ≡ Ok ps → IsDocument ps
document_holds more content ps le fits e =
    let r = pairs_take (value_at more) more (value_reads more) (length content) [] content ps fits e in
    record { lawful = r.lawful; depth = omega (arith, r.depth) }

pub array_holds : (more : ℕ) (content : List ℕ) (ts : Items) → more ≤ 98 → IsBytes content → items_in (value_at more) content ≡ Ok ts → IsArray ts
array_holds more content ts le fits e =
    let r = items_take (value_at more) more (value_reads more) (length content) 0 content ts fits e in
    record { lawful = r.lawful; depth = omega (arith, r.depth) }

-- ---- one more level

pub value_at_document : (more : ℕ) (bytes : List ℕ) → 0 < more
    → value_at more kinds.Document bytes ≡ (content_at bytes >>= λ content. pairs_in (value_at (more - 1)) content.0 >>= λ ps. Ok (document ps, content.1))
unfolding value_at
value_at_document zero bytes h = absurd (omega arith)
value_at_document (suc more) bytes h = rw sub-one refl

pub value_at_array : (more : ℕ) (bytes : List ℕ) → 0 < more
    → value_at more kinds.Array bytes ≡ (content_at bytes >>= λ content. items_in (value_at (more - 1)) content.0 >>= λ ts. Ok (array ts, content.1))
unfolding value_at
value_at_array zero bytes h = absurd (omega arith)
value_at_array (suc more) bytes h = rw sub-one refl

pub document_fails : (e : BsonFault) (more : ℕ) (bytes : List ℕ) (content : List ℕ × List ℕ) → 0 < more → content_at bytes ≡ Ok content
    → Fails faults.Memory e (pairs_in (value_at (more - 1)) content.0)
    → Fails faults.Memory e (value_at more kinds.Document bytes)
document_fails e more bytes content h c f not_memory = value_at_document more bytes h ∙ rw (c, f not_memory) refl

pub document_found : (more : ℕ) (bytes : List ℕ) (content : List ℕ × List ℕ) (ps : Pairs) → 0 < more → content_at bytes ≡ Ok content
    → pairs_in (value_at (more - 1)) content.0 ≡ Ok ps
    → value_at more kinds.Document bytes ≡ Ok (document ps, content.1)
document_found more bytes content ps h c f = value_at_document more bytes h ∙ rw (c, f) refl

pub array_fails : (e : BsonFault) (more : ℕ) (bytes : List ℕ) (content : List ℕ × List ℕ) → 0 < more → content_at bytes ≡ Ok content
    → Fails faults.Memory e (items_in (value_at (more - 1)) content.0)
    → Fails faults.Memory e (value_at more kinds.Array bytes)
array_fails e more bytes content h c f not_memory = value_at_array more bytes h ∙ rw (c, f not_memory) refl

pub array_found : (more : ℕ) (bytes : List ℕ) (content : List ℕ × List ℕ) (ts : Items) → 0 < more → content_at bytes ≡ Ok content
    → items_in (value_at (more - 1)) content.0 ≡ Ok ts
    → value_at more kinds.Array bytes ≡ Ok (array ts, content.1)
array_found more bytes content ts h c f = value_at_array more bytes h ∙ rw (c, f) refl

-- ---- one turn of each loop

module _ (more : ℕ) (ps : List Pair) (rest : List ℕ) (type : ℕ) (bytes : List ℕ) (total : Result Pairs BsonFault) (front : rest ≡ type ∷ bytes)
    (so_far : PairsSoFar more (pairs_of ps) (names_of ps) rest total) where
  at_front : PairsSoFar more (pairs_of ps) (names_of ps) (type ∷ bytes) total
  at_front = subst (λ (r : List ℕ). PairsSoFar more (pairs_of ps) (names_of ps) r total) front so_far

  pub pairs_pushed : (p : Pair) (after : List ℕ)
      → element_by (value_at more) (stands_in (names_of ps)) faults.Repeated type bytes ≡ Ok ((p.name, tree p.value), after)
      → PairsSoFar more (pairs_of (ps ++ p ∷ [])) (names_of (ps ++ p ∷ [])) after total
  pairs_pushed p after e =
      rw (pairs_of-push ps p, map-append) (pairs_step more (pairs_of ps) (names_of ps) type bytes total p.name (tree p.value) after at_front e)

  pub pair_shorter : (p : Pair) (after : List ℕ)
      → element_by (value_at more) (stands_in (names_of ps)) faults.Repeated type bytes ≡ Ok ((p.name, tree p.value), after) → length after < length rest
  pair_shorter p after e =
      let lt = element_shorter more (stands_in (names_of ps)) faults.Repeated type bytes p.name (tree p.value) after
      (IsBytes-rest type bytes at_front.fits) e in
      omega (arith, ap length front, lt)

  pub pairs_fail : (fault : BsonFault) → Fails faults.Memory fault (element_by (value_at more) (stands_in (names_of ps)) faults.Repeated type bytes)
      → Fails faults.Memory fault total
  pairs_fail fault f not_memory = pairs_stop fault more (pairs_of ps) (names_of ps) type bytes total at_front (f not_memory)

pub pairs_over : (more : ℕ) (ps : List Pair) (rest : List ℕ) (total : Result Pairs BsonFault) → PairsSoFar more (pairs_of ps) (names_of ps) rest total
    → length rest ≡ 0 → total ≡ Ok (pairs_of ps)
pairs_over more ps rest total so_far none =
    pairs_done more (pairs_of ps) (names_of ps) total
    (subst (λ (r : List ℕ). PairsSoFar more (pairs_of ps) (names_of ps) r total) (nil_from_length rest none) so_far)

module _ (more : ℕ) (vs : List Value) (rest : List ℕ) (type : ℕ) (bytes : List ℕ) (total : Result Items BsonFault) (front : rest ≡ type ∷ bytes)
    (so_far : ItemsSoFar more (items_of vs) (length vs) rest total) where
  items_front : ItemsSoFar more (items_of vs) (length vs) (type ∷ bytes) total
  items_front = subst (λ (r : List ℕ). ItemsSoFar more (items_of vs) (length vs) r total) front so_far

  pub items_pushed : (v : Value) (after : List ℕ) → item_by (value_at more) (length vs) type bytes ≡ Ok (tree v, after)
      → ItemsSoFar more (items_of (vs ++ v ∷ [])) (length (vs ++ v ∷ [])) after total
  items_pushed v after e = rw (items_of-push vs v, length-append) (items_step more (items_of vs) (length vs) type bytes total (tree v) after items_front e)

  pub items_shorter : (v : Value) (after : List ℕ) → item_by (value_at more) (length vs) type bytes ≡ Ok (tree v, after) → length after < length rest
  items_shorter v after e =
      let lt = item_shorter more (length vs) type bytes (tree v) after (IsBytes-rest type bytes items_front.fits) e in
      omega (arith, ap length front, lt)

  pub items_fail : (fault : BsonFault) → Fails faults.Memory fault (item_by (value_at more) (length vs) type bytes) → Fails faults.Memory fault total
  items_fail fault f not_memory = items_stop fault more (items_of vs) (length vs) type bytes total items_front (f not_memory)

pub items_over : (more : ℕ) (vs : List Value) (rest : List ℕ) (total : Result Items BsonFault) → ItemsSoFar more (items_of vs) (length vs) rest total
    → length rest ≡ 0 → total ≡ Ok (items_of vs)
items_over more vs rest total so_far none =
    items_done more (items_of vs) (length vs) total
    (subst (λ (r : List ℕ). ItemsSoFar more (items_of vs) (length vs) r total) (nil_from_length rest none) so_far)

-- ---- names that stand before

-- what is read of an element goes by which names stand before
pub element_named : (more type : ℕ) (bytes : List ℕ) (names earlier : List (List ℕ)) → ((name : List ℕ) → stands_in names name ≡ stands_in earlier name)
    → element_by (value_at more) (stands_in names) faults.Repeated type bytes ≡ element_by (value_at more) (stands_in earlier) faults.Repeated type bytes
element_named more type bytes names earlier same = λ i. element_by (value_at more) (λ name. same name i) faults.Repeated type bytes

-- ---- levels
