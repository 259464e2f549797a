-- Checking element after element, as a loop does that keeps only how far it has come.
use Rattle.std.proofs.Common.{◌≡◌, ℕ, ◌+◌, ◌-◌, ◌^◌, ◌<◌, ◌≤◌, Bool, true, false, List, []}
use Rattle.std.proofs.Common.{◌∷◌, ◌++◌, length, take, set, Result, Ok, Err, refl, sym, ap, subst, ◌∙◌}
use Rattle.std.proofs.Common.{append_assoc, arith}
use Rattle.std.specs.Str.{bytes_eq}
use Rattle.std.proofs.lemmas.List.{length-append, length-set, take_at, nil_from_length}
use Rattle.bson_bytes.specs.declared.fault.BsonFault.{BsonFault}
use Rattle.bson_bytes.specs.declared.fault.BsonFault.TheVariants as faults
use Rattle.bson.specs.declared.kind.Kind.TheVariants as kinds
use Rattle.bson.specs.Tree.{Tree, Pairs, no_pairs, pair, append, Items, no_items, item, append_items}
use Rattle.bson.specs.Lawful.{IsBytes, Lacks}
use Rattle.bson.specs.EditPlaces.{IsPairs-append, pairs_levels-append}
use Rattle.bson.specs.Spelling.{element, type_byte, tree_bytes, pairs_bytes}
use Rattle.bson.specs.SizingLaws.{pairs_bytes-none, pairs_bytes-one, pairs_bytes-append}
use Rattle.bson.specs.Lookup.{stands_in}
use Rattle.bson_bytes.specs.Decoding.{Read, element_by, item_by, content_at, pairs_in, items_in, value_at}
use Rattle.bson_bytes.specs.Raw.{tree_names, pairs_spelled, Elements, name_and_rest, rest_of, outcome_of}
use Rattle.outcome.specs.Outcome.{◌>>=◌}
use Rattle.bson_bytes.specs.Checked.{PairsSoFar, CheckedPairs, CountedPairs}
use Rattle.bson_bytes.specs.Marks.{mixed, name_mark, AreMarked}
use Rattle.bson.proofs.PushLaws.{or_false}
use Rattle.bson_bytes.proofs.FrameLaws.{ok_is}
use Rattle.bson.proofs.PushLaws.{ne-bytes_eq}
use Rattle.bson_bytes.proofs.PairLaws.{IsBytes-rest, element_takes}
use Rattle.bson_bytes.proofs.TreeLaws.{value_reads}
use Rattle.bson_bytes.proofs.ReadLoopLaws.{pairs_start, pairs_step, pairs_stop, pairs_done, ItemsSoFar, items_start, items_step, items_stop, items_done}
use Rattle.bson_bytes.proofs.ReadLoopLaws.{item_shorter, value_at_document, value_at_array}
use Rattle.bson_bytes.proofs.RawLaws.{pairs_spelled-is}
use Rattle.bson_bytes.proofs.MarkLaws.{mark_within, none_marked, marked_more}

-- ---- what is left says what was read

pub rest_ok : {Y : Type 0} (read : Read Y) (rest : List ℕ) → rest_of read ≡ Ok rest → (t : Y) × (read ≡ Ok (t, rest))
rest_ok {Y} (Ok x) rest e = let same : x.1 ≡ rest = cc in (x.0, ap (λ (r : List ℕ). let y : Read Y = Ok (x.0, r) in y) same)
rest_ok (Err f) rest e = absurd cc

pub rest_err : {Y : Type 0} (read : Read Y) (f : BsonFault) → rest_of read ≡ Err f → read ≡ Err f
rest_err (Ok x) f e = absurd cc
rest_err (Err g) f e = let same : g ≡ f = cc in ap (λ (h : BsonFault). Err h) same

pub named_ok : {Y : Type 0} (read : Read (List ℕ × Y)) (name rest : List ℕ) → name_and_rest read ≡ Ok (name, rest) → (t : Y) × (read ≡ Ok ((name, t), rest))
named_ok {Y} (Ok x) name rest e =
    let made : List ℕ × List ℕ = (x.0.0, x.1) in
    let same : made ≡ (name, rest) = ok_is made (name, rest) e in
    (x.0.1, λ i. let y : Read (List ℕ × Y) = Ok (((same i).0, x.0.1), (same i).1) in y)
named_ok (Err f) name rest e = absurd cc

pub named_err : {Y : Type 0} (read : Read (List ℕ × Y)) (f : BsonFault) → name_and_rest read ≡ Err f → read ≡ Err f
named_err (Ok x) f e = absurd cc
named_err (Err g) f e = let same : g ≡ f = cc in ap (λ (h : BsonFault). Err h) same

-- what a value leaves is what its element leaves, with the name
pub value_named : (name : List ℕ) (value : Read Tree) (rest : List ℕ) → rest_of value ≡ Ok rest
    → name_and_rest (value >>= λ v. Ok ((name, v.0), v.1)) ≡ Ok (name, rest)
value_named name (Ok x) rest e = let same : x.1 ≡ rest = cc in ap (λ (r : List ℕ). let y : Read (List ℕ) = Ok (name, r) in y) same
value_named name (Err f) rest e = absurd cc

pub value_unnamed : (name : List ℕ) (value : Read Tree) (f : BsonFault) → rest_of value ≡ Err f
    → name_and_rest (value >>= λ v. Ok ((name, v.0), v.1)) ≡ Err f
value_unnamed name (Ok x) f e = absurd cc
value_unnamed name (Err g) f e = let same : g ≡ f = cc in ap (λ (h : BsonFault). let y : Read (List ℕ) = Err h in y) same

pub outcome_ok : {Y : Type 0} (r : Result Y BsonFault) (u : Unit {0}) → outcome_of r ≡ Ok u → (y : Y) × (r ≡ Ok y)
outcome_ok (Ok y) u e = (y, refl)
outcome_ok (Err f) u e = absurd cc

pub outcome_err : {Y : Type 0} (r : Result Y BsonFault) (f : BsonFault) → outcome_of r ≡ Err f → r ≡ Err f
outcome_err (Ok y) f e = absurd cc
outcome_err (Err g) f e = let same : g ≡ f = cc in ap (λ (h : BsonFault). Err h) same

-- ---- one more level

pub document_refused : (f : BsonFault) (more : ℕ) (bytes : List ℕ) (content : List ℕ × List ℕ) → 0 < more → content_at bytes ≡ Ok content
    → outcome_of (pairs_in (value_at (more - 1)) content.0) ≡ Err f
    → rest_of (value_at more kinds.Document bytes) ≡ Err f
document_refused f more bytes content h c e =
    ap rest_of (value_at_document more bytes h) ∙ rw (c, outcome_err (pairs_in (value_at (more - 1)) content.0) f e) refl

pub document_passed : (more : ℕ) (bytes : List ℕ) (content : List ℕ × List ℕ) (u : Unit {0}) → 0 < more → content_at bytes ≡ Ok content
    → outcome_of (pairs_in (value_at (more - 1)) content.0) ≡ Ok u
    → rest_of (value_at more kinds.Document bytes) ≡ Ok content.1
document_passed more bytes content u h c e =
    let found = outcome_ok (pairs_in (value_at (more - 1)) content.0) u e in
    ap rest_of (value_at_document more bytes h) ∙ rw (c, found.1) refl

pub array_refused : (f : BsonFault) (more : ℕ) (bytes : List ℕ) (content : List ℕ × List ℕ) → 0 < more → content_at bytes ≡ Ok content
    → outcome_of (items_in (value_at (more - 1)) content.0) ≡ Err f
    → rest_of (value_at more kinds.Array bytes) ≡ Err f
array_refused f more bytes content h c e = ap rest_of (value_at_array more bytes h) ∙ rw (c, outcome_err (items_in (value_at (more - 1)) content.0) f e) refl

pub array_passed : (more : ℕ) (bytes : List ℕ) (content : List ℕ × List ℕ) (u : Unit {0}) → 0 < more → content_at bytes ≡ Ok content
    → outcome_of (items_in (value_at (more - 1)) content.0) ≡ Ok u
    → rest_of (value_at more kinds.Array bytes) ≡ Ok content.1
array_passed more bytes content u h c e =
    let found = outcome_ok (items_in (value_at (more - 1)) content.0) u e in
    ap rest_of (value_at_array more bytes h) ∙ rw (c, found.1) refl

-- ---- documents

pub tree_names-append : (ps : Pairs) (name : List ℕ) (t : Tree) → tree_names (append ps (pair name t no_pairs)) ≡ tree_names ps ++ name ∷ []
tree_names-append no_pairs name t = refl
tree_names-append (pair other u ps) name t = ap (λ (ns : List (List ℕ)). other ∷ ns) (tree_names-append ps name t)

pub Lacks-from_names : (ps : Pairs) (name : List ℕ) → stands_in (tree_names ps) name ≡ false → Lacks ps name
Lacks-from_names no_pairs name e = tt
Lacks-from_names (pair other t ps) name e =
    let parts = or_false (bytes_eq name other) (stands_in (tree_names ps) name) e in
    (ne-bytes_eq name other parts.0, Lacks-from_names ps name parts.1)

abbrev pub pairs_unchecked : (more : ℕ) (content : List ℕ) → IsBytes content → CheckedPairs more content content
pairs_unchecked more content fits =
    record {
      front = no_pairs;
      so_far = pairs_start more content fits;
      parts = ap (λ (x : List ℕ). x ++ content) (sym pairs_bytes-none);
      lawful = tt;
      depth = omega arith;
    }

pub pairs_uncounted : (more : ℕ) (content : List ℕ) → IsBytes content → CountedPairs more content content 0
pairs_uncounted more content fits = record { checked = pairs_unchecked more content fits; counted = refl; within = omega arith }

pub rest_within : (more : ℕ) (content rest : List ℕ) → CheckedPairs more content rest → length rest ≤ length content
rest_within more content rest k = omega (arith, ap length k.parts, length-append (pairs_bytes k.front) rest)

-- what stands before the rest
pub before_rest : (more : ℕ) (content rest earlier : List ℕ) (at : ℕ) (k : CheckedPairs more content rest) → at ≡ length content - length rest
    → earlier ≡ take at content → more ≤ 99 → length content < 2 ^ 31 → Elements earlier k.front
before_rest more content rest earlier at k e is le short =
    let size : length (pairs_bytes k.front) ≡ at = omega (arith, e, ap length k.parts, length-append (pairs_bytes k.front) rest) in
    let same : earlier ≡ pairs_bytes k.front = is ∙ ap (take at) k.parts ∙ take_at (pairs_bytes k.front) rest at size in
    record {
      lawful = k.lawful;
      depth = omega (arith, k.depth, le);
      spelled = same;
      short = omega (arith, ap length same, ap length k.parts, length-append (pairs_bytes k.front) rest, short);
    }

-- one element more
module _ (more : ℕ) (content rest : List ℕ) (type : ℕ) (bytes : List ℕ) (k : CheckedPairs more content rest) (front : rest ≡ type ∷ bytes) where
  at_front : PairsSoFar more k.front (tree_names k.front) (type ∷ bytes) (pairs_in (value_at more) content)
  at_front = subst (λ (r : List ℕ). PairsSoFar more k.front (tree_names k.front) r (pairs_in (value_at more) content)) front k.so_far

  pub pair_taken : (name : List ℕ) (t : Tree) (after : List ℕ)
      → element_by (value_at more) (stands_in (tree_names k.front)) faults.Repeated type bytes ≡ Ok ((name, t), after)
      → (next : CheckedPairs more content after) × (length after < length rest) × (tree_names next.front ≡ tree_names k.front ++ name ∷ [])
  pair_taken name t after read =
      let r = element_takes (value_at more) more (value_reads more) (stands_in (tree_names k.front)) faults.Repeated type bytes ((name, t), after)
      (IsBytes-rest type bytes at_front.fits) read in
      let next = pairs_step more k.front (tree_names k.front) type bytes (pairs_in (value_at more) content) name t after at_front read in
      let grown = append k.front (pair name t no_pairs) in
      let spelled : pairs_bytes grown ≡ pairs_bytes k.front ++ element (type_byte t) name (tree_bytes t) =
      pairs_bytes-append k.front (pair name t no_pairs) ∙ ap (λ (x : List ℕ). pairs_bytes k.front ++ x) (pairs_bytes-one name t) in
      let size = ap length (front ∙ r.0.takes.parts) in (
        record {
          front = grown;
          so_far = subst (λ (names : List (List ℕ)). PairsSoFar more grown names after (pairs_in (value_at more) content))
              (sym (tree_names-append k.front name t)) next;
          parts =
              k.parts ∙ ap (λ (x : List ℕ). pairs_bytes k.front ++ x) (front ∙ r.0.takes.parts)
              ∙ sym (append_assoc (pairs_bytes k.front) (element (type_byte t) name (tree_bytes t)) after) ∙ ap (λ (x : List ℕ). x ++ after) (sym spelled);
          lawful = IsPairs-append k.front name t k.lawful r.0.is_name r.0.lawful (Lacks-from_names k.front name r.1);
          depth = omega (arith, pairs_levels-append k.front (pair name t no_pairs), k.depth, r.0.depth);
        },
        omega (arith, size, length-append (element (type_byte t) name (tree_bytes t)) after),
        tree_names-append k.front name t,
      )

  pub pair_stops : (f : BsonFault) → element_by (value_at more) (stands_in (tree_names k.front)) faults.Repeated type bytes ≡ Err f
      → outcome_of (pairs_in (value_at more) content) ≡ Err f
  pair_stops f failed = ap outcome_of (pairs_stop f more k.front (tree_names k.front) type bytes (pairs_in (value_at more) content) at_front failed)

module _ (more : ℕ) (content rest earlier : List ℕ) (type : ℕ) (bytes : List ℕ) (k : CheckedPairs more content rest) (front : rest ≡ type ∷ bytes)
    (before : Elements earlier k.front) where
  same_read : element_by (value_at more) (stands_in (tree_names (pairs_spelled earlier))) faults.Repeated type bytes
      ≡ element_by (value_at more) (stands_in (tree_names k.front)) faults.Repeated type bytes
  same_read = ap (λ (ps : Pairs). element_by (value_at more) (stands_in (tree_names ps)) faults.Repeated type bytes) (pairs_spelled-is earlier k.front before)

  pub pair_checked : (after : List ℕ)
      → rest_of (element_by (value_at more) (stands_in (tree_names (pairs_spelled earlier))) faults.Repeated type bytes) ≡ Ok after
      → (next : CheckedPairs more content after) × (length after < length rest) × (length (tree_names next.front) ≡ length (tree_names k.front) + 1)
  pair_checked after e =
      let found = rest_ok (element_by (value_at more) (stands_in (tree_names k.front)) faults.Repeated type bytes) after (ap rest_of (sym same_read) ∙ e) in
      let next = pair_taken more content rest type bytes k front found.0.0 found.0.1 after found.1 in
      (next.0, next.1, ap length next.2 ∙ length-append (tree_names k.front) (found.0.0 ∷ []))

  pub pair_refused : (f : BsonFault) → rest_of (element_by (value_at more) (stands_in (tree_names (pairs_spelled earlier))) faults.Repeated type bytes) ≡ Err f
      → outcome_of (pairs_in (value_at more) content) ≡ Err f
  pair_refused f e =
      pair_stops more content rest type bytes k front f
      (rest_err (element_by (value_at more) (stands_in (tree_names k.front)) faults.Repeated type bytes) f (ap rest_of (sym same_read) ∙ e))

  pub pair_counted : (count : ℕ) (after : List ℕ) → count ≡ length (tree_names k.front) → count + length rest ≤ length content
      → rest_of (element_by (value_at more) (stands_in (tree_names (pairs_spelled earlier))) faults.Repeated type bytes) ≡ Ok after
      → CountedPairs more content after (count + 1)
  pair_counted count after counted within e =
      let next = pair_checked after e in
      record { checked = next.0; counted = omega (arith, counted, next.2); within = omega (arith, within, next.1) }

-- so many elements were checked, and the marks of their names are set
pub record MarkedPairs (more : ℕ) (content rest : List ℕ) (count : ℕ) (marks : List Bool) : Type 0 where
  pub pairs : CountedPairs more content rest count
  pub marked : AreMarked (tree_names pairs.checked.front) marks
  pub places : length marks ≡ 256

pub pairs_unmarked : (more : ℕ) (content : List ℕ) (marks : List Bool) → IsBytes content → length marks ≡ 256 → MarkedPairs more content content 0 marks
unfolding pairs_uncounted
pairs_unmarked more content marks fits places = record { pairs = pairs_uncounted more content fits; marked = none_marked marks; places = places }

module _ (more : ℕ) (content rest earlier : List ℕ) (count : ℕ) (marks : List Bool) (type : ℕ) (bytes : List ℕ) (k : MarkedPairs more content rest count marks)
    (front : rest ≡ type ∷ bytes) (before : Elements earlier k.pairs.checked.front) where
  pub marks_spelled : AreMarked (tree_names (pairs_spelled earlier)) marks
  marks_spelled = subst (λ (ps : Pairs). AreMarked (tree_names ps) marks) (sym (pairs_spelled-is earlier k.pairs.checked.front before)) k.marked

  pub pair_marked : (name after : List ℕ) (mark : ℕ) → mark ≡ name_mark name
      → name_and_rest (element_by (value_at more) (stands_in (tree_names (pairs_spelled earlier))) faults.Repeated type bytes) ≡ Ok (name, after)
      → MarkedPairs more content after (count + 1) (set marks mark true) × (length after < length rest)
  pair_marked name after mark is e =
      let found = named_ok (element_by (value_at more) (stands_in (tree_names k.pairs.checked.front)) faults.Repeated type bytes) name after
      (ap name_and_rest (sym (same_read more content rest earlier type bytes k.pairs.checked front before)) ∙ e) in
      let next = pair_taken more content rest type bytes k.pairs.checked front name found.0 after found.1 in
      let size = ap length next.2 ∙ length-append (tree_names k.pairs.checked.front) (name ∷ []) in
      let lt : mark < length marks = omega (arith, is, mark_within (mixed 0 name), k.places) in (
        record {
          pairs = record { checked = next.0; counted = omega (arith, k.pairs.counted, size); within = omega (arith, k.pairs.within, next.1) };
          places = length-set marks mark true ∙ k.places;
          marked = subst (λ (ns : List (List ℕ)). AreMarked ns (set marks mark true)) (sym next.2)
              (marked_more (tree_names k.pairs.checked.front) marks name mark is lt k.marked);
        },
        next.1,
      )

  pub pair_unmarked : (f : BsonFault)
      → name_and_rest (element_by (value_at more) (stands_in (tree_names (pairs_spelled earlier))) faults.Repeated type bytes) ≡ Err f
      → outcome_of (pairs_in (value_at more) content) ≡ Err f
  pair_unmarked f e =
      let read = element_by (value_at more) (stands_in (tree_names k.pairs.checked.front)) faults.Repeated type bytes in
      pair_stops more content rest type bytes k.pairs.checked front f
      (named_err read f (ap name_and_rest (sym (same_read more content rest earlier type bytes k.pairs.checked front before)) ∙ e))

pub pairs_passed : (more : ℕ) (content rest : List ℕ) → CheckedPairs more content rest → length rest ≡ 0 → outcome_of (pairs_in (value_at more) content) ≡ Ok tt
pairs_passed more content rest k none =
    ap outcome_of
    (pairs_done more k.front (tree_names k.front) (pairs_in (value_at more) content)
    (subst (λ (r : List ℕ). PairsSoFar more k.front (tree_names k.front) r (pairs_in (value_at more) content)) (nil_from_length rest none) k.so_far))

-- ---- arrays

pub record CheckedItems (more : ℕ) (content rest : List ℕ) (i : ℕ) : Type 0 where
  pub front : Items
  pub so_far : ItemsSoFar more front i rest (items_in (value_at more) content)
  pub counted : i + length rest ≤ length content

pub items_unchecked : (more : ℕ) (content : List ℕ) → IsBytes content → CheckedItems more content content 0
items_unchecked more content fits = record { front = no_items; so_far = items_start more content fits; counted = omega arith }

module _ (more : ℕ) (content rest : List ℕ) (i type : ℕ) (bytes : List ℕ) (k : CheckedItems more content rest i) (front : rest ≡ type ∷ bytes) where
  items_front : ItemsSoFar more k.front i (type ∷ bytes) (items_in (value_at more) content)
  items_front = subst (λ (r : List ℕ). ItemsSoFar more k.front i r (items_in (value_at more) content)) front k.so_far

  pub item_checked : (after : List ℕ) → rest_of (item_by (value_at more) i type bytes) ≡ Ok after
      → CheckedItems more content after (i + 1) × (length after < length rest)
  item_checked after e =
      let found = rest_ok (item_by (value_at more) i type bytes) after e in
      let lt = item_shorter more i type bytes found.0 after (IsBytes-rest type bytes items_front.fits) found.1 in
      let size = ap length front in (
        record {
          front = append_items k.front (item found.0 no_items);
          so_far = items_step more k.front i type bytes (items_in (value_at more) content) found.0 after items_front found.1;
          counted = omega (arith, k.counted, lt, size);
        },
        omega (arith, lt, size),
      )

  pub item_refused : (f : BsonFault) → rest_of (item_by (value_at more) i type bytes) ≡ Err f → outcome_of (items_in (value_at more) content) ≡ Err f
  item_refused f e =
      ap outcome_of
      (items_stop f more k.front i type bytes (items_in (value_at more) content) items_front (rest_err (item_by (value_at more) i type bytes) f e))

pub items_passed : (more : ℕ) (content rest : List ℕ) (i : ℕ) → CheckedItems more content rest i → length rest ≡ 0
    → outcome_of (items_in (value_at more) content) ≡ Ok tt
items_passed more content rest i k none =
    ap outcome_of
    (items_done more k.front i (items_in (value_at more) content)
    (subst (λ (r : List ℕ). ItemsSoFar more k.front i r (items_in (value_at more) content)) (nil_from_length rest none) k.so_far))
