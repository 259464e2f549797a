-- What is told of indexes, one after the other, and how deep it nests.
use Rattle.std.proofs.Common.{◌≡◌, ℕ, ◌+◌, ◌<◌, ◌≤◌, Bool, true, false, List, length, drop, slice_index_or, Some, ap, sym, ◌∙◌, codes, arith}
use Rattle.std.specs.Prelude.{pos, if◌then◌else◌}
use Rattle.std.proofs.lemmas.List.{drop_all}
use Rattle.bson.specs.EditPlaces.{append_items-one, append_items-none}
use Rattle.bson.specs.Edits.{put, cut}
use Rattle.bson.specs.EditsLaws.{pairs_levels-put, pairs_levels-cut}
use Rattle.bson.specs.Lawful.{levels, pairs_levels, items_levels, IsDocument}
use Rattle.bson.specs.Lookup.{lookup}
use Rattle.bson.specs.Tree.{Tree, scalar, document, array, Pairs, Items, no_items, item, append_items}
use Rattle.bson.specs.View.{tree, items_of}
use Rattle.bson.specs.declared.value.Value.{Value}
use Rattle.driver_replies.specs.Fields.{int}
use Rattle.driver_replies.specs.Indexes.{is_on_id, told_index, told_entry, told_indexes}
use Rattle.driver_replies.specs.LevelLaws.{found-levels, inner-levels}
use Rattle.driver_replies.proofs.ListingLemmas.{next}

-- ---- how deep it nests

index_levels : (ps : Pairs) → pairs_levels (told_index ps) ≤ pairs_levels ps
index_levels ps = at (is_on_id ps)
  where
    at : (b : Bool) → pairs_levels (put (if b then cut ps (codes "unique") else ps) (codes "v") (int (pos 2))) ≤ pairs_levels ps
    at true = omega (arith, pairs_levels-put (cut ps (codes "unique")) (codes "v") (int (pos 2)), pairs_levels-cut ps (codes "unique"))
    at false = omega (arith, pairs_levels-put ps (codes "v") (int (pos 2)))

entry_levels : (t : Tree) → levels (told_entry t) ≤ levels t
entry_levels (document ps) = omega (arith, index_levels ps)
entry_levels (scalar s) = omega arith
entry_levels (array ts) = omega arith

told_levels : (ts : Items) → items_levels (told_indexes ts) ≤ items_levels ts
told_levels no_items = omega arith
told_levels (item t ts) = omega (arith, entry_levels t, told_levels ts)

pub index_flat : (ps new : Pairs) → pairs_levels ps ≤ 97 → new ≡ told_index ps → pairs_levels new ≤ 97
index_flat ps new short is =
    let as_deep : pairs_levels new ≡ pairs_levels (told_index ps) = ap pairs_levels is in
    omega (arith, as_deep, index_levels ps, short)

-- a cursor with what is told has room in its reply
pub cursor_flat : (reply cursor new : Pairs) (entries told : Items) → IsDocument reply → lookup reply (codes "cursor") ≡ Some (document cursor)
    → lookup cursor (codes "firstBatch") ≡ Some (array entries) → told ≡ told_indexes entries
    → new ≡ put cursor (codes "firstBatch") (array told) → levels (document new) ≤ 99
cursor_flat reply cursor new entries told lawful found batch is grown =
    let as_deep : pairs_levels new ≡ pairs_levels (put cursor (codes "firstBatch") (array told)) = ap pairs_levels grown in
    let no_deeper : items_levels told ≡ items_levels (told_indexes entries) = ap items_levels is in
    omega (
      arith,
      as_deep,
      no_deeper,
      told_levels entries,
      pairs_levels-put cursor (codes "firstBatch") (array told),
      found-levels cursor (codes "firstBatch") (array entries) batch,
      inner-levels reply cursor (codes "cursor") lawful found,
    )

-- ---- one after the other

pub told_one : (made grown all : Items) (vs : List Value) (i : ℕ) (v : Value) → i < length vs
    → grown ≡ append_items made (item (told_entry (tree (slice_index_or vs i v))) no_items)
    → append_items made (told_indexes (items_of (drop i vs))) ≡ all → append_items grown (told_indexes (items_of (drop (i + 1) vs))) ≡ all
told_one made grown all vs i v h is left =
    let rest = told_indexes (items_of (drop (i + 1) vs)) in
    ap (λ (ts : Items). append_items ts rest) is
    ∙ append_items-one made (told_entry (tree (slice_index_or vs i v))) rest
    ∙ sym (ap (λ (ts : Items). append_items made (told_indexes ts)) (next vs i v h))
    ∙ left

pub told_all_of : (made all : Items) (vs : List Value) (i : ℕ) → length vs ≤ i → append_items made (told_indexes (items_of (drop i vs))) ≡ all → made ≡ all
told_all_of made all vs i h left =
    sym (append_items-none made)
    ∙ sym (ap (λ (ws : List Value). append_items made (told_indexes (items_of ws))) (drop_all i vs h))
    ∙ left

pub entry_flat : (vs : List Value) (i : ℕ) (v : Value) → i < length vs → items_levels (items_of (drop i vs)) ≤ 98
    → (levels (tree (slice_index_or vs i v)) ≤ 98) × (items_levels (items_of (drop (i + 1) vs)) ≤ 98)
entry_flat vs i v h flat =
    let e : items_levels (items_of (drop i vs)) ≡ items_levels (item (tree (slice_index_or vs i v)) (items_of (drop (i + 1) vs))) =
    ap items_levels (next vs i v h) in
    (omega (arith, e, flat), omega (arith, e, flat))
