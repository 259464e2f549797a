-- A reply that says what one of the statements made is no longer than the reply that says what all of them made.
use Rattle.std.proofs.Common.{◌≡◌, ◌≤◌, ℕ, suc, ◌+◌, Bool, false, length, length-append, Option, Some, None, refl, ap, ◌∙◌, arith}
use Rattle.std.specs.Prelude.{◌==◌, codes, if◌then◌else◌}
use Rattle.std.specs.Fmt.{decimal}
use Rattle.std.proofs.lemmas.Bool.Decides.{nat_tests}
use Rattle.bson.specs.EditPlaces.{append_items-none}
use Rattle.bson.specs.Edits.{items_len}
use Rattle.bson.specs.SizingLaws.{element-length, frame_of-length, items_bytes-append, items_bytes-item, items_bytes-none, pairs_bytes-none}
use Rattle.bson.specs.SizingLaws.{pairs_size-append, pairs_size-pair}
use Rattle.bson.specs.Spelling.{element, items_bytes, pairs_bytes, tree_bytes, type_byte}
use Rattle.bson.specs.Tree.{Tree, document, array, Pairs, no_pairs, pair, Items, no_items, item, append_items}
use Rattle.database_model.specs.Refusals.{int, total, ok_reply}
use Rattle.database_model.specs.Update.{counts_reply, spelled, upserted_entry, upserted_pairs}
use Rattle.bulk_writes.specs.UpdateLaws.{entry_of}

length-total : (n : ℕ) → length (tree_bytes (total n)) ≡ 4
unfolding tree_bytes
length-total n = refl

pub length-int : (n : ℕ) → length (tree_bytes (int n)) ≡ 4
unfolding tree_bytes
length-int n = refl

pub length-document : (ps : Pairs) → length (tree_bytes (document ps)) ≡ length (pairs_bytes ps) + 5
unfolding tree_bytes
length-document ps = frame_of-length (pairs_bytes ps)

length-array : (ts : Items) → length (tree_bytes (array ts)) ≡ length (items_bytes 0 ts) + 5
unfolding tree_bytes
length-array ts = frame_of-length (items_bytes 0 ts)

-- the bytes that say what was made
abbrev pub made_size : Items → ℕ
made_size ts = length (pairs_bytes (upserted_pairs ts))

-- the others are always as many
pub reply_size : (matched modified : ℕ) (ts : Items) → length (spelled (ok_reply (counts_reply matched modified ts))) ≡ made_size ts + 35
reply_size matched modified ts =
    let ok : Pairs = pair (codes "ok") (int 1) no_pairs in
    let rest : Pairs = pair (codes "nModified") (total modified) (upserted_pairs ts) in
    omega (
      arith,
      frame_of-length (pairs_bytes (ok_reply (counts_reply matched modified ts))),
      pairs_size-append (counts_reply matched modified ts) ok,
      pairs_size-pair (codes "ok") (int 1) no_pairs,
      ap length pairs_bytes-none,
      length-int 1,
      pairs_size-pair (codes "n") (total matched) rest,
      pairs_size-pair (codes "nModified") (total modified) (upserted_pairs ts),
      length-total matched,
      length-total modified,
    )

pub none_size : made_size no_items ≡ 0
none_size = ap length pairs_bytes-none

some_size : (ts : Items) → (items_len ts == 0) ≡ false → made_size ts ≡ length (items_bytes 0 ts) + 15
some_size ts some =
    ap (λ (b : Bool). length (pairs_bytes (if b then no_pairs else pair (codes "upserted") (array ts) no_pairs))) some
    ∙ omega (arith, pairs_size-pair (codes "upserted") (array ts) no_pairs, ap length pairs_bytes-none, length-array ts)

entry_length : (i j : ℕ) (id : Tree) → length (tree_bytes (document (upserted_entry i id))) ≡ length (tree_bytes (document (upserted_entry j id)))
entry_length i j id =
    let named : Pairs = pair (codes "_id") id no_pairs in
    omega (
      arith,
      length-document (upserted_entry i id),
      length-document (upserted_entry j id),
      pairs_size-pair (codes "index") (int i) named,
      pairs_size-pair (codes "index") (int j) named,
      length-int i,
      length-int j,
    )

pub one_size : (t : Tree) → made_size (item t no_items) ≡ length (decimal 0) + length (tree_bytes t) + 17
one_size t =
    let bytes : ℕ = length (items_bytes 0 (item t no_items)) in
    omega (
      arith,
      some_size (item t no_items) refl,
      ap length (items_bytes-item 0 t no_items),
      length-append (element (type_byte t) (decimal 0) (tree_bytes t)) (items_bytes (0 + 1) no_items),
      element-length (type_byte t) (decimal 0) (tree_bytes t),
      ap length (items_bytes-none (0 + 1)),
    )

one_at_least : (n : ℕ) → (suc n == 0) ≡ false
one_at_least n = grind (arith, nat_tests)

-- with one more they are more, and as many as that one takes by itself
record HasRoom (ts : Items) (t : Tree) : Type 0 where
  pub before : made_size ts ≤ made_size (append_items ts (item t no_items))
  pub itself : length (decimal 0) + length (tree_bytes t) + 17 ≤ made_size (append_items ts (item t no_items))

has_room : (ts : Items) (t : Tree) → HasRoom ts t
has_room no_items t = record { before = omega (arith, none_size); itself = omega (arith, one_size t) }
has_room (item u ts) t =
    let all : Items = item u ts in
    let more : length (items_bytes 0 (append_items all (item t no_items))) ≡ length (items_bytes 0 all)
    + length (element (type_byte t) (decimal (0 + items_len all)) (tree_bytes t)) =
    ap length (items_bytes-append 0 all t) ∙ length-append (items_bytes 0 all) (element (type_byte t) (decimal (0 + items_len all)) (tree_bytes t)) in
    let long = element-length (type_byte t) (decimal (0 + items_len all)) (tree_bytes t) in
    let first : length (items_bytes 0 all) ≡ length (element (type_byte u) (decimal 0) (tree_bytes u)) + length (items_bytes (0 + 1) ts) =
    ap length (items_bytes-item 0 u ts) ∙ length-append (element (type_byte u) (decimal 0) (tree_bytes u)) (items_bytes (0 + 1) ts) in
    let its = element-length (type_byte u) (decimal 0) (tree_bytes u) in
    let size = some_size all (one_at_least (items_len ts)) in
    let more_sized = some_size (append_items all (item t no_items)) (one_at_least (items_len (append_items ts (item t no_items)))) in
    record {
      before = omega (arith, size, more_sized, more);
      itself = omega (arith, more_sized, more, long, first, its);
    }

-- what one more statement made
pub more_size : (ts : Items) (i : ℕ) (made : Option Tree) → made_size ts ≤ made_size (append_items ts (entry_of i made))
more_size ts i None = omega (arith, ap made_size (append_items-none ts))
more_size ts i (Some id) = (has_room ts (document (upserted_entry i id))).before

-- takes no more by itself
pub alone_size : (ts : Items) (i : ℕ) (made : Option Tree) → made_size (entry_of 0 made) ≤ made_size (append_items ts (entry_of i made))
alone_size ts i None = omega (arith, none_size)
alone_size ts i (Some id) =
    omega (
      arith,
      one_size (document (upserted_entry 0 id)),
      (has_room ts (document (upserted_entry i id))).itself,
      entry_length i 0 id,
    )
