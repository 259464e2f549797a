-- How many bytes a value's spelling has, and how many a reply's.
use Rattle.std.proofs.Common.{◌≡◌, ℕ, ℤ, zero, suc, max, ◌+◌, ◌-◌, ◌*◌, ◌<◌, ◌≤◌, Bool, true, false, List, [], ◌∷◌, ◌++◌, length, take, refl, arith, lit≤}
use Rattle.std.proofs.Common.{length-append, ap}
use Rattle.std.specs.Prelude.{◌||◌, ◌&&◌, not, ◌==◌, nat_le, if◌then◌else◌, codes, All}
use Rattle.std.specs.Fmt.{decimal}
use Rattle.std.proofs.lemmas.Bool.Decides.{nat_tests}
use Rattle.std.proofs.lemmas.Fmt.{length-decimal-le, length-decimal-le_succ}
use Rattle.std.specs.Int.{w64, to_le_bytes, cast_unsigned}
use Rattle.std.specs.List.{list_any}
use Rattle.std.specs.Ordering.{int_eq}
use Rattle.bson.specs.Tree.{scalar, int64, document, array, Pairs, no_pairs, pair, Items, item}
use Rattle.bson.specs.SizingLaws.{frame_of-length, pairs_bytes-none, pairs_size-pair, items_bytes-none}
use Rattle.bson.specs.Spelling.{tree_bytes, pairs_bytes, items_bytes, frame_of}
use Rattle.database_model.specs.Refusals.{int, long, words, refusal_reply, ok_reply}
use Rattle.database_model.specs.Cursors.{item_size, batch_len, items_of_documents, cursor_reply}
use Rattle.database_model.specs.KillCursors.{ToldApart, with_id, told_apart, id_items, kill_reply}
use Rattle.database_model.specs.CreateIndexes.{create_indexes_reply}
use Rattle.database_model.specs.DropIndexes.{drop_indexes_reply}
use Rattle.database_model.specs.DropCollection.{drop_reply}
use Rattle.database_model.specs.Explain.{explain_reply}
use Rattle.database_model.specs.Hello.{hello_reply}
use Rattle.database_model.specs.Lawful.{IsWithin}
use Rattle.replies.specs.View.{IsSendable}
use Rattle.path.specs.declared.refusal.Refusal.{Refusal}
use Rattle.path.specs.declared.refusal.Refusal.TheVariants as refusals

length-document : (ps : Pairs) → length (tree_bytes (document ps)) ≡ length (pairs_bytes ps) + 5
unfolding tree_bytes
length-document ps = frame_of-length (pairs_bytes ps)

length-array : (ts : Items) → length (tree_bytes (array ts)) ≡ length (items_bytes 0 ts) + 5
unfolding tree_bytes
length-array ts = frame_of-length (items_bytes 0 ts)

pub length-words : (s : List ℕ) → length (tree_bytes (words s)) ≡ length s + 5
unfolding tree_bytes
length-words s = omega (arith, length-append s (0 ∷ []))

length-int : (n : ℕ) → length (tree_bytes (int n)) ≡ 4
unfolding tree_bytes
length-int n = refl

length-long : (n : ℕ) → length (tree_bytes (long n)) ≡ 8
unfolding tree_bytes
length-long n = refl

-- ---- replies without documents

pub ping-sendable : IsSendable (ok_reply no_pairs)
unfolding tree_bytes pairs_bytes
ping-sendable = lit≤ tt

pub hello-sendable : (n : ℕ) → IsSendable (ok_reply (hello_reply n))
unfolding tree_bytes pairs_bytes
hello-sendable n = lit≤ tt

pub insert-sendable : (n : ℕ) → IsSendable (ok_reply (pair (codes "n") (int n) no_pairs))
unfolding tree_bytes pairs_bytes
insert-sendable n = lit≤ tt

pub create_indexes-sendable : (before after : ℕ) (is_new : Bool) → IsSendable (ok_reply (create_indexes_reply before after is_new))
unfolding tree_bytes pairs_bytes
create_indexes-sendable before after is_new = lit≤ tt

pub drop_indexes-sendable : (count : ℕ) → IsSendable (ok_reply (drop_indexes_reply count))
unfolding tree_bytes pairs_bytes
drop_indexes-sendable count = lit≤ tt

pub drop-sendable : (count : ℕ) (name : List ℕ) → length name ≤ 255 → IsSendable (ok_reply (drop_reply count name))
drop-sendable count name short =
    let ok = pair (codes "ok") (int 1) no_pairs in
    let ns = pair (codes "ns") (words name) ok in
    let reply = pair (codes "nIndexesWas") (int count) ns in
    omega (
      arith,
      short,
      frame_of-length (pairs_bytes reply),
      pairs_size-pair (codes "nIndexesWas") (int count) ns,
      length-int count,
      pairs_size-pair (codes "ns") (words name) ok,
      length-words name,
      pairs_size-pair (codes "ok") (int 1) no_pairs,
      length-int 1,
      ap length pairs_bytes-none,
    )

pub explain-sendable : (plan : List ℕ) → length plan ≤ 200 → IsSendable (ok_reply (explain_reply plan))
explain-sendable plan short =
    let ok = pair (codes "ok") (int 1) no_pairs in
    let reply = pair (codes "plan") (words plan) ok in
    omega (
      arith,
      short,
      frame_of-length (pairs_bytes reply),
      pairs_size-pair (codes "plan") (words plan) ok,
      length-words plan,
      pairs_size-pair (codes "ok") (int 1) no_pairs,
      length-int 1,
      ap length pairs_bytes-none,
    )

pub refusal-sendable : (r : Refusal) → IsSendable (refusal_reply r)
unfolding tree_bytes pairs_bytes
refusal-sendable refusals.BadValue = lit≤ tt
refusal-sendable other = lit≤ tt

-- ---- batches

length-item : (i : ℕ) (ps : Pairs) (ts : Items) → length (items_bytes i (item (document ps) ts)) ≡ item_size i ps + length (items_bytes (i + 1) ts)
unfolding tree_bytes items_bytes
length-item i ps ts = length-append (3 ∷ (decimal i ++ 0 ∷ frame_of (pairs_bytes ps))) (items_bytes (i + 1) ts)

abbrev taken : ℕ → List Pairs → ℕ → ℕ
taken i ds n = length (items_bytes i (items_of_documents (take n ds)))

later_items : (i most room : ℕ) (ds : List Pairs) → 0 < i → taken i ds (batch_len i most room ds) ≤ room
later_items i most room [] h = omega (arith, ap length (items_bytes-none i))
later_items i zero room (d ∷ ds) h = omega (arith, ap length (items_bytes-none i))
later_items i (suc most) room (d ∷ ds) h =
    at (i == 0) (nat_le (item_size i d) room) refl refl (later_items (i + 1) most (room - item_size i d) ds (omega arith))
  where
    at : (first fits : Bool) → (i == 0) ≡ first → nat_le (item_size i d) room ≡ fits
        → taken (i + 1) ds (batch_len (i + 1) most (room - item_size i d) ds) ≤ room - item_size i d
        → taken i (d ∷ ds) (if first || fits then suc (batch_len (i + 1) most (room - item_size i d) ds) else 0) ≤ room
    at true fits e f later = absurd (grind (arith, nat_tests))
    at false true e f later =
        let small : item_size i d ≤ room = grind (arith, nat_tests) in
        omega (arith, length-item i d (items_of_documents (take (batch_len (i + 1) most (room - item_size i d) ds) ds)))
    at false false e f later = omega (arith, ap length (items_bytes-none i))

-- a batch is within its room, unless its first document alone is not
pub batch_items : (most room : ℕ) (ds : List Pairs) → All IsWithin ds → taken 0 ds (batch_len 0 most room ds) ≤ max room (65535 + 3)
batch_items most room [] h = omega (arith, ap length (items_bytes-none 0))
batch_items zero room (d ∷ ds) h = omega (arith, ap length (items_bytes-none 0))
batch_items (suc most) room (d ∷ ds) h =
    let first : item_size 0 d ≤ 65535 + 3 =
    omega (arith, (h 0 d (omega arith)).size, length-append (decimal 0) (0 ∷ frame_of (pairs_bytes d)), length-decimal-le_succ 0 (omega arith)) in
    omega (
      arith,
      length-item 0 d (items_of_documents (take (batch_len 1 most (room - item_size 0 d) ds) ds)),
      later_items 1 most (room - item_size 0 d) ds (omega arith),
    )

-- ---- replies with documents

pub cursor-sendable : (name : List ℕ) (batch : List Pairs) (number : ℕ) (namespace : List ℕ) → length name ≤ 10
    → length (items_bytes 0 (items_of_documents batch)) ≤ max (900000 - 5) (65535 + 3) → length namespace ≤ 255
    → IsSendable (ok_reply (cursor_reply name batch number namespace))
cursor-sendable name batch number namespace brief small short =
    let ns = pair (codes "ns") (words namespace) no_pairs in
    let id = pair (codes "id") (long number) ns in
    let content = pair name (array (items_of_documents batch)) id in
    let ok = pair (codes "ok") (int 1) no_pairs in
    let reply = pair (codes "cursor") (document content) ok in
    omega (
      arith,
      frame_of-length (pairs_bytes reply),
      pairs_size-pair (codes "cursor") (document content) ok,
      length-document content,
      pairs_size-pair (codes "ok") (int 1) no_pairs,
      length-int 1,
      ap length pairs_bytes-none,
      pairs_size-pair name (array (items_of_documents batch)) id,
      length-array (items_of_documents batch),
      pairs_size-pair (codes "id") (long number) ns,
      length-long number,
      pairs_size-pair (codes "ns") (words namespace) no_pairs,
      length-words namespace,
    )

-- ---- replies with ids

length-id : (i : ℕ) (id : ℤ) (ts : Items) → length (items_bytes i (item (scalar (int64 id)) ts)) ≡ length (decimal i) + 10 + length (items_bytes (i + 1) ts)
unfolding tree_bytes items_bytes
length-id i id ts =
    let bytes = to_le_bytes w64 (cast_unsigned w64 id) in
    let eight : length bytes ≡ 8 = refl in
    omega (arith, length-append (18 ∷ (decimal i ++ 0 ∷ bytes)) (items_bytes (i + 1) ts), length-append (decimal i) (0 ∷ bytes), eight)

-- so many ids have at most so many bytes
ids_short : (i : ℕ) (ids : List ℤ) → i + length ids ≤ 1000 → length (items_bytes i (id_items ids)) ≤ 13 * length ids
ids_short i [] few = omega (arith, ap length (items_bytes-none i))
ids_short i (id ∷ ids) few =
    let digits : length (decimal i) ≤ 3 = length-decimal-le 3 i (omega arith) (omega (arith, few)) (omega (arith, few)) in
    omega (arith, length-id i id (id_items ids), digits, ids_short (i + 1) ids (omega (arith, few)))

pub kill-sendable : (ids : ToldApart) → length ids.killed ≤ 1000 → length ids.not_found ≤ 1000 → IsSendable (ok_reply (kill_reply ids))
kill-sendable ids few others =
    let ok = pair (codes "ok") (int 1) no_pairs in
    let missing = pair (codes "cursorsNotFound") (array (id_items ids.not_found)) ok in
    let reply = pair (codes "cursorsKilled") (array (id_items ids.killed)) missing in
    omega (
      arith,
      frame_of-length (pairs_bytes reply),
      pairs_size-pair (codes "cursorsKilled") (array (id_items ids.killed)) missing,
      length-array (id_items ids.killed),
      ids_short 0 ids.killed (omega (arith, few)),
      pairs_size-pair (codes "cursorsNotFound") (array (id_items ids.not_found)) ok,
      length-array (id_items ids.not_found),
      ids_short 0 ids.not_found (omega (arith, others)),
      pairs_size-pair (codes "ok") (int 1) no_pairs,
      length-int 1,
      ap length pairs_bytes-none,
    )

-- no more ids are told apart than there were
pub told_few : (is_open : ℤ → Bool) (so_far : ToldApart) (ids : List ℤ) (most : ℕ) → length so_far.killed + length so_far.not_found + length ids ≤ most
    → (length (told_apart is_open so_far ids).killed ≤ most) × (length (told_apart is_open so_far ids).not_found ≤ most)
told_few is_open so_far [] most few = (omega (arith, few), omega (arith, few))
told_few is_open so_far (id ∷ ids) most few =
    at (is_open id && not (list_any (int_eq id) so_far.killed))
    (λ h. told_few is_open (with_id true id so_far) ids most h) (λ h. told_few is_open (with_id false id so_far) ids most h)
  where
    at : (b : Bool)
        → (length (with_id true id so_far).killed + length (with_id true id so_far).not_found + length ids ≤ most
        → (length (told_apart is_open (with_id true id so_far) ids).killed ≤ most)
        × (length (told_apart is_open (with_id true id so_far) ids).not_found ≤ most))
        → (length (with_id false id so_far).killed + length (with_id false id so_far).not_found + length ids ≤ most
        → (length (told_apart is_open (with_id false id so_far) ids).killed ≤ most)
        × (length (told_apart is_open (with_id false id so_far) ids).not_found ≤ most))
        → (length (told_apart is_open (with_id b id so_far) ids).killed ≤ most) × (length (told_apart is_open (with_id b id so_far) ids).not_found ≤ most)
    at true of_killed of_others = of_killed (omega (arith, few, length-append so_far.killed (id ∷ [])))
    at false of_killed of_others = of_others (omega (arith, few, length-append so_far.not_found (id ∷ [])))
