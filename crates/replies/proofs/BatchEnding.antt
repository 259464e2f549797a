-- The reply of an open batch, as its end is put behind it piece by piece.
use Rattle.std.proofs.Common.{◌≡◌, ℕ, ◌+◌, ◌<◌, ◌≤◌, List, [], ◌++◌, length, take, drop, refl, sym, ap, subst, ◌∙◌, length-append, arith}
use Rattle.std.specs.Prelude.{◌^◌, codes, IsUtf8}
use Rattle.std.proofs.lemmas.List.{take_all}
use Rattle.bson.specs.Tree.{Pairs}
use Rattle.bson.specs.Spelling.{Spells, element, tree_bytes, pairs_bytes, items_bytes, frame_of}
use Rattle.database_model.specs.Cursors.{items_of_documents}
use Rattle.database_model.specs.Refusals.{int, long, words}
use Rattle.replies.specs.OpenBatch.{HasGiven, before_array, before_cursor, zeros}
use Rattle.replies.specs.OpenBatchLaws.{counts_all}
use Rattle.replies.specs.View.{batch_name, IsSendable}
use Rattle.replies.specs.declared.open_batch.OpenBatch.{OpenBatch}
use Rattle.replies.proofs.CursorSpelling.{framed, batch_short, content, reply, cursor_bytes, reply_bytes, reply_document, reply_sendable, reply_short}
use Rattle.replies.proofs.CursorSpelling.{reply_spelled}
use Rattle.replies.proofs.CursorSpelling.{are_batch_names, cursor_short}

module _ (b : OpenBatch) (ds : List Pairs) (h : HasGiven b ds) where
  items_short : length (items_bytes 0 (items_of_documents ds)) ≤ 899995
  items_short =
      let all : take (length ds) ds ≡ ds = take_all (length ds) ds (omega arith) in
      let short = batch_short ds b.most (length ds) h.within (sym (counts_all b ds h)) in
      subst (λ (es : List Pairs). length (items_bytes 0 (items_of_documents es)) ≤ 899995) all short

  items_put : length b.out.items ≡ b.array_start + 4 + length (items_bytes 0 (items_of_documents ds))
  items_put =
      omega (
        arith,
        ap length h.bytes,
        length-append (before_array (batch_name b.kind) ++ zeros) (items_bytes 0 (items_of_documents ds)),
        length-append (before_array (batch_name b.kind)) zeros,
        h.array_at,
      )

  pub array_room : b.array_start + 4 ≤ length b.out.items
  array_room = omega (arith, items_put)

  pub array_short : length b.out.items < b.array_start + 1048576
  array_short = omega (arith, items_put, items_short)

-- What is known of the bytes after each piece: the array, the number, the namespace, the cursor, the last field, all.
module _ (b : OpenBatch) (ds : List Pairs) (h : HasGiven b ds) (number : ℕ) (ns o1 o2 o3 : List ℕ)
    (e1 : o1 ≡ take b.array_start b.out.items ++ frame_of (drop (b.array_start + 4) b.out.items))
    (e2 : o2 ≡ o1 ++ element 18 (codes "id") (tree_bytes (long number))) (e3 : o3 ≡ o2 ++ element 2 (codes "ns") (tree_bytes (words ns))) where
  cursor_put : o3 ≡ (before_cursor ++ zeros) ++ content (batch_name b.kind) ds number ns
  cursor_put =
      let name = batch_name b.kind in
      let items = items_bytes 0 (items_of_documents ds) in
      let array : o1 ≡ before_array name ++ frame_of items = e1 ∙ framed (before_array name) items b.out.items b.array_start h.array_at h.bytes in
      cursor_bytes name ds number ns before_cursor (before_cursor ++ zeros) (before_array name) o1 o2 o3 refl refl array e2 e3

  pub cursor_room : b.cursor_start + 4 ≤ length o3
  cursor_room =
      omega (
        arith,
        ap length cursor_put,
        length-append (before_cursor ++ zeros) (content (batch_name b.kind) ds number ns),
        length-append before_cursor zeros,
        h.cursor_at,
      )

  module _ (short : length ns ≤ 255) where
    pub is_sendable : IsSendable (reply (batch_name b.kind) ds number ns)
    is_sendable = reply_sendable (batch_name b.kind) ds number ns (are_batch_names b.kind) (items_short b ds h) short

    pub cursor_fits : length o3 < b.cursor_start + 1048576
    cursor_fits = cursor_short (batch_name b.kind) ds number ns is_sendable before_cursor o3 b.cursor_start h.cursor_at cursor_put

    module _ (o4 o5 : List ℕ) (e4 : o4 ≡ take b.cursor_start o3 ++ frame_of (drop (b.cursor_start + 4) o3))
        (e5 : o5 ≡ o4 ++ element 16 (codes "ok") (tree_bytes (int 1))) where
      reply_put : o5 ≡ ([] ++ zeros) ++ pairs_bytes (reply (batch_name b.kind) ds number ns)
      reply_put =
          let name = batch_name b.kind in
          let cursor : o4 ≡ before_cursor ++ frame_of (content name ds number ns) =
          e4 ∙ framed before_cursor (content name ds number ns) o3 b.cursor_start h.cursor_at cursor_put in
          reply_bytes name ds number ns [] zeros before_cursor o4 o5 refl refl cursor e5

      pub reply_room : 0 + 4 ≤ length o5
      reply_room =
          omega (
            arith,
            ap length reply_put,
            length-append zeros (pairs_bytes (reply (batch_name b.kind) ds number ns)),
          )

      pub reply_fits : length o5 < 0 + 1048576
      reply_fits = reply_short (batch_name b.kind) ds number ns is_sendable o5 reply_put

      pub spells_reply : number < 2 ^ 63 → IsUtf8 ns → (o6 : List ℕ) → o6 ≡ take 0 o5 ++ frame_of (drop (0 + 4) o5)
          → Spells o6 (reply (batch_name b.kind) ds number ns)
      spells_reply small utf8 o6 e6 =
          let name = batch_name b.kind in
          let bytes = e6 ∙ framed [] (pairs_bytes (reply name ds number ns)) o5 0 refl reply_put in
          let lawful = reply_document name ds number ns (are_batch_names b.kind) small h.within h.readable utf8 in
          reply_spelled name ds number ns is_sendable lawful o6 bytes
