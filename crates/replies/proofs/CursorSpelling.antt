-- The reply with a batch, as its pieces are put one behind the other.
use Rattle.std.proofs.Common.{◌≡◌, ◌≢◌, ℕ, zero, suc, max, ◌+◌, ◌-◌, ◌<◌, ◌≤◌, Bool, true, false, List, [], ◌∷◌, ◌++◌, length, take, drop, map, refl, sym, ap}
use Rattle.std.proofs.Common.{◌∙◌, append_assoc, length-append, arith, lit≤, lit<}
use Rattle.std.specs.Prelude.{◌&&◌, ◌^◌, nat_lt, nat_le, if◌then◌else◌, codes, slice_index, All, IsUtf8}
use Rattle.std.proofs.lemmas.List.{append-nil, take_at, drop_at, length-map}
use Rattle.std.proofs.lemmas.List.Elements.{All-head, All-tail}
use Rattle.std.specs.List.{list_all}
use Rattle.std.proofs.lemmas.Bool.Decides.{nat_tests}
use Rattle.std.proofs.lemmas.Int.{ints}
use Rattle.std.proofs.lemmas.Str.{IsUtf8-from_ascii}
use Rattle.bson.specs.Tree.{Pairs, no_pairs, pair}
use Rattle.bson.specs.Lawful.{IsName, NoZero, IsPairs, IsItems, IsDocument}
use Rattle.bson.specs.Spelling.{Spells, element, tree_bytes, pairs_bytes, items_bytes, frame_of}
use Rattle.bson.specs.SizingLaws.{frame_of-length}
use Rattle.database_model.specs.Refusals.{int, long, words, ok_reply}
use Rattle.database_model.specs.Cursors.{batch_of, items_of_documents, cursor_pairs, cursor_reply, number_after}
use Rattle.replies.specs.declared.batch_spelling.BatchKind.{BatchKind}
use Rattle.replies.specs.declared.batch_spelling.BatchKind.TheVariants as batches
use Rattle.database_model.specs.Lawful.{IsWithin}
use Rattle.projection.specs.Projection.{Projection, project}
use Rattle.replies.specs.OpenBatch.{zeros}
use Rattle.replies.specs.View.{projected, batch_name, IsSendable}
use Rattle.replies.proofs.Replying.{items_levels-within}
use Rattle.replies.proofs.SpelledSizes.{batch_items, cursor-sendable}

-- what stands behind the room for a length becomes the content
pub framed : (old content now : List ℕ) (start : ℕ) → start ≡ length old → now ≡ (old ++ zeros) ++ content
    → take start now ++ frame_of (drop (start + 4) now) ≡ old ++ frame_of content
framed old content now start s e =
    let front : take start now ≡ old = ap (take start) (e ∙ append_assoc old zeros content) ∙ take_at old (zeros ++ content) start (sym s) in
    let back : drop (start + 4) now ≡ content =
    ap (drop (start + 4)) e ∙ drop_at (old ++ zeros) content (start + 4) (omega (arith, s, length-append old zeros)) in
    λ k. front k ++ frame_of (back k)

pub batch_short : (gs : List Pairs) (most n : ℕ) → All IsWithin gs → n ≡ batch_of most gs → length (items_bytes 0 (items_of_documents (take n gs))) ≤ 899995
batch_short gs most n h e =
    let small : length (items_bytes 0 (items_of_documents (take (batch_of most gs) gs))) ≤ max (900000 - 5) (65535 + 3) = batch_items most (900000 - 5) gs h in
    omega (arith, small, ap (λ (m : ℕ). length (items_bytes 0 (items_of_documents (take m gs)))) e)

are_ascii : (bs : List ℕ) → list_all (λ b. nat_lt b 128) bs ≡ true → (i : ℕ) → slice_index bs i < 128
are_ascii [] e i = omega arith
are_ascii (b ∷ bs) e i = at (nat_lt b 128) refl e (λ f j. are_ascii bs f j) i
  where
    at : (low : Bool) → nat_lt b 128 ≡ low → (low && list_all (λ b. nat_lt b 128) bs) ≡ true
        → (list_all (λ b. nat_lt b 128) bs ≡ true → (j : ℕ) → slice_index bs j < 128) → (i : ℕ) → slice_index (b ∷ bs) i < 128
    at false is all later i = absurd cc
    at true is all later zero = grind (arith, nat_tests)
    at true is all later (suc i) = later all i

-- what names of batches are
pub record IsBatchName (name : List ℕ) : Type 0 where
  pub is_name : IsName name
  pub no_id : name ≢ codes "id"
  pub no_namespace : name ≢ codes "ns"
  pub brief : length name ≤ 10

concrete : (bs : List ℕ) → list_all (λ b. nat_lt b 128) bs ≡ true → NoZero bs → IsName bs
concrete bs ascii no_zero = record { is_text = IsUtf8-from_ascii bs (are_ascii bs ascii); no_zero = no_zero }

none : (b c : ℕ) (bs cs : List ℕ) → b ≢ c → b ∷ bs ≢ c ∷ cs
none b c bs cs other e = other (ap (λ (xs : List ℕ). slice_index xs 0) e)

none_second : (a b c d : ℕ) (bs cs : List ℕ) → b ≢ d → a ∷ b ∷ bs ≢ c ∷ d ∷ cs
none_second a b c d bs cs other e = other (ap (λ (xs : List ℕ). slice_index xs 1) e)

pub are_batch_names : (kind : BatchKind) → IsBatchName (batch_name kind)
are_batch_names batches.First = record {
  is_name = concrete (codes "firstBatch") refl (grind arith);
  no_id = none 102 105 _ _ (λ e. omega (arith, e));
  no_namespace = none 102 110 _ _ (λ e. omega (arith, e));
  brief = lit≤ tt;
}
are_batch_names batches.Next = record {
  is_name = concrete (codes "nextBatch") refl (grind arith);
  no_id = none 110 105 _ _ (λ e. omega (arith, e));
  no_namespace = none_second 110 101 110 115 _ _ (λ e. omega (arith, e));
  brief = lit≤ tt;
}

module _ (name : List ℕ) (gs : List Pairs) (number : ℕ) (ns : List ℕ) where
  abbrev pub content : List ℕ
  content = pairs_bytes (cursor_pairs name gs number ns)

  abbrev pub reply : Pairs
  reply = ok_reply (cursor_reply name gs number ns)

  pub cursor_bytes : (o0 o1 o2 o3 o4 o5 : List ℕ) → o1 ≡ o0 ++ zeros → o2 ≡ o1 ++ 4 ∷ (name ++ 0 ∷ [])
      → o3 ≡ o2 ++ frame_of (items_bytes 0 (items_of_documents gs))
      → o4 ≡ o3 ++ element 18 (codes "id") (tree_bytes (long number)) → o5 ≡ o4 ++ element 2 (codes "ns") (tree_bytes (words ns))
      → o5 ≡ (o0 ++ zeros) ++ content
  unfolding tree_bytes pairs_bytes
  cursor_bytes o0 o1 o2 o3 o4 o5 e1 e2 e3 e4 e5 =
      let head = 4 ∷ (name ++ 0 ∷ []) in
      let batch = frame_of (items_bytes 0 (items_of_documents gs)) in
      let id = element 18 (codes "id") (tree_bytes (long number)) in
      let last = element 2 (codes "ns") (tree_bytes (words ns)) in
      let base = o0 ++ zeros in
      let all : o5 ≡ (((base ++ head) ++ batch) ++ id) ++ last =
      e5 ∙ ap (λ (x : List ℕ). x ++ last) (e4 ∙ ap (λ (x : List ℕ). x ++ id) (e3 ∙ ap (λ (x : List ℕ). x ++ batch) (e2 ∙ ap (λ (x : List ℕ). x ++ head) e1))) in
      let rest = id ++ (last ++ []) in
      let put : head ++ (batch ++ rest) ≡ element 4 name batch ++ rest =
      ap (λ (x : List ℕ). 4 ∷ x) (append_assoc name (0 ∷ []) (batch ++ rest) ∙ sym (append_assoc name (0 ∷ batch) rest)) in
      all ∙ append_assoc ((base ++ head) ++ batch) id last ∙ append_assoc (base ++ head) batch (id ++ last) ∙ append_assoc base head (batch ++ (id ++ last))
      ∙ ap (λ (x : List ℕ). base ++ x) (ap (λ (x : List ℕ). head ++ (batch ++ (id ++ x))) (sym (append-nil last)) ∙ put)

  pub reply_bytes : (o0 o1 o2 o3 o4 : List ℕ) → o1 ≡ o0 ++ zeros → o2 ≡ o1 ++ 3 ∷ (codes "cursor" ++ 0 ∷ []) → o3 ≡ o2 ++ frame_of content
      → o4 ≡ o3 ++ element 16 (codes "ok") (tree_bytes (int 1)) → o4 ≡ (o0 ++ zeros) ++ pairs_bytes reply
  unfolding tree_bytes pairs_bytes
  reply_bytes o0 o1 o2 o3 o4 e1 e2 e3 e4 =
      let head = 3 ∷ (codes "cursor" ++ 0 ∷ []) in
      let ok = element 16 (codes "ok") (tree_bytes (int 1)) in
      let base = o0 ++ zeros in
      let all : o4 ≡ ((base ++ head) ++ frame_of content) ++ ok =
      e4 ∙ ap (λ (x : List ℕ). x ++ ok) (e3 ∙ ap (λ (x : List ℕ). x ++ frame_of content) (e2 ∙ ap (λ (x : List ℕ). x ++ head) e1)) in
      all ∙ append_assoc (base ++ head) (frame_of content) ok ∙ append_assoc base head (frame_of content ++ ok)

  pub int_short : length (tree_bytes (int 1)) ≤ 1048576
  unfolding tree_bytes
  int_short = lit≤ tt

  pub long_short : length (tree_bytes (long number)) ≤ 1048576
  unfolding tree_bytes
  long_short = lit≤ tt

  -- ---- a document

  items_lawful : (ds : List Pairs) → All IsDocument ds → IsItems (items_of_documents ds)
  items_lawful [] h = tt
  items_lawful (d ∷ ds) h = ((All-head IsDocument d ds h).lawful, items_lawful ds (All-tail IsDocument d ds h))

  pub reply_document : IsBatchName name → number < 2 ^ 63 → All IsWithin gs → All IsDocument gs → IsUtf8 ns → IsDocument reply
  reply_document named small within readable utf8 = record {
    lawful = (cursor_name, cursor_lawful, (none 99 111 _ _ (λ e. omega (arith, e)), tt), (ok_name, omega (arith, ints), tt, tt));
    depth = omega (arith, items_levels-within gs within);
  }
    where
      cursor_name : IsName (codes "cursor")
      cursor_name = concrete (codes "cursor") refl (grind arith)

      ok_name : IsName (codes "ok")
      ok_name = concrete (codes "ok") refl (grind arith)

      id_name : IsName (codes "id")
      id_name = concrete (codes "id") refl (grind arith)

      ns_name : IsName (codes "ns")
      ns_name = concrete (codes "ns") refl (grind arith)

      cursor_lawful : IsPairs (cursor_pairs name gs number ns)
      cursor_lawful = (named.is_name, items_lawful gs readable, (named.no_id, (named.no_namespace, tt)), id_lawful)
        where
          ns_lawful : IsPairs (pair (codes "ns") (words ns) no_pairs)
          ns_lawful = (ns_name, utf8, tt, tt)

          id_lawful : IsPairs (pair (codes "id") (long number) (pair (codes "ns") (words ns) no_pairs))
          id_lawful = (id_name, omega (arith, ints, small), (none 105 110 _ _ (λ e. omega (arith, e)), tt), ns_lawful)

  -- ---- its length, and what spells it

  pub reply_sendable : IsBatchName name → length (items_bytes 0 (items_of_documents gs)) ≤ 899995 → length ns ≤ 255 → IsSendable reply
  reply_sendable named fits short = cursor-sendable name gs number ns named.brief (omega (arith, fits)) short

  pub reply_short : IsSendable reply → (o4 : List ℕ) → o4 ≡ ([] ++ zeros) ++ pairs_bytes reply → length o4 < 0 + 1048576
  reply_short sendable o4 e = omega (arith, ap length e, length-append zeros (pairs_bytes reply), frame_of-length (pairs_bytes reply), sendable)

  pub reply_spelled : IsSendable reply → IsDocument reply → (bytes : List ℕ) → bytes ≡ frame_of (pairs_bytes reply) → Spells bytes reply
  reply_spelled sendable lawful bytes e = record { lawful = lawful; spelled = e; size = omega (arith, ap length e, sendable) }

  -- the document of the cursor is a part of the reply
  pub cursor_short : IsSendable reply → (o0 o5 : List ℕ) (start : ℕ) → start ≡ length o0 → o5 ≡ (o0 ++ zeros) ++ content → length o5 < start + 1048576
  unfolding tree_bytes pairs_bytes
  cursor_short sendable o0 o5 start s e =
      let inner = element 3 (codes "cursor") (frame_of content) in
      let ok = element 16 (codes "ok") (tree_bytes (int 1)) ++ [] in
      let all : length (pairs_bytes reply) ≡ length inner + length ok = length-append inner ok in
      omega (
        arith,
        s,
        ap length e,
        length-append (o0 ++ zeros) content,
        length-append o0 zeros,
        frame_of-length (pairs_bytes reply),
        frame_of-length content,
        sendable,
        all,
      )

pub projected_len : {X : Type 0} (lent : X → Pairs) (p : Projection) (ds : List X) → length (projected p (map lent ds)) ≡ length ds
projected_len lent p ds = length-map (map lent ds) (project p) ∙ length-map ds lent

-- the number that a reply says, by the documents that are lent
pub said_number : {X : Type 0} (lent : X → Pairs) (p : Projection) (ds : List X) (n number : ℕ)
    → (if nat_le (length ds) n then 0 else number) ≡ number_after n (projected p (map lent ds)) number
said_number lent p ds n number = ap (λ (k : ℕ). if nat_le k n then 0 else number) (sym (projected_len lent p ds))

pub below : (b : Bool) (number : ℕ) → number < 2 ^ 63 → (if b then 0 else number) < 2 ^ 63
below true number h = lit< tt
below false number h = h
