-- A batch that is spelled document by document.
use Rattle.std.proofs.Common.{◌≡◌, ℕ, zero, suc, ◌+◌, ◌-◌, ◌<◌, ◌≤◌, Bool, true, false, List, [], ◌∷◌, ◌++◌, length, take, drop, get_or, map, refl, sym}
use Rattle.std.proofs.Common.{ap, subst, ◌∙◌, append_assoc, arith, length-append}
use Rattle.std.specs.Prelude.{◌==◌, ◌||◌, ◌&&◌, not, if◌then◌else◌, nat_le, All, codes}
use Rattle.std.specs.Fmt.{decimal}
use Rattle.std.proofs.lemmas.Bool.Decides.{nat_tests}
use Rattle.std.proofs.lemmas.List.{append-nil, take-append-drop, drop-map, take_all}
use Rattle.std.proofs.lemmas.List.Elements.{All-append, All-head, All-drop}
use Rattle.bson.specs.Tree.{Pairs}
use Rattle.bson.specs.Lawful.{IsDocument}
use Rattle.bson.specs.Spelling.{element, tree_bytes, pairs_bytes, items_bytes, frame_of}
use Rattle.bson.specs.SizingLaws.{items_bytes-none}
use Rattle.projection.specs.Projection.{Projection, project}
use Rattle.database_model.specs.Cursors.{item_size, batch_len, batch_of, items_of_documents}
use Rattle.database_model.specs.Lawful.{IsWithin}
use Rattle.replies.specs.OpenBatch.{HasGiven, IsBegun, IsOffered, AreOffered, has_room, before_array, before_cursor, zeros}
use Rattle.replies.specs.OpenBatchLaws.{counts_all, counts_front}
use Rattle.replies.specs.View.{batch_name, projected}
use Rattle.replies.specs.declared.batch_spelling.BatchKind.{BatchKind}
use Rattle.replies.specs.declared.open_batch.OpenBatch.{OpenBatch}
use Rattle.replies.proofs.Steps.{drop_step}

-- what a projection leaves of the documents from an index on
pub projected_step : {X : Type 0} (lent : X → Pairs) (p : Projection) (ds : List X) (i : ℕ) (d : X) → i < length ds → d ≡ get_or ds i d
    → drop i (projected p (map lent ds)) ≡ project p (lent d) ∷ drop (i + 1) (projected p (map lent ds))
projected_step {X} lent p ds i d within is =
    drop-map (project p) i (map lent ds)
    ∙ ap (λ (xs : List Pairs). map (project p) xs)
    (drop-map lent i ds ∙ ap (λ (xs : List X). map lent xs) (drop_step ds i d within is)
    ∙ ap (λ (xs : List Pairs). lent d ∷ xs) (sym (drop-map lent (i + 1) ds)))
    ∙ ap (λ (xs : List Pairs). project p (lent d) ∷ xs) (sym (drop-map (project p) (i + 1) (map lent ds)))

take_suc : {X : Type 0} (xs : List X) (i : ℕ) (x : X) (rest : List X) → drop i xs ≡ x ∷ rest → take (suc i) xs ≡ take i xs ++ x ∷ []
take_suc [] zero x rest e = absurd cc
take_suc [] (suc i) x rest e = absurd cc
take_suc {X} (y ∷ ys) zero x rest e = let same : y ≡ x = cc in ap (λ (z : X). z ∷ []) same
take_suc {X} (y ∷ ys) (suc i) x rest e = ap (λ (zs : List X). y ∷ zs) (take_suc ys i x rest e)

take_next : {X : Type 0} (xs : List X) (i : ℕ) (x : X) (rest : List X) → drop i xs ≡ x ∷ rest → take (i + 1) xs ≡ take i xs ++ x ∷ []
take_next {X} xs i x rest e =
    let next : i + 1 ≡ suc i = omega arith in
    ap (λ (n : ℕ). take n xs) next ∙ take_suc xs i x rest e

take_len : {X : Type 0} (xs : List X) (i : ℕ) (x : X) (rest : List X) → drop i xs ≡ x ∷ rest → length (take i xs) ≡ i
take_len [] zero x rest e = refl
take_len [] (suc i) x rest e = absurd cc
take_len (y ∷ ys) zero x rest e = refl
take_len (y ∷ ys) (suc i) x rest e = omega (arith, take_len ys i x rest e)

items_more : (k : ℕ) (ds : List Pairs) (d : Pairs)
    → items_bytes k (items_of_documents (ds ++ d ∷ [])) ≡ items_bytes k (items_of_documents ds)
    ++ element 3 (decimal (k + length ds)) (frame_of (pairs_bytes d))
unfolding tree_bytes items_bytes
items_more k [] d =
    let at : k ≡ k + 0 = omega arith in
    append-nil (element 3 (decimal k) (frame_of (pairs_bytes d))) ∙ ap (λ (n : ℕ). element 3 (decimal n) (frame_of (pairs_bytes d))) at
items_more k (e ∷ ds) d =
    let at : (k + 1) + length ds ≡ k + suc (length ds) = omega arith in
    let first = element 3 (decimal k) (frame_of (pairs_bytes e)) in
    ap (λ (x : List ℕ). first ++ x) (items_more (k + 1) ds d)
    ∙ sym (append_assoc first (items_bytes (k + 1) (items_of_documents ds)) (element 3 (decimal ((k + 1) + length ds)) (frame_of (pairs_bytes d))))
    ∙ ap (λ (n : ℕ). (first ++ items_bytes (k + 1) (items_of_documents ds)) ++ element 3 (decimal n) (frame_of (pairs_bytes d))) at

-- ---- a batch that has none yet

pub begins : (b : OpenBatch) (kind : BatchKind) (most : ℕ) → b.kind ≡ kind → b.most ≡ most → b.count ≡ 0 → b.room ≡ 899995
    → b.out.items ≡ before_array (batch_name kind) ++ zeros → b.cursor_start ≡ length before_cursor → b.array_start ≡ length (before_array (batch_name kind))
    → IsBegun kind most b
begins b kind most is_kind is_most none full bytes cursor_at array_at = record {
  same_kind = is_kind;
  same_most = is_most;
  empty = record {
    counted = none;
    goes_on = λ more.
        let all : b.most ≡ b.most - b.count = omega (arith, none) in
        let room : 900000 - 5 ≡ b.room = omega (arith, full) in
        let counted : batch_of b.most more ≡ batch_len b.count (b.most - b.count) b.room more = λ k. batch_len (sym none k) (all k) (room k) more in
        omega (arith, counted, none);
    bytes =
        let items : before_array (batch_name kind) ++ zeros ≡ (before_array (batch_name kind) ++ zeros) ++ items_bytes 0 (items_of_documents []) =
        sym (ap (λ (x : List ℕ). (before_array (batch_name kind) ++ zeros) ++ x) (items_bytes-none 0) ∙ append-nil (before_array (batch_name kind) ++ zeros)) in
        bytes ∙ items
        ∙ ap (λ (n : BatchKind). (before_array (batch_name n) ++ zeros) ++ items_bytes 0 (items_of_documents [])) (sym is_kind);
    readable = λ k d below. absurd (omega (arith, below));
    within = λ k d below. absurd (omega (arith, below));
    cursor_at = cursor_at;
    array_at = array_at ∙ ap (λ (n : BatchKind). length (before_array (batch_name n))) (sym is_kind);
  };
}

-- ---- a document that is offered

one : {X : Type 0} (P : X → Type 0) (x : X) → P x → All P (x ∷ [])
one P x h zero y below = h
one P x h (suc k) y below = absurd (omega (arith, below))

module _ (old now : OpenBatch) (d : Pairs) (kind : now.kind ≡ old.kind) (most : now.most ≡ old.most) (cursor : now.cursor_start ≡ old.cursor_start)
    (array : now.array_start ≡ old.array_start) where
  pub stays : now.count ≡ old.count → now.room ≡ old.room → now.out.items ≡ old.out.items → has_room old d ≡ false → IsOffered old d false now
  stays count room out full = record {
    judged = sym full;
    same_kind = kind;
    same_most = most;
    refused = λ _.
        (λ k. not (nat_le (most k) (count k)) && (count k == 0 || nat_le (item_size (count k) d) (room k))) ∙ full;
    given = λ ds h. record {
      counted = count ∙ h.counted;
      goes_on = λ more.
          ap (λ (m : ℕ). batch_of m (ds ++ more)) most ∙ h.goes_on more
          ∙ (λ k. sym count k + batch_len (sym count k) (sym most k - sym count k) (sym room k) more);
      bytes = out ∙ h.bytes ∙ ap (λ (n : BatchKind). (before_array (batch_name n) ++ zeros) ++ items_bytes 0 (items_of_documents ds)) (sym kind);
      readable = h.readable;
      within = h.within;
      cursor_at = cursor ∙ h.cursor_at;
      array_at = array ∙ h.array_at ∙ ap (λ (n : BatchKind). length (before_array (batch_name n))) (sym kind);
    };
  }

  pub goes_in : now.count ≡ old.count + 1 → now.room ≡ old.room - item_size old.count d
      → now.out.items ≡ old.out.items ++ element 3 (decimal old.count) (frame_of (pairs_bytes d)) → IsDocument d → IsWithin d → old.count < old.most
      → (old.count == 0 || nat_le (item_size old.count d) old.room) ≡ true → IsOffered old d true now
  goes_in count room out readable within less fits = record {
    judged =
        let some : nat_le old.most old.count ≡ false = grind (arith, nat_tests, less) in
        sym (ap (λ (b : Bool). not b && (old.count == 0 || nat_le (item_size old.count d) old.room)) some ∙ fits);
    same_kind = kind;
    same_most = most;
    refused = λ e. absurd cc;
    given = λ ds h. record {
      counted = omega (arith, count, h.counted, length-append ds (d ∷ []));
      goes_on = λ more.
          let size = item_size old.count d in
          let left : old.most - old.count ≡ suc (old.most - (old.count + 1)) = omega (arith, less) in
          let next = batch_len (old.count + 1) (old.most - (old.count + 1)) (old.room - size) more in
          let counted : batch_of old.most (ds ++ (d ∷ more)) ≡ old.count + suc next =
          h.goes_on (d ∷ more) ∙ ap (λ (n : ℕ). old.count + batch_len old.count n old.room (d ∷ more)) left
          ∙ ap (λ (b : Bool). old.count + (if b then suc next else 0)) fits in
          let same : next ≡ batch_len now.count (now.most - now.count) now.room more =
          λ k. batch_len (sym count k) (sym most k - sym count k) (sym room k) more in
          let all : batch_of now.most ((ds ++ d ∷ []) ++ more) ≡ batch_of old.most (ds ++ (d ∷ more)) =
          λ k. batch_of (most k) (append_assoc ds (d ∷ []) more k) in
          omega (arith, all, counted, same, count);
      bytes =
          let at_end : old.count ≡ 0 + length ds = omega (arith, h.counted) in
          let before = before_array (batch_name old.kind) ++ zeros in
          let put : (before ++ items_bytes 0 (items_of_documents ds)) ++ element 3 (decimal old.count) (frame_of (pairs_bytes d))
          ≡ (before_array (batch_name old.kind) ++ zeros) ++ items_bytes 0 (items_of_documents (ds ++ d ∷ [])) =
          append_assoc (before_array (batch_name old.kind) ++ zeros) (items_bytes 0 (items_of_documents ds))
          (element 3 (decimal old.count) (frame_of (pairs_bytes d)))
          ∙ ap (λ (x : List ℕ). (before_array (batch_name old.kind) ++ zeros) ++ x)
          (ap (λ (n : ℕ). items_bytes 0 (items_of_documents ds) ++ element 3 (decimal n) (frame_of (pairs_bytes d))) at_end
          ∙ sym (items_more 0 ds d)) in
          out ∙ ap (λ (x : List ℕ). x ++ element 3 (decimal old.count) (frame_of (pairs_bytes d))) h.bytes ∙ put
          ∙ ap (λ (n : BatchKind). (before_array (batch_name n) ++ zeros) ++ items_bytes 0 (items_of_documents (ds ++ d ∷ []))) (sym kind);
      readable = All-append IsDocument ds (d ∷ []) h.readable (one IsDocument d readable);
      within = All-append IsWithin ds (d ∷ []) h.within (one IsWithin d within);
      cursor_at = cursor ∙ h.cursor_at;
      array_at = array ∙ h.array_at ∙ ap (λ (n : BatchKind). length (before_array (batch_name n))) (sym kind);
    };
  }

-- ---- all of them

-- what the loop keeps
pub record IsBatchSoFar (old : OpenBatch) (ds : List Pairs) (i : ℕ) (now : OpenBatch) : Type 0 where
  pub same_kind : now.kind ≡ old.kind
  pub same_most : now.most ≡ old.most
  pub given : HasGiven now (take i ds)

module _ (old before now : OpenBatch) (ds : List Pairs) (i : ℕ) (d : Pairs) (rest : List Pairs) (at : drop i ds ≡ d ∷ rest)
    (so_far : IsBatchSoFar old ds i before) where
  pub goes_further : IsOffered before d true now → IsBatchSoFar old ds (i + 1) now
  goes_further h = record {
    same_kind = h.same_kind ∙ so_far.same_kind;
    same_most = h.same_most ∙ so_far.same_most;
    given = subst (λ (es : List Pairs). HasGiven now es) (sym (take_next ds i d rest at)) (h.given (take i ds) so_far.given);
  }

  pub ends : IsOffered before d false now → AreOffered old ds i now
  ends h = record {
    counted =
        let split : ds ≡ take i ds ++ d ∷ rest = sym (take-append-drop i ds) ∙ ap (λ (es : List Pairs). take i ds ++ es) at in
        let counted : batch_of before.most ds ≡ length (take i ds) =
        ap (batch_of before.most) split ∙ counts_front before (take i ds) d rest so_far.given (sym h.judged) in
        omega (arith, counted, ap (λ (m : ℕ). batch_of m ds) so_far.same_most, take_len ds i d rest at);
    same_kind = h.same_kind ∙ so_far.same_kind;
    given = h.given (take i ds) so_far.given;
  }

pub offered_all : (old now : OpenBatch) (ds : List Pairs) (i n : ℕ) → IsBatchSoFar old ds i now → length ds ≤ i → n ≡ length ds → AreOffered old ds n now
offered_all old now ds i n so_far past all =
    let whole : take i ds ≡ ds = take_all i ds past in
    let given : HasGiven now ds = subst (HasGiven now) whole so_far.given in
    record {
      counted =
          let counted : batch_of now.most ds ≡ length ds = counts_all now ds given in
          omega (arith, counted, ap (λ (m : ℕ). batch_of m ds) so_far.same_most, all);
      same_kind = so_far.same_kind;
      given = subst (HasGiven now) (sym (take_all n ds (omega (arith, all)))) given;
    }

pub one_within : (gs : List Pairs) (i : ℕ) (g : Pairs) (rest : List Pairs) → drop i gs ≡ g ∷ rest → All IsWithin gs → IsWithin g
one_within gs i g rest at all = All-head IsWithin g rest (subst (λ (ds : List Pairs). All IsWithin ds) at (All-drop IsWithin i gs all))

-- what stands there before a document is put
pub begun_bytes : (name o0 o1 o2 o3 o4 o5 : List ℕ) → o0 ≡ [] → o1 ≡ o0 ++ zeros → o2 ≡ o1 ++ 3 ∷ (codes "cursor" ++ 0 ∷ []) → o3 ≡ o2 ++ zeros
    → o4 ≡ o3 ++ 4 ∷ (name ++ 0 ∷ []) → o5 ≡ o4 ++ zeros → (o2 ≡ before_cursor) × (o4 ≡ before_array name) × (o5 ≡ before_array name ++ zeros)
begun_bytes name o0 o1 o2 o3 o4 o5 e0 e1 e2 e3 e4 e5 =
    let cursor : o2 ≡ before_cursor =
    e2 ∙ ap (λ (x : List ℕ). x ++ 3 ∷ (codes "cursor" ++ 0 ∷ [])) (e1 ∙ ap (λ (x : List ℕ). x ++ zeros) e0) in
    let array : o4 ≡ before_array name = e4 ∙ ap (λ (x : List ℕ). x ++ 4 ∷ (name ++ 0 ∷ [])) (e3 ∙ ap (λ (x : List ℕ). x ++ zeros) cursor) in
    (cursor, array, e5 ∙ ap (λ (x : List ℕ). x ++ zeros) array)
