-- Text that is put at the end piece by piece.
use Rattle.std.proofs.Common.{◌≡◌, ◌==◌, ℕ, zero, suc, ◌+◌, ◌<◌, ◌≤◌, List, [], ◌∷◌, ◌++◌, length, map, take, drop, set, get_or}
use Rattle.std.proofs.Common.{false, Some, None, position, refl, Result, Ok, Err, sym, ◌∙◌, ap, subst}
use Rattle.std.proofs.Common.{arith}
use Rattle.std.proofs.lemmas.Grind.{common_steps}
use Rattle.std.proofs.lemmas.List.{length-append}
use Rattle.std.proofs.lemmas.List.Quantifiers.{position-Some}
use Rattle.bson.specs.View.{tree, pairs_of, items_of}
use Rattle.bson.specs.declared.value.Value.{Value}
use Rattle.bson.specs.declared.value.Pair.{Pair}
use Rattle.value_order.specs.Order.{class}
use Rattle.value_order.specs.KeyText.{escaped_text, tree_text, pairs_text, items_text}
use Rattle.value_order.specs.Writing.{IsPut}
use Rattle.value_order.specs.declared.texts.KeyFault.{KeyFault}
use Rattle.value_order.specs.declared.texts.KeyFault.TheVariants as faults

-- a piece that passes the limit is part of a text that does
pub piece_refused : (limit : ℕ) (piece whole old mid new last : List ℕ) (e : KeyFault) → length mid + length piece ≤ length old + length whole
    → IsPut limit piece mid new (Err e) → IsPut limit whole old last (Err e)
piece_refused limit piece whole old mid new last faults.TooLong within h = (omega (arith, h.0), h.1)
piece_refused limit piece whole old mid new last faults.Memory within h = tt

-- the last piece
pub last_put : (limit : ℕ) (piece whole old mid new : List ℕ) (r : Result (Unit {0}) KeyFault) → mid ++ piece ≡ old ++ whole → IsPut limit piece mid new r
    → IsPut limit whole old new r
last_put limit piece whole old mid new (Ok _) same h = (h.0 ∙ same, h.1)
last_put limit piece whole old mid new (Err e) same h =
    piece_refused limit piece whole old mid new new e (omega (arith, sym (length-append mid piece) ∙ ap length same ∙ length-append old whole)) h

-- what is left is as long as what is missing
pub left_over : (mid rest old whole : List ℕ) → mid ++ rest ≡ old ++ whole → length mid + length rest ≡ length old + length whole
left_over mid rest old whole same = sym (length-append mid rest) ∙ ap length same ∙ length-append old whole

-- up to the first zero byte a string is its own text
run_at : (bytes : List ℕ) (i : ℕ) → i < length bytes → get_or bytes i 0 ≡ 0 → ((k : ℕ) → k < i → (get_or bytes k 0 == 0) ≡ false)
    → escaped_text bytes ≡ (take i bytes ++ 0 ∷ 255 ∷ []) ++ escaped_text (drop (i + 1) bytes)
run_at [] i lt is others = absurd (omega arith)
run_at (zero ∷ bytes) zero lt is others = refl
run_at (suc b ∷ bytes) zero lt is others = absurd (omega (arith, is))
run_at (zero ∷ bytes) (suc i) lt is others = absurd (let h = others 0 (omega arith) in cc)
run_at (suc b ∷ bytes) (suc i) lt is others =
    let more : suc i + 1 ≡ suc (i + 1) = omega arith in
    ap (λ l. suc b ∷ l) (run_at bytes i (omega arith) is (λ k lt. others (suc k) (omega arith)))
    ∙ ap (λ n. (take (suc i) (suc b ∷ bytes) ++ 0 ∷ 255 ∷ []) ++ escaped_text (drop n (suc b ∷ bytes))) (sym more)

pub first_run : (bytes : List ℕ) (i : ℕ) → position (λ b. b == 0) bytes ≡ Some i
    → escaped_text bytes ≡ (take i bytes ++ 0 ∷ 255 ∷ []) ++ escaped_text (drop (i + 1) bytes)
first_run bytes i found =
    let at = position-Some (λ b. b == 0) bytes i 0 found in
    run_at bytes i at.0 (grind (arith, at.1)) at.2

pub last_run : (bytes : List ℕ) → position (λ b. b == 0) bytes ≡ None → escaped_text bytes ≡ bytes ++ 0 ∷ 0 ∷ []
last_run [] none = refl
last_run (zero ∷ bytes) none = absurd (grind (arith, common_steps))
last_run (suc b ∷ bytes) none = ap (λ l. suc b ∷ l) (last_run bytes (grind (arith, common_steps)))

pub item_part : (vs : List Value) (i : ℕ) (v : Value) → i < length vs → v ≡ get_or vs i v
    → length (tree_text (tree v)) ≤ length (items_text (items_of (drop i vs)))
item_part [] i v lt is = absurd (omega arith)
item_part (w ∷ ws) zero v lt is =
    omega (arith, ap (λ (x : Value). length (tree_text (tree x))) is, length-append (tree_text (tree w)) (items_text (items_of ws)))
item_part (w ∷ ws) (suc i) v lt is = item_part ws i v (omega arith) is

pub pair_part : (ps : List Pair) (i : ℕ) (p : Pair) → i < length ps → p ≡ get_or ps i p
    → length (class (tree p.value) ∷ (p.name ++ 0 ∷ [])) + length (tree_text (tree p.value)) ≤ length (pairs_text (pairs_of (drop i ps)))
pair_part [] i p lt is = absurd (omega arith)
pair_part (q ∷ qs) zero p lt is =
    subst (λ (x : Pair). length (class (tree x.value) ∷ (x.name ++ 0 ∷ [])) + length (tree_text (tree x.value)) ≤ length (pairs_text (pairs_of (q ∷ qs))))
    (sym is)
    (omega (
      arith,
      length-append q.name (0 ∷ []),
      length-append q.name (0 ∷ tree_text (tree q.value) ++ pairs_text (pairs_of qs)),
      length-append (tree_text (tree q.value)) (pairs_text (pairs_of qs)),
    ))
pair_part (q ∷ qs) (suc i) p lt is = pair_part qs i p (omega arith) is

-- a list of which the front is mapped and the rest is as it was
pub one_mapped : (f : ℕ → ℕ) (now first : List ℕ) (i : ℕ) → i < length now → take i now ≡ map f (take i first) → drop i now ≡ drop i first
    → (take (suc i) (set now i (f (get_or now i 0))) ≡ map f (take (suc i) first)) × (drop (suc i) (set now i (f (get_or now i 0))) ≡ drop (suc i) first)
one_mapped f [] first i lt front rest = absurd (omega arith)
one_mapped f (x ∷ now) [] zero lt front rest = absurd cc
one_mapped f (x ∷ now) (y ∷ first) zero lt front rest = let same : x ≡ y = cc in let others : now ≡ first = cc in (ap (λ (z : ℕ). f z ∷ []) same, others)
one_mapped f (x ∷ now) [] (suc i) lt front rest = absurd cc
one_mapped f (x ∷ now) (y ∷ first) (suc i) lt front rest =
    let head : x ≡ f y = cc in
    let others : take i now ≡ map f (take i first) = cc in
    let more = one_mapped f now first i (omega arith) others rest in
    ((λ k. head k ∷ more.0 k), more.1)
