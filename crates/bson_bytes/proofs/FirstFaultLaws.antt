-- Each fault that reading gives is wrong at a place, and all before that is spelled as it has to be.
use Rattle.std.proofs.Common.{◌≡◌, ◌≢◌, ◌⊎◌, ℕ, zero, suc, ◌+◌, ◌-◌, ◌<◌, ◌≤◌, Bool, true, false, not, eqb, List, [], ◌∷◌, ◌++◌, length, take, drop, Result, Ok}
use Rattle.std.proofs.Common.{Err, refl, sym, ap, subst, ◌∙◌, arith, inl, inr}
use Rattle.std.specs.Prelude.{◌==◌, IfErr, slice_index, nat_le, nat_lt}
use Rattle.std.specs.Int.{w32, to_le_bytes, from_le_bytes}
use Rattle.std.proofs.lemmas.Bool.{leb-true, leb-false, eqb-false}
use Rattle.std.proofs.lemmas.List.{length-drop, take-append-drop, get_or-drop}
use Rattle.bson_bytes.specs.declared.fault.BsonFault.{BsonFault}
use Rattle.bson_bytes.specs.declared.fault.BsonFault.TheVariants as faults
use Rattle.bson.specs.declared.kind.Kind.{Kind}
use Rattle.bson.specs.declared.kind.Kind.TheVariants as kinds
use Rattle.bson.specs.Tree.{Tree, scalar, document, array, Pairs, no_pairs, pair, Items, no_items, item}
use Rattle.bson.specs.Lawful.{IsBytes}
use Rattle.outcome.specs.Outcome.{◌>>=◌, unless, Gives}
use Rattle.bson.specs.Spelling.{HasNoDocument, frame_of}
use Rattle.bson.specs.SizingLaws.{pairs_bytes-none, items_bytes-none}
use Rattle.bson_bytes.specs.Decoding.{Read, is_below, fixed_at, leaf, scalar_at, count_at, ended_at, content_at, element_by, item_by}
use Rattle.bson.specs.Lookup.{stands_in}
use Rattle.bson_bytes.specs.Decoding.{pairs_by, items_by, value_at, pairs_in, items_in, length_at, document_at}
use Rattle.bson_bytes.specs.FirstFault.{WrongScalar, TooDeep, WrongPair, WrongItem, InFrame}
use Rattle.bson_bytes.specs.FirstFault.{WrongFrame, wrong_count, wrong_end, wrong_in, WrongValue, WrongDocument, wrong_length, wrong_last, wrong_inside}
use Rattle.bson_bytes.specs.FirstFault.{FirstFault}
use Rattle.bson_bytes.proofs.FrameLaws.{done, Takes, Takes-then, content_takes, ended_takes}
use Rattle.bson_bytes.proofs.PairLaws.{IsBytes-rest, element_takes}
use Rattle.bson_bytes.proofs.TreeLaws.{item_takes, value_reads, length_takes, document_again}
use Rattle.bson_bytes.proofs.ReadLoopLaws.{element_shorter, item_shorter}
use Rattle.bson_bytes.proofs.FaultLaws.{fault_no}
use Rattle.bson_bytes.proofs.ElementFaultLaws.{Somewhere, behind, bind_err, unless_err, ok_err, Element}
use Rattle.bson_bytes.proofs.ElementFaultLaws.{pairs_wrong, items_wrong}

-- ---- documents and arrays

count_err : (least : ℕ) (bytes : List ℕ) (e : BsonFault) → count_at least bytes ≡ Err e → e ≡ faults.Length
unfolding count_at fixed_at
count_err least bytes e failed =
    elim (bind_err {B = ℕ × List ℕ} (fixed_at 4 bytes)
    (λ four. unless (is_below least (from_le_bytes w32 four.0)) faults.Length (Ok (from_le_bytes w32 four.0, four.1))) e failed) [
      | inl short ↦ elim
          (unless_err (nat_lt (length bytes) 4) faults.Length e (done {A = List ℕ × List ℕ} (take 4 bytes, drop 4 bytes)) short)
          [ inl s ↦ s.1 | inr o ↦ absurd (ok_err {X = List ℕ × List ℕ} (take 4 bytes, drop 4 bytes) e o.1) ]
      | inr four ↦ elim
          (unless_err (is_below least (from_le_bytes w32 four.0.0)) faults.Length e (done {A = ℕ × List ℕ} (from_le_bytes w32 four.0.0, four.0.1)) four.2)
          [ inl s ↦ s.1 | inr o ↦ absurd (ok_err {X = ℕ × List ℕ} (from_le_bytes w32 four.0.0, four.0.1) e o.1) ]
    ]

lt-leb : (a b : ℕ) → b < a → nat_le a b ≡ false
lt-leb a b lt = grind arith

not_true : (b : Bool) → not b ≡ true → b ≡ false
not_true true e = absurd cc
not_true false e = refl

eqb-ne : (m n : ℕ) → eqb m n ≡ false → m ≢ n
eqb-ne m n e same = eqb-false m n e same

-- the bytes up to an end, and that a zero stands there
abbrev ended : ℕ → List ℕ → Read (List ℕ)
ended len bytes = unless (not (slice_index bytes len == 0)) faults.Length (Ok (take len bytes, drop (len + 1) bytes))

content_wrong : (inner : List ℕ → ℕ → ℕ → BsonFault → Type 0) (bytes : List ℕ) (e : BsonFault) → content_at bytes ≡ Err e → Somewhere (WrongFrame inner bytes) e
unfolding content_at ended_at
content_wrong inner bytes e failed =
    elim (bind_err (count_at 5 bytes) (λ n. ended_at faults.Length (n.0 - 5) n.1) e failed) [
      | inl bad ↦
          let is = count_err 5 bytes e bad in
          record {
            place = 0;
            seen = 4;
            stands = wrong_count (record { here = refl; upto = refl; fault_is = is; judged = inl (bad ∙ ap (λ (g : BsonFault). Err g) is) });
          }
      | inr n ↦ after_count n.0 n.1 (unless_err (nat_le (length n.0.1) (n.0.0 - 5)) faults.Length e (ended (n.0.0 - 5) n.0.1) n.2)
    ]
  where
    after_count : (n : ℕ × List ℕ) → count_at 5 bytes ≡ Ok n
        → ((nat_le (length n.1) (n.0 - 5) ≡ true) × (e ≡ faults.Length)) ⊎ ((nat_le (length n.1) (n.0 - 5) ≡ false) × (ended (n.0 - 5) n.1 ≡ Err e))
        → Somewhere (WrongFrame inner bytes) e
    after_count n counted (inl long) =
        record {
          place = 0;
          seen = 4;
          stands = wrong_count (record { here = refl; upto = refl; fault_is = long.1; judged = inr (n, counted, leb-true (length n.1) (n.0 - 5) long.0) });
        }
    after_count n counted (inr fits) =
        elim (unless_err (not (slice_index n.1 (n.0 - 5) == 0)) faults.Length e
        (done {A = List ℕ × List ℕ} (take (n.0 - 5) n.1, drop (n.0 - 5 + 1) n.1)) fits.1) [
          | inl bad ↦
              record {
                place = 0;
                seen = n.0;
                stands = wrong_end
                    (record {
                      here = refl;
                      count = n;
                      upto = refl;
                      fault_is = bad.1;
                      counted = counted;
                      fits = leb-false (length n.1) (n.0 - 5) fits.0;
                      judged = eqb-ne (slice_index n.1 (n.0 - 5)) 0 (not_true (slice_index n.1 (n.0 - 5) == 0) bad.0);
                    });
              }
          | inr o ↦ absurd (ok_err {X = List ℕ × List ℕ} (take (n.0 - 5) n.1, drop (n.0 - 5 + 1) n.1) e o.1)
        ]

-- what is wrong in a frame
abbrev in_frame : (inner : List ℕ → ℕ → ℕ → BsonFault → Type 0) (bytes content rest : List ℕ) (e : BsonFault) → bytes ≡ frame_of content ++ rest
    → Somewhere (inner content) e → Somewhere (InFrame inner bytes) e
in_frame inner bytes content rest e parts w = record
    { place = 4 + w.place; seen = 4 + w.seen; stands = record { content = content; rest = rest; parts = parts; fault_in = behind 4 (inner content) e w } }

as_frame : (inner : List ℕ → ℕ → ℕ → BsonFault → Type 0) (bytes : List ℕ) (e : BsonFault) → Somewhere (InFrame inner bytes) e
    → Somewhere (WrongFrame inner bytes) e
as_frame inner bytes e w = record { place = w.place; seen = w.seen; stands = wrong_in w.stands }

frame_wrong : {Y Z : Type 0} (inner : List ℕ → ℕ → ℕ → BsonFault → Type 0) (read : List ℕ → Result Y BsonFault) (made : Y → List ℕ → Z) (bytes : List ℕ)
    (e : BsonFault) → IsBytes bytes
    → ((content : List ℕ) → IsBytes content → read content ≡ Err e → Somewhere (inner content) e)
    → (content_at bytes >>= λ content. read content.0 >>= λ y. Ok (made y content.1)) ≡ Err e → Somewhere (WrongFrame inner bytes) e
frame_wrong {Y} {Z} inner read made bytes e fits each failed =
    elim (bind_err {B = Z} (content_at bytes) (λ content. read content.0 >>= λ y. Ok (made y content.1)) e failed) [
      | inl bad ↦ content_wrong inner bytes e bad
      | inr c ↦ elim (bind_err {B = Z} (read c.0.0) (λ y. Ok (made y c.0.1)) e c.2) [
        | inl bad ↦
            let took = content_takes bytes c.0 fits c.1 in
            as_frame inner bytes e (in_frame inner bytes c.0.0 c.0.1 e took.0.parts (each c.0.0 took.1 bad))
        | inr o ↦ absurd (ok_err (made o.0 c.0.1) e o.2)
      ]
    ]

-- ---- values

leaf_wrong : (k : Kind) (bytes : List ℕ) (e : BsonFault) → leaf (scalar_at k bytes) ≡ Err e → Somewhere (WrongScalar k bytes) e
leaf_wrong k bytes e failed =
    elim (bind_err {B = Tree × List ℕ} (scalar_at k bytes) (λ s. Ok (scalar s.0, s.1)) e failed) [
      | inl bad ↦ record { place = 0; seen = length bytes; stands = record { here = refl; upto = refl; judged = bad } }
      | inr o ↦ absurd (ok_err {X = Tree × List ℕ} (scalar o.0.0, o.0.1) e o.2)
    ]

deep_wrong : (e : BsonFault) (read : Read Tree) → read ≡ Err faults.Deep → read ≡ Err e → Somewhere TooDeep e
deep_wrong e read deep failed = let same : faults.Deep ≡ e = cc in record { place = 0; seen = 0; stands = record { here = refl; upto = refl; deep = sym same } }

pairs_in_wrong : (more : ℕ) (e : BsonFault) → ((k : Kind) (rest : List ℕ) → IsBytes rest → value_at more k rest ≡ Err e → Somewhere (WrongValue more k rest) e)
    → (content : List ℕ) → IsBytes content → pairs_in (value_at more) content ≡ Err e → Somewhere (WrongPair more (WrongValue more) content) e
pairs_in_wrong more e inner content fits failed =
    pairs_wrong (WrongValue more) (value_at more) more (value_reads more) e inner (length content) no_pairs content content (omega arith) fits
    (ap (λ (x : List ℕ). x ++ content) (sym pairs_bytes-none)) tt (omega arith) failed

items_in_wrong : (more : ℕ) (e : BsonFault) → ((k : Kind) (rest : List ℕ) → IsBytes rest → value_at more k rest ≡ Err e → Somewhere (WrongValue more k rest) e)
    → (content : List ℕ) → IsBytes content → items_in (value_at more) content ≡ Err e → Somewhere (WrongItem more (WrongValue more) content) e
items_in_wrong more e inner content fits failed =
    items_wrong (WrongValue more) (value_at more) more (value_reads more) e inner (length content) no_items content content (omega arith) fits
    (ap (λ (x : List ℕ). x ++ content) (sym (items_bytes-none 0))) tt (omega arith) failed

value_wrong_zero : (e : BsonFault) (k : Kind) (bytes : List ℕ) → IsBytes bytes → value_at 0 k bytes ≡ Err e → Somewhere (WrongValue 0 k bytes) e
unfolding value_at WrongValue
value_wrong_zero e kinds.Document bytes fits failed = deep_wrong e (Err faults.Deep) refl failed
value_wrong_zero e kinds.Array bytes fits failed = deep_wrong e (Err faults.Deep) refl failed
value_wrong_zero e kinds.String bytes fits failed = leaf_wrong kinds.String bytes e failed
value_wrong_zero e kinds.Binary bytes fits failed = leaf_wrong kinds.Binary bytes e failed
value_wrong_zero e kinds.ObjectId bytes fits failed = leaf_wrong kinds.ObjectId bytes e failed
value_wrong_zero e kinds.Bool bytes fits failed = leaf_wrong kinds.Bool bytes e failed
value_wrong_zero e kinds.Date bytes fits failed = leaf_wrong kinds.Date bytes e failed
value_wrong_zero e kinds.Null bytes fits failed = leaf_wrong kinds.Null bytes e failed
value_wrong_zero e kinds.Int32 bytes fits failed = leaf_wrong kinds.Int32 bytes e failed
value_wrong_zero e kinds.Timestamp bytes fits failed = leaf_wrong kinds.Timestamp bytes e failed
value_wrong_zero e kinds.Int64 bytes fits failed = leaf_wrong kinds.Int64 bytes e failed
value_wrong_zero e kinds.MinKey bytes fits failed = leaf_wrong kinds.MinKey bytes e failed
value_wrong_zero e kinds.MaxKey bytes fits failed = leaf_wrong kinds.MaxKey bytes e failed

value_wrong_more : (more : ℕ) (e : BsonFault)
    → ((k : Kind) (rest : List ℕ) → IsBytes rest → value_at more k rest ≡ Err e → Somewhere (WrongValue more k rest) e)
    → (k : Kind) (bytes : List ℕ) → IsBytes bytes → value_at (suc more) k bytes ≡ Err e → Somewhere (WrongValue (suc more) k bytes) e
unfolding value_at WrongValue
value_wrong_more more e inner kinds.Document bytes fits failed =
    frame_wrong (WrongPair more (WrongValue more)) (pairs_in (value_at more)) (λ ps rest. (document ps, rest)) bytes e fits (pairs_in_wrong more e inner) failed
value_wrong_more more e inner kinds.Array bytes fits failed =
    frame_wrong (WrongItem more (WrongValue more)) (items_in (value_at more)) (λ ts rest. (array ts, rest)) bytes e fits (items_in_wrong more e inner) failed
value_wrong_more more e inner kinds.String bytes fits failed = leaf_wrong kinds.String bytes e failed
value_wrong_more more e inner kinds.Binary bytes fits failed = leaf_wrong kinds.Binary bytes e failed
value_wrong_more more e inner kinds.ObjectId bytes fits failed = leaf_wrong kinds.ObjectId bytes e failed
value_wrong_more more e inner kinds.Bool bytes fits failed = leaf_wrong kinds.Bool bytes e failed
value_wrong_more more e inner kinds.Date bytes fits failed = leaf_wrong kinds.Date bytes e failed
value_wrong_more more e inner kinds.Null bytes fits failed = leaf_wrong kinds.Null bytes e failed
value_wrong_more more e inner kinds.Int32 bytes fits failed = leaf_wrong kinds.Int32 bytes e failed
value_wrong_more more e inner kinds.Timestamp bytes fits failed = leaf_wrong kinds.Timestamp bytes e failed
value_wrong_more more e inner kinds.Int64 bytes fits failed = leaf_wrong kinds.Int64 bytes e failed
value_wrong_more more e inner kinds.MinKey bytes fits failed = leaf_wrong kinds.MinKey bytes e failed
value_wrong_more more e inner kinds.MaxKey bytes fits failed = leaf_wrong kinds.MaxKey bytes e failed

value_wrong_at : (more : ℕ) (e : BsonFault) (k : Kind) (bytes : List ℕ) → IsBytes bytes → value_at more k bytes ≡ Err e → Somewhere (WrongValue more k bytes) e
value_wrong_at zero e = value_wrong_zero e
value_wrong_at (suc more) e = value_wrong_more more e (value_wrong_at more e)

-- ---- whole documents

pub document_wrong : (bytes : List ℕ) (e : BsonFault) → IsBytes bytes → document_at bytes ≡ Err e → Somewhere (WrongDocument bytes) e
unfolding document_at ended_at
document_wrong bytes e fits failed =
    elim (bind_err {B = Pairs × ℕ} (length_at bytes)
    (λ len. ended_at faults.Length (len - 5) (drop 4 bytes) >>= λ content. pairs_in (value_at 99) content.0 >>= λ ps. Ok (ps, len)) e failed) [
      | inl bad ↦ record { place = 0; seen = 4; stands = wrong_length (record { here = refl; upto = refl; judged = bad }) }
      | inr len ↦ elim
          (bind_err {B = Pairs × ℕ} (ended_at faults.Length (len.0 - 5) (drop 4 bytes))
          (λ content. pairs_in (value_at 99) content.0 >>= λ ps. Ok (ps, len.0)) e len.2) [
            | inl bad ↦ not_ended len.0 len.1 bad
            | inr content ↦ elim (bind_err {B = Pairs × ℕ} (pairs_in (value_at 99) content.0.0) (λ ps. Ok (ps, len.0)) e content.2) [
              | inl bad ↦ inside len.0 len.1 content.0 content.1 bad
              | inr o ↦ absurd (ok_err {X = Pairs × ℕ} (o.0, len.0) e o.2)
            ]
          ]
    ]
  where
    not_ended : (len : ℕ) → length_at bytes ≡ Ok len → ended_at faults.Length (len - 5) (drop 4 bytes) ≡ Err e → Somewhere (WrongDocument bytes) e
    not_ended len counted bad =
        let l = length_takes bytes len fits counted in
        let long : nat_le (length (drop 4 bytes)) (len - 5) ≡ false =
        lt-leb (length (drop 4 bytes)) (len - 5) (omega (arith, length-drop 4 bytes, l.low, l.whole)) in
        let zero_there =
        not_zero (slice_index (drop 4 bytes) (len - 5) == 0) (sym (ap (λ (b : Bool). unless b faults.Length (ended (len - 5) (drop 4 bytes))) long) ∙ bad) in
        record {
          place = 0;
          seen = len;
          stands = wrong_last (record {
            here = refl;
            counted = counted;
            fault_is = zero_there.1;
            judged = subst (λ (b : ℕ). b ≢ 0) (get_or-drop 4 bytes (len - 5) 0 ∙ ap (slice_index bytes) (omega (arith, l.low)))
                (eqb-ne (slice_index (drop 4 bytes) (len - 5)) 0 zero_there.0);
          });
        }
      where
        not_zero : (b : Bool)
            → unless (not b) faults.Length (done {A = List ℕ × List ℕ} (take (len - 5) (drop 4 bytes), drop (len - 5 + 1) (drop 4 bytes))) ≡ Err e
            → (b ≡ false) × (e ≡ faults.Length)
        not_zero true h = absurd (ok_err {X = List ℕ × List ℕ} (take (len - 5) (drop 4 bytes), drop (len - 5 + 1) (drop 4 bytes)) e h)
        not_zero false h = let same : faults.Length ≡ e = cc in (refl, sym same)

    inside : (len : ℕ) → length_at bytes ≡ Ok len → (content : List ℕ × List ℕ) → ended_at faults.Length (len - 5) (drop 4 bytes) ≡ Ok content
        → pairs_in (value_at 99) content.0 ≡ Err e → Somewhere (WrongDocument bytes) e
    inside len counted content ended bad =
        let l = length_takes bytes len fits counted in
        let f = ended_takes faults.Length (len - 5) (drop 4 bytes) content l.takes.rest_fits ended in
        let size : len ≡ length content.0 + 5 = omega (arith, f.2, l.low) in
        let both = Takes-then bytes (to_le_bytes w32 len) (drop 4 bytes) (content.0 ++ 0 ∷ []) content.1 l.takes f.0 in
        let whole : Takes bytes (frame_of content.0) content.1 =
        subst (λ (k : ℕ). Takes bytes (to_le_bytes w32 k ++ (content.0 ++ 0 ∷ [])) content.1) size both in
        let w = in_frame (WrongPair 99 (WrongValue 99)) bytes content.0 content.1 e whole.parts (pairs_in_wrong 99 e (value_wrong_at 99 e) content.0 f.1 bad) in
        record { place = w.place; seen = w.seen; stands = wrong_inside w.stands (omega (arith, size, l.high)) }

-- ---- what decode promises

pub is_fault : (bytes : List ℕ) (r : Result (Pairs × ℕ) BsonFault) → IsBytes bytes → Gives faults.Memory (λ x. x) r (document_at bytes)
    → IfErr r (λ e. e ≢ faults.Memory → FirstFault bytes e × HasNoDocument bytes)
is_fault bytes (Ok x) fits given = tt
is_fault bytes (Err e) fits given = λ not_memory. (
  let w = document_wrong bytes e fits (given not_memory) in record { read = given not_memory; place = w.place; seen = w.seen; stands = w.stands },
  λ n ps s.
      let again = document_again (take n bytes) ps (drop n bytes) s in
      let whole : document_at bytes ≡ Ok (ps, length (take n bytes)) = ap document_at (sym (take-append-drop n bytes)) ∙ again in
      let failed = given not_memory in
      absurd cc,
)

pub raw_fault : (bytes : List ℕ) (e : BsonFault) → IsBytes bytes → document_at bytes ≡ Err e → FirstFault bytes e × HasNoDocument bytes
raw_fault bytes e fits failed = is_fault bytes (Err e) fits (λ no_memory. failed) (fault_no bytes e failed)

-- ---- the bound on the number of elements is never met

pairs_bound : (more m n : ℕ) (earlier : List (List ℕ)) (bytes : List ℕ) → IsBytes bytes → length bytes ≤ m → length bytes ≤ n
    → pairs_by (value_at more) m earlier bytes ≡ pairs_by (value_at more) n earlier bytes
unfolding pairs_by
pairs_bound more zero zero earlier [] fits le le2 = refl
pairs_bound more zero (suc n) earlier [] fits le le2 = refl
pairs_bound more (suc m) zero earlier [] fits le le2 = refl
pairs_bound more (suc m) (suc n) earlier [] fits le le2 = refl
pairs_bound more zero n earlier (type ∷ bytes) fits le le2 = absurd (omega arith)
pairs_bound more (suc m) zero earlier (type ∷ bytes) fits le le2 = absurd (omega arith)
pairs_bound more (suc m) (suc n) earlier (type ∷ bytes) fits le le2 =
    by (element_by (value_at more) (stands_in earlier) faults.Repeated type bytes) (λ x e.
    let first = element_takes (value_at more) more (value_reads more) (stands_in earlier) faults.Repeated type bytes x (IsBytes-rest type bytes fits) e in
    let lt = element_shorter more (stands_in earlier) faults.Repeated type bytes x.0.0 x.0.1 x.1 (IsBytes-rest type bytes fits) e in
    pairs_bound more m n (earlier ++ x.0.0 ∷ []) x.1 first.0.takes.rest_fits (omega arith) (omega arith))
  where
    by : (r : Result Element BsonFault)
        → ((x : Element) → r ≡ Ok x → pairs_by (value_at more) m (earlier ++ x.0.0 ∷ []) x.1 ≡ pairs_by (value_at more) n (earlier ++ x.0.0 ∷ []) x.1)
        → (r >>= λ first. pairs_by (value_at more) m (earlier ++ first.0.0 ∷ []) first.1 >>= λ others. Ok (pair first.0.0 first.0.1 others))
        ≡ (r >>= λ first. pairs_by (value_at more) n (earlier ++ first.0.0 ∷ []) first.1 >>= λ others. Ok (pair first.0.0 first.0.1 others))
    by (Ok x) later = ap (λ (o : Result Pairs BsonFault). o >>= λ others. Ok (pair x.0.0 x.0.1 others)) (later x refl)
    by (Err e) later = refl

items_bound : (more m n i : ℕ) (bytes : List ℕ) → IsBytes bytes → length bytes ≤ m → length bytes ≤ n
    → items_by (value_at more) m i bytes ≡ items_by (value_at more) n i bytes
unfolding items_by
items_bound more zero zero i [] fits le le2 = refl
items_bound more zero (suc n) i [] fits le le2 = refl
items_bound more (suc m) zero i [] fits le le2 = refl
items_bound more (suc m) (suc n) i [] fits le le2 = refl
items_bound more zero n i (type ∷ bytes) fits le le2 = absurd (omega arith)
items_bound more (suc m) zero i (type ∷ bytes) fits le le2 = absurd (omega arith)
items_bound more (suc m) (suc n) i (type ∷ bytes) fits le le2 =
    by (item_by (value_at more) i type bytes) (λ x e.
    let first = item_takes (value_at more) more (value_reads more) i type bytes x (IsBytes-rest type bytes fits) e in
    let lt = item_shorter more i type bytes x.0 x.1 (IsBytes-rest type bytes fits) e in
    items_bound more m n (i + 1) x.1 first.takes.rest_fits (omega arith) (omega arith))
  where
    by : (r : Read Tree) → ((x : Tree × List ℕ) → r ≡ Ok x → items_by (value_at more) m (i + 1) x.1 ≡ items_by (value_at more) n (i + 1) x.1)
        → (r >>= λ first. items_by (value_at more) m (i + 1) first.1 >>= λ others. Ok (item first.0 others))
        ≡ (r >>= λ first. items_by (value_at more) n (i + 1) first.1 >>= λ others. Ok (item first.0 others))
    by (Ok x) later = ap (λ (o : Result Items BsonFault). o >>= λ others. Ok (item x.0 others)) (later x refl)
    by (Err e) later = refl

pub pairs_unbounded : (more most : ℕ) (content : List ℕ) → IsBytes content → length content ≤ most
    → pairs_by (value_at more) most [] content ≡ pairs_in (value_at more) content
pairs_unbounded more most content fits le = pairs_bound more most (length content) [] content fits le (omega arith)

pub items_unbounded : (more most : ℕ) (content : List ℕ) → IsBytes content → length content ≤ most
    → items_by (value_at more) most 0 content ≡ items_in (value_at more) content
items_unbounded more most content fits le = items_bound more most (length content) 0 content fits le (omega arith)
