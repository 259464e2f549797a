-- What is wrong stays wrong at its place whatever stands behind what was seen, unless a document or an array that is open
-- there no longer ends with a zero, which is wrong further left.
use Rattle.std.proofs.Common.{◌≡◌, ℕ, zero, suc, ◌+◌, ◌<◌, ◌≤◌, Bool, true, false, List, [], ◌∷◌, ◌++◌, length, take, drop, Ok, Err, refl, sym, ap, subst}
use Rattle.std.proofs.Common.{◌∙◌, append_assoc, arith, inl, inr, ◌≢◌, ◌⊎◌, ◌-◌, ◌^◌, ltb, eqb, get_or, Result}
use Rattle.std.specs.Prelude.{slice_index, nat_lt}
use Rattle.std.proofs.lemmas.List.{length-append, length-drop, take-append-drop, take_at, length-take, drop_more, get_or-take, get_or-drop}
use Rattle.std.proofs.lemmas.List.{get_or_at, take_all}
use Rattle.bson_bytes.specs.declared.fault.BsonFault.{BsonFault}
use Rattle.bson_bytes.specs.declared.fault.BsonFault.TheVariants as faults
use Rattle.bson.specs.declared.kind.Kind.{Kind}
use Rattle.bson.specs.declared.kind.Kind.TheVariants as kinds
use Rattle.outcome.specs.Outcome.{◌>>=◌, unless}
use Rattle.bson.specs.Spelling.{frame_of}
use Rattle.bson_bytes.specs.Decoding.{Read, is_below, fixed_at, count_at, length_at}
use Rattle.bson_bytes.specs.FirstFault.{Behind, WrongPair, WrongItem, Agrees, IsStill, WrongScalar}
use Rattle.bson_bytes.specs.FirstFault.{WrongCount, WrongEnd, InFrame, WrongFrame, wrong_count, wrong_end, wrong_in, WrongValue, WrongDocument, wrong_length}
use Rattle.bson_bytes.specs.FirstFault.{wrong_last, wrong_inside}
use Rattle.std.proofs.lemmas.Bool.{le-ltb, eqb-true, eqb-false}
use Rattle.std.specs.Int.{w32, to_le_bytes, from_le_bytes}
use Rattle.bson.specs.Limits.{message_limit}
use Rattle.bson.specs.Lawful.{IsBytes}
use Rattle.bson.specs.SizingLaws.{frame_of-length}
use Rattle.bson_bytes.proofs.FrameLaws.{ok_is, cases_bool, wide32, not_below, is_below-false, count_again}
use Rattle.bson_bytes.proofs.TreeLaws.{length_takes}
use Rattle.bson_bytes.proofs.SeenElements.{take_swap, fewer, front_seen, still_is, behind_still}
use Rattle.bson_bytes.proofs.SeenElements.{ValuesStay, ContentStays, pairs_stay, items_stay}

-- ---- counts

abbrev count_tests : Bool → Bool → ℕ → List ℕ → Read ℕ
count_tests short below n back = unless short faults.Length (unless below faults.Length (Ok (n, back)))

abbrev first_number : List ℕ → ℕ
first_number bytes = from_le_bytes w32 (take 4 bytes)

abbrev four_of : Bool → List ℕ → List ℕ → Read (List ℕ)
four_of short front back = unless short faults.Length (Ok (front, back))

abbrev number_of : ℕ → List ℕ × List ℕ → Read ℕ
number_of least four = unless (is_below least (from_le_bytes w32 four.0)) faults.Length (Ok (from_le_bytes w32 four.0, four.1))

four_tests : (least : ℕ) (short : Bool) (front back : List ℕ)
    → (four_of short front back >>= number_of least) ≡ count_tests short (is_below least (from_le_bytes w32 front)) (from_le_bytes w32 front) back
four_tests least true front back = refl
four_tests least false front back = refl

count_is : (least : ℕ) (bytes : List ℕ)
    → count_at least bytes ≡ count_tests (nat_lt (length bytes) 4) (is_below least (first_number bytes)) (first_number bytes) (drop 4 bytes)
unfolding count_at fixed_at
count_is least bytes = four_tests least (nat_lt (length bytes) 4) (take 4 bytes) (drop 4 bytes)

tests_err : (short below : Bool) (n : ℕ) (back other : List ℕ) (e : BsonFault) → count_tests short below n back ≡ Err e
    → count_tests short below n other ≡ Err e
tests_err true below n back other e h = h
tests_err false true n back other e h = h
tests_err false false n back other e h = absurd cc

record CountRead (below : Bool) (n : ℕ) (back other : List ℕ) (x : ℕ × List ℕ) (again : Read ℕ) : Type 0 where
  high : below ≡ false
  number : x.0 ≡ n
  rest : x.1 ≡ back
  same : again ≡ Ok (x.0, other)

abbrev number_and : ℕ → List ℕ → Read ℕ
number_and n back = Ok (n, back)

tests_ok : (short below : Bool) (n : ℕ) (back other : List ℕ) (x : ℕ × List ℕ) → count_tests short below n back ≡ Ok x
    → CountRead below n back other x (count_tests short below n other)
tests_ok true below n back other x h = absurd cc
tests_ok false true n back other x h = absurd cc
tests_ok false false n back other x h =
    let made : ℕ × List ℕ = (n, back) in
    let same : made ≡ x = ok_is made x h in
    let number : x.0 ≡ n = ap (λ (y : ℕ × List ℕ). y.0) (sym same) in
    record { high = refl; number = number; rest = ap (λ (y : ℕ × List ℕ). y.1) (sym same); same = ap (λ (m : ℕ). number_and m other) (sym number) }

count_other : (least : ℕ) (bytes other : List ℕ) → Agrees 4 bytes other
    → count_at least other ≡ count_tests (nat_lt (length bytes) 4) (is_below least (first_number bytes)) (first_number bytes) (drop 4 other)
count_other least bytes other h = count_is least other
    ∙ (λ i. count_tests (nat_lt (h.long i) 4) (is_below least (from_le_bytes w32 (h.front i))) (from_le_bytes w32 (h.front i)) (drop 4 other))

count_err_same : (least : ℕ) (bytes other : List ℕ) (e : BsonFault) → Agrees 4 bytes other → count_at least bytes ≡ Err e → count_at least other ≡ Err e
count_err_same least bytes other e h failed =
    count_other least bytes other h
    ∙ tests_err (nat_lt (length bytes) 4) (is_below least (first_number bytes)) (first_number bytes) (drop 4 bytes) (drop 4 other) e
    (sym (count_is least bytes) ∙ failed)

record CountStays (bytes other : List ℕ) (x : ℕ × List ℕ) : Type 0 where
  low : 5 ≤ x.0
  rest : x.1 ≡ drop 4 bytes
  same : count_at 5 other ≡ number_and x.0 (drop 4 other)

count_ok_same : (bytes other : List ℕ) (x : ℕ × List ℕ) → Agrees 4 bytes other → count_at 5 bytes ≡ Ok x → CountStays bytes other x
count_ok_same bytes other x h read =
    let t = tests_ok (nat_lt (length bytes) 4) (is_below 5 (first_number bytes)) (first_number bytes) (drop 4 bytes) (drop 4 other) x
    (sym (count_is 5 bytes) ∙ read) in
    record { low = omega (arith, (is_below-false 5 (first_number bytes) t.high).0, t.number); rest = t.rest; same = count_other 5 bytes other h ∙ t.same }

-- a byte that was seen
byte_same : (n i : ℕ) (bytes other : List ℕ) → i < n → Agrees n bytes other → slice_index other i ≡ slice_index bytes i
byte_same n i bytes other lt h = sym (get_or-take n other i 0 lt) ∙ ap (λ (xs : List ℕ). get_or xs i 0) h.front ∙ get_or-take n bytes i 0 lt

-- ---- documents and arrays

count_stays : (bytes other : List ℕ) (place seen : ℕ) (fault : BsonFault) → WrongCount bytes place seen fault → Agrees seen bytes other
    → WrongCount other place seen fault
count_stays bytes other place seen fault w h = record { here = w.here; upto = w.upto; fault_is = w.fault_is; judged = again w.judged }
  where
    four : Agrees 4 bytes other
    four = subst (λ (n : ℕ). Agrees n bytes other) w.upto h

    again : (count_at 5 bytes ≡ Err faults.Length) ⊎ ((n : ℕ × List ℕ) × (count_at 5 bytes ≡ Ok n) × (length n.1 ≤ n.0 - 5))
        → (count_at 5 other ≡ Err faults.Length) ⊎ ((n : ℕ × List ℕ) × (count_at 5 other ≡ Ok n) × (length n.1 ≤ n.0 - 5))
    again (inl bad) = inl (count_err_same 5 bytes other faults.Length four bad)
    again (inr n) =
        let s = count_ok_same bytes other n.0 four n.1 in
        let made : ℕ × List ℕ = (n.0.0, drop 4 other) in
        inr (made, s.same, omega (arith, n.2, ap length s.rest, length-drop 4 bytes, length-drop 4 other, h.long))

end_stays : (bytes other : List ℕ) (place seen : ℕ) (fault : BsonFault) → 4 ≤ seen → WrongEnd bytes place seen fault → Agrees seen bytes other
    → WrongEnd other place seen fault
end_stays bytes other place seen fault long w h =
    let s = count_ok_same bytes other w.count (fewer 4 seen bytes other long h) w.counted in
    let made : ℕ × List ℕ = (w.count.0, drop 4 other) in
    let at = w.count.0 - 5 in
    let byte : slice_index (drop 4 other) at ≡ slice_index w.count.1 at =
    get_or-drop 4 other at 0 ∙ byte_same seen (4 + at) bytes other (omega (arith, s.low, w.upto)) h ∙ sym (get_or-drop 4 bytes at 0)
    ∙ ap (λ (xs : List ℕ). get_or xs at 0) (sym s.rest) in
    record {
      here = w.here;
      count = made;
      upto = w.upto;
      fault_is = w.fault_is;
      counted = s.same;
      fits = omega (arith, w.fits, ap length s.rest, length-drop 4 bytes, length-drop 4 other, h.long);
      judged = λ zero_there. w.judged (sym byte ∙ zero_there);
    }

end_seen : (bytes : List ℕ) (place seen : ℕ) (fault : BsonFault) → WrongEnd bytes place seen fault → 4 ≤ seen
end_seen bytes place seen fault w =
    let self : Agrees 4 bytes bytes = record { long = refl; front = refl } in
    omega (arith, (count_ok_same bytes bytes w.count self w.counted).low, w.upto)

-- a frame of the same length, with what stands where its end was
record OtherFrame (upto : ℕ) (content other : List ℕ) : Type 0 where
  inside : List ℕ
  last : ℕ
  after : List ℕ
  parts : other ≡ to_le_bytes w32 (length content + 5) ++ (inside ++ last ∷ after)
  long : length inside ≡ length content
  agrees : Agrees upto content inside

frame_parts : (content rest : List ℕ) → frame_of content ++ rest ≡ to_le_bytes w32 (length content + 5) ++ (content ++ 0 ∷ rest)
frame_parts content rest = ap (λ (xs : List ℕ). to_le_bytes w32 (length content + 5) ++ xs) (append_assoc content (0 ∷ []) rest)

other_frame : (content rest other : List ℕ) (upto seen : ℕ) → seen ≡ 4 + upto → Agrees seen (frame_of content ++ rest) other → OtherFrame upto content other
other_frame content rest other upto seen is h =
    let number = to_le_bytes w32 (length content + 5) in
    let tail = content ++ 0 ∷ rest in
    let n = length content in
    let g = front_seen number tail other upto seen is (subst (λ (xs : List ℕ). Agrees seen xs other) (frame_parts content rest) h) in
    let left = drop (length number) other in
    let size = length-append content (0 ∷ rest) in
    record {
      inside = take n left;
      last = get_or left n 0;
      after = drop (n + 1) left;
      parts = g.parts
          ∙ ap (λ (xs : List ℕ). number ++ xs)
          (sym (take-append-drop n left) ∙ ap (λ (xs : List ℕ). take n left ++ xs) (drop_more left n 0 (omega (arith, g.agrees.long, size))));
      long = omega (arith, length-take n left, g.agrees.long, size);
      agrees = record {
        long = omega (arith, length-take n left, g.agrees.long, size);
        front = take_swap upto n left ∙ ap (take n) g.agrees.front ∙ sym (take_swap upto n tail) ∙ ap (take upto) (take_at content (0 ∷ rest) n refl);
      };
    }

whole_frame : (content inside after other : List ℕ) (last : ℕ) → other ≡ to_le_bytes w32 (length content + 5) ++ (inside ++ last ∷ after)
    → length inside ≡ length content → last ≡ 0 → other ≡ frame_of inside ++ after
whole_frame content inside after other last parts long ended =
    parts ∙ (λ i. to_le_bytes w32 (sym long i + 5) ++ (inside ++ ended i ∷ after)) ∙ sym (frame_parts inside after)

module _ (inner : List ℕ → ℕ → ℕ → BsonFault → Type 0) (stay : ContentStays (2 ^ 31) inner) where
  -- a frame whose end is still a zero
  ended_stays : (bytes other : List ℕ) (place seen : ℕ) (fault : BsonFault) (w : InFrame inner bytes place seen fault) → length w.content < 2 ^ 31
      → (o : OtherFrame w.fault_in.upto w.content other) → o.last ≡ 0 → IsStill (InFrame inner other) place seen fault
  ended_stays bytes other place seen fault w short o zero_there =
      let parts = whole_frame w.content o.inside o.after other o.last o.parts o.long zero_there in
      let v = stay w.content o.inside w.fault_in.at w.fault_in.upto fault short w.fault_in.inner o.agrees in
      still_is (Behind 4 (inner o.inside)) (InFrame inner other) place seen fault
      (λ p s f b. record { content = o.inside; rest = o.after; parts = parts; fault_in = b })
      (behind_still 4 (inner o.inside) place seen w.fault_in.at w.fault_in.upto fault w.fault_in.place_is w.fault_in.seen_is v)

  -- one whose end isn't
  unended : (bytes other : List ℕ) (place seen : ℕ) (fault : BsonFault) (w : InFrame inner bytes place seen fault) → length w.content + 5 < 2 ^ 31
      → (o : OtherFrame w.fault_in.upto w.content other) → o.last ≢ 0 → WrongEnd other 0 (length w.content + 5) faults.Length
  unended bytes other place seen fault w short o last =
      let n = length w.content + 5 in
      let tail = o.inside ++ o.last ∷ o.after in
      let made : ℕ × List ℕ = (n, tail) in
      let at : slice_index tail (n - 5) ≡ o.last = get_or_at o.inside o.last o.after 0 (n - 5) (omega (arith, o.long)) in
      record {
        here = refl;
        count = made;
        upto = refl;
        fault_is = refl;
        counted = ap (count_at 5) o.parts ∙ count_again 5 n tail (omega arith) short;
        fits = omega (arith, o.long, length-append o.inside (o.last ∷ o.after));
        judged = λ zero_there. last (sym at ∙ zero_there);
      }

  frame_stays : (bytes other : List ℕ) (place seen : ℕ) (fault : BsonFault) → length bytes < 2 ^ 31 → WrongFrame inner bytes place seen fault
      → Agrees seen bytes other → IsStill (WrongFrame inner other) place seen fault
  frame_stays bytes other place seen fault short (wrong_count w) h = inl (wrong_count (count_stays bytes other place seen fault w h))
  frame_stays bytes other place seen fault short (wrong_end w) h =
      inl (wrong_end (end_stays bytes other place seen fault (end_seen bytes place seen fault w) w h))
  frame_stays bytes other place seen fault short (wrong_in w) h =
      let o = other_frame w.content w.rest other w.fault_in.upto seen w.fault_in.seen_is (subst (λ (xs : List ℕ). Agrees seen xs other) w.parts h) in
      let size : length w.content + 5 < 2 ^ 31 =
      omega (arith, short, ap length w.parts, length-append (frame_of w.content) w.rest, frame_of-length w.content) in
      elim (cases_bool (eqb o.last 0)) [
        | inl zero_there ↦ still_is (InFrame inner other) (WrongFrame inner other) place seen fault (λ p s f x. wrong_in x)
            (ended_stays bytes other place seen fault w (omega arith) o (eqb-true o.last 0 zero_there))
        | inr last ↦ inr
            (record {
              at = 0;
              upto = length w.content + 5;
              earlier = omega (arith, w.fault_in.place_is);
              stands = wrong_end (unended bytes other place seen fault w size o (eqb-false o.last 0 last));
            })
      ]

-- ---- values

scalar_stays : (k : Kind) (bytes other : List ℕ) (place seen : ℕ) (fault : BsonFault) → WrongScalar k bytes place seen fault → Agrees seen bytes other
    → IsStill (WrongScalar k other) place seen fault
scalar_stays k bytes other place seen fault w h =
    let same : other ≡ bytes = sym (take_all (length bytes) other (omega (arith, h.long))) ∙ ap (λ (n : ℕ). take n other) (sym w.upto) ∙ h.front
    ∙ ap (λ (n : ℕ). take n bytes) w.upto ∙ take_all (length bytes) bytes (omega arith) in
    inl (subst (λ (xs : List ℕ). WrongScalar k xs place seen fault) (sym same) w)

values_stay_zero : ValuesStay (2 ^ 31) (WrongValue 0)
unfolding WrongValue
values_stay_zero kinds.Document bytes other place seen fault short w h = inl w
values_stay_zero kinds.Array bytes other place seen fault short w h = inl w
values_stay_zero kinds.String bytes other place seen fault short w h = scalar_stays kinds.String bytes other place seen fault w h
values_stay_zero kinds.Binary bytes other place seen fault short w h = scalar_stays kinds.Binary bytes other place seen fault w h
values_stay_zero kinds.ObjectId bytes other place seen fault short w h = scalar_stays kinds.ObjectId bytes other place seen fault w h
values_stay_zero kinds.Bool bytes other place seen fault short w h = scalar_stays kinds.Bool bytes other place seen fault w h
values_stay_zero kinds.Date bytes other place seen fault short w h = scalar_stays kinds.Date bytes other place seen fault w h
values_stay_zero kinds.Null bytes other place seen fault short w h = scalar_stays kinds.Null bytes other place seen fault w h
values_stay_zero kinds.Int32 bytes other place seen fault short w h = scalar_stays kinds.Int32 bytes other place seen fault w h
values_stay_zero kinds.Timestamp bytes other place seen fault short w h = scalar_stays kinds.Timestamp bytes other place seen fault w h
values_stay_zero kinds.Int64 bytes other place seen fault short w h = scalar_stays kinds.Int64 bytes other place seen fault w h
values_stay_zero kinds.MinKey bytes other place seen fault short w h = scalar_stays kinds.MinKey bytes other place seen fault w h
values_stay_zero kinds.MaxKey bytes other place seen fault short w h = scalar_stays kinds.MaxKey bytes other place seen fault w h

values_stay_more : (more : ℕ) → ValuesStay (2 ^ 31) (WrongValue more) → ValuesStay (2 ^ 31) (WrongValue (suc more))
unfolding WrongValue
values_stay_more more stay kinds.Document bytes other place seen fault short w h =
    frame_stays (WrongPair more (WrongValue more)) (pairs_stay (2 ^ 31) more (WrongValue more) stay) bytes other place seen fault short w h
values_stay_more more stay kinds.Array bytes other place seen fault short w h =
    frame_stays (WrongItem more (WrongValue more)) (items_stay (2 ^ 31) more (WrongValue more) stay) bytes other place seen fault short w h
values_stay_more more stay kinds.String bytes other place seen fault short w h = scalar_stays kinds.String bytes other place seen fault w h
values_stay_more more stay kinds.Binary bytes other place seen fault short w h = scalar_stays kinds.Binary bytes other place seen fault w h
values_stay_more more stay kinds.ObjectId bytes other place seen fault short w h = scalar_stays kinds.ObjectId bytes other place seen fault w h
values_stay_more more stay kinds.Bool bytes other place seen fault short w h = scalar_stays kinds.Bool bytes other place seen fault w h
values_stay_more more stay kinds.Date bytes other place seen fault short w h = scalar_stays kinds.Date bytes other place seen fault w h
values_stay_more more stay kinds.Null bytes other place seen fault short w h = scalar_stays kinds.Null bytes other place seen fault w h
values_stay_more more stay kinds.Int32 bytes other place seen fault short w h = scalar_stays kinds.Int32 bytes other place seen fault w h
values_stay_more more stay kinds.Timestamp bytes other place seen fault short w h = scalar_stays kinds.Timestamp bytes other place seen fault w h
values_stay_more more stay kinds.Int64 bytes other place seen fault short w h = scalar_stays kinds.Int64 bytes other place seen fault w h
values_stay_more more stay kinds.MinKey bytes other place seen fault short w h = scalar_stays kinds.MinKey bytes other place seen fault w h
values_stay_more more stay kinds.MaxKey bytes other place seen fault short w h = scalar_stays kinds.MaxKey bytes other place seen fault w h

values_stay : (more : ℕ) → ValuesStay (2 ^ 31) (WrongValue more)
values_stay zero = values_stay_zero
values_stay (suc more) = values_stay_more more (values_stay more)

-- ---- whole documents

abbrev length_tests : ℕ → List ℕ → Result ℕ BsonFault
length_tests long front =
    unless (nat_lt long 4) faults.Truncated
    (unless (is_below 5 (from_le_bytes w32 front)) faults.Length
    (unless (nat_lt message_limit (from_le_bytes w32 front)) faults.TooLarge
    (unless (nat_lt long (from_le_bytes w32 front)) faults.Truncated
    (Ok (from_le_bytes w32 front)))))

length_same : (bytes other : List ℕ) → Agrees 4 bytes other → length_at other ≡ length_at bytes
unfolding length_at
length_same bytes other h = λ i. length_tests (h.long i) (h.front i)

length_again : (n : ℕ) (tail : List ℕ) → 5 ≤ n → n ≤ message_limit → n ≤ length tail + 4 → length_at (to_le_bytes w32 n ++ tail) ≡ Ok n
unfolding length_at
length_again n tail low high fits =
    let back = wide32.again n (omega (arith, high)) in
    let long : ltb (length (to_le_bytes w32 n ++ tail)) 4 ≡ false = le-ltb _ _ (omega arith) in
    let large : ltb message_limit n ≡ false = le-ltb _ _ high in
    let whole : ltb (length (to_le_bytes w32 n ++ tail)) n ≡ false = le-ltb _ _ (omega arith) in
    rw (long, back, not_below 5 n low (omega (arith, high)), large, whole) refl

pub document_stays : (bytes other : List ℕ) (place seen : ℕ) (fault : BsonFault) → IsBytes bytes → WrongDocument bytes place seen fault
    → Agrees seen bytes other → IsStill (WrongDocument other) place seen fault
document_stays bytes other place seen fault fits (wrong_length w) h =
    inl (wrong_length (record { here = w.here; upto = w.upto; judged = length_same bytes other (subst (λ (n : ℕ). Agrees n bytes other) w.upto h) ∙ w.judged }))
document_stays bytes other place seen fault fits (wrong_last w) h =
    let l = length_takes bytes seen fits w.counted in
    let byte = byte_same seen (seen - 1) bytes other (omega (arith, l.low)) h in
    inl (wrong_last
    (record {
      here = w.here;
      counted = length_same bytes other (fewer 4 seen bytes other (omega (arith, l.low)) h) ∙ w.counted;
      fault_is = w.fault_is;
      judged = λ zero_there. w.judged (sym byte ∙ zero_there);
    }))
document_stays bytes other place seen fault fits (wrong_inside w size) h =
    let inner = WrongPair 99 (WrongValue 99) in
    let stay = pairs_stay (2 ^ 31) 99 (WrongValue 99) (values_stay 99) in
    let o = other_frame w.content w.rest other w.fault_in.upto seen w.fault_in.seen_is (subst (λ (xs : List ℕ). Agrees seen xs other) w.parts h) in
    let n = length w.content + 5 in
    let tail = o.inside ++ o.last ∷ o.after in
    let long = length-append o.inside (o.last ∷ o.after) in
    elim (cases_bool (eqb o.last 0)) [
      | inl zero_there ↦ inside o (eqb-true o.last 0 zero_there)
      | inr last ↦
          let at : slice_index other (n - 1) ≡ o.last =
          ap (λ (xs : List ℕ). get_or xs (n - 1) 0) (o.parts ∙ sym (append_assoc (to_le_bytes w32 n) o.inside (o.last ∷ o.after)))
          ∙ get_or_at (to_le_bytes w32 n ++ o.inside) o.last o.after 0 (n - 1) (omega (arith, length-append (to_le_bytes w32 n) o.inside, o.long)) in
          inr (record {
            at = 0;
            upto = n;
            earlier = omega (arith, w.fault_in.place_is);
            stands = wrong_last
                (record {
                  here = refl;
                  counted = ap length_at o.parts ∙ length_again n tail (omega arith) size (omega (arith, long, o.long));
                  fault_is = refl;
                  judged = λ zero_there. eqb-false o.last 0 last (sym at ∙ zero_there);
                });
          })
    ]
  where
    inside : (o : OtherFrame w.fault_in.upto w.content other) → o.last ≡ 0 → IsStill (WrongDocument other) place seen fault
    inside o zero_there =
        let parts = whole_frame w.content o.inside o.after other o.last o.parts o.long zero_there in
        let v = pairs_stay (2 ^ 31) 99 (WrongValue 99) (values_stay 99) w.content o.inside w.fault_in.at w.fault_in.upto fault
        (omega (arith, size)) w.fault_in.inner o.agrees in
        still_is (Behind 4 (WrongPair 99 (WrongValue 99) o.inside)) (WrongDocument other) place seen fault
        (λ p s f b. wrong_inside (record { content = o.inside; rest = o.after; parts = parts; fault_in = b }) (omega (arith, size, o.long)))
        (behind_still 4 (WrongPair 99 (WrongValue 99) o.inside) place seen w.fault_in.at w.fault_in.upto fault w.fault_in.place_is w.fault_in.seen_is v)
