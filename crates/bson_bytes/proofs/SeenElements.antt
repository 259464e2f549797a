-- What is wrong in an element stays wrong at its place whatever stands behind what was seen.
use Rattle.std.proofs.Common.{◌≡◌, ℕ, zero, suc, ◌+◌, ◌<◌, ◌≤◌, Bool, true, false, not, List, [], ◌∷◌, ◌++◌, length, take, drop, Ok, Err, refl, sym, ap, subst}
use Rattle.std.proofs.Common.{◌∙◌, append_assoc, arith, inl, inr, ◌-◌}
use Rattle.std.specs.Prelude.{nat_le}
use Rattle.std.specs.Str.{is_utf8}
use Rattle.std.proofs.lemmas.List.{length-append, length-drop, take-append-drop, take_at, drop_at, drop-take}
use Rattle.bson_bytes.specs.declared.fault.BsonFault.{BsonFault}
use Rattle.bson_bytes.specs.declared.fault.BsonFault.TheVariants as faults
use Rattle.bson.specs.declared.kind.Kind.{Kind}
use Rattle.bson.specs.declared.kind.Kind.TheVariants as kinds
use Rattle.outcome.specs.Outcome.{unless}
use Rattle.bson.specs.Spelling.{pairs_bytes, items_bytes}
use Rattle.bson.specs.Edits.{items_len}
use Rattle.bson.specs.Lookup.{stands_in}
use Rattle.bson_bytes.specs.Decoding.{Read, zero_at, name_at, is_no_index}
use Rattle.bson_bytes.specs.Raw.{tree_names}
use Rattle.bson_bytes.specs.FirstFault.{Behind, WrongElement, wrong_type, wrong_name, wrong_here, wrong_value, WrongPair, WrongItem, Agrees, IsStill}
use Rattle.bson_bytes.proofs.FrameLaws.{zero_later}

take_take : (m n : ℕ) (xs : List ℕ) → m ≤ n → take m (take n xs) ≡ take m xs
take_take zero n xs le = refl
take_take (suc m) zero xs le = absurd (omega arith)
take_take (suc m) (suc n) [] le = refl
take_take (suc m) (suc n) (x ∷ xs) le = ap (λ (ys : List ℕ). x ∷ ys) (take_take m n xs (omega arith))

pub take_swap : (m n : ℕ) (xs : List ℕ) → take m (take n xs) ≡ take n (take m xs)
take_swap zero zero xs = refl
take_swap zero (suc n) xs = refl
take_swap (suc m) zero xs = refl
take_swap (suc m) (suc n) [] = refl
take_swap (suc m) (suc n) (x ∷ xs) = ap (λ (ys : List ℕ). x ∷ ys) (take_swap m n xs)

pub fewer : (m n : ℕ) (bytes other : List ℕ) → m ≤ n → Agrees n bytes other → Agrees m bytes other
fewer m n bytes other le h = record { long = h.long; front = sym (take_take m n other le) ∙ ap (take m) h.front ∙ take_take m n bytes le }

-- behind a front that was seen
pub record Behind_front (upto : ℕ) (x rest other : List ℕ) : Type 0 where
  pub parts : other ≡ x ++ drop (length x) other
  pub agrees : Agrees upto rest (drop (length x) other)

pub front_seen : (x rest other : List ℕ) (upto seen : ℕ) → seen ≡ length x + upto → Agrees seen (x ++ rest) other → Behind_front upto x rest other
front_seen x rest other upto seen is h =
    let n = length x in
    let g : Agrees (n + upto) (x ++ rest) other = subst (λ (k : ℕ). Agrees k (x ++ rest) other) is h in
    let first : take n other ≡ x = (fewer n (n + upto) (x ++ rest) other (omega arith) g).front ∙ take_at x rest n refl in
    let size = length-append x rest in
    record {
      parts = sym (take-append-drop n other) ∙ ap (λ (ys : List ℕ). ys ++ drop n other) first;
      agrees = record {
        long = length-drop n other ∙ omega (arith, g.long, size);
        front = sym (drop-take n upto other) ∙ ap (drop n) g.front ∙ drop-take n upto (x ++ rest) ∙ ap (take upto) (drop_at x rest n refl);
      };
    }

agrees_cons : (k t u : ℕ) (bytes other : List ℕ) → Agrees (suc k) (t ∷ bytes) (u ∷ other) → (u ≡ t) × Agrees k bytes other
agrees_cons k t u bytes other h = let e = h.front in (cc, record { long = omega (arith, h.long); front = cc })

-- ---- faults that stay

pub still_is : (wrong other : ℕ → ℕ → BsonFault → Type 0) (place seen : ℕ) (fault : BsonFault) → ((p s : ℕ) (f : BsonFault) → wrong p s f → other p s f)
    → IsStill wrong place seen fault → IsStill other place seen fault
still_is wrong other place seen fault each (inl w) = inl (each place seen fault w)
still_is wrong other place seen fault each (inr e) =
    inr (record { at = e.at; upto = e.upto; earlier = e.earlier; stands = each e.at e.upto faults.Length e.stands })

pub behind_still : (n : ℕ) (wrong : ℕ → ℕ → BsonFault → Type 0) (place seen at upto : ℕ) (fault : BsonFault) → place ≡ n + at → seen ≡ n + upto
    → IsStill wrong at upto fault → IsStill (Behind n wrong) place seen fault
behind_still n wrong place seen at upto fault e1 e2 (inl w) = inl (record { at = at; upto = upto; place_is = e1; seen_is = e2; inner = w })
behind_still n wrong place seen at upto fault e1 e2 (inr e) =
    inr (record {
      at = n + e.at;
      upto = n + e.upto;
      earlier = omega (arith, e.earlier, e1);
      stands = record { at = e.at; upto = e.upto; place_is = refl; seen_is = refl; inner = e.stands };
    })

-- ---- names

zero_same : (bytes other : List ℕ) → length other ≡ length bytes → take (suc (zero_at bytes)) other ≡ take (suc (zero_at bytes)) bytes
    → zero_at other ≡ zero_at bytes
zero_same [] [] long front = refl
zero_same [] (c ∷ other) long front = absurd (omega arith)
zero_same (b ∷ bytes) [] long front = absurd (omega arith)
zero_same (zero ∷ bytes) (c ∷ other) long front = let same : c ≡ 0 = cc in ap (λ (x : ℕ). zero_at (x ∷ other)) same
zero_same (suc b ∷ bytes) (c ∷ other) long front =
    let both = heads_same (zero_at (suc b ∷ bytes)) (zero_at bytes) (suc b) c bytes other (zero_later b bytes) front in
    ap (λ (x : ℕ). zero_at (x ∷ other)) both.0 ∙ zero_later b other ∙ ap suc (zero_same bytes other (omega arith) both.1) ∙ sym (zero_later b bytes)
  where
    heads_same : (m n b c : ℕ) (bytes other : List ℕ) → m ≡ suc n → take (suc m) (c ∷ other) ≡ take (suc m) (b ∷ bytes)
        → (c ≡ b) × (take (suc n) other ≡ take (suc n) bytes)
    heads_same m n b c bytes other is front =
        let both : c ∷ take (suc n) other ≡ b ∷ take (suc n) bytes = subst (λ (k : ℕ). take (suc k) (c ∷ other) ≡ take (suc k) (b ∷ bytes)) is front in
        (cc, cc)

abbrev pub two_tests : Bool → Bool → List ℕ → List ℕ → Read (List ℕ)
two_tests long wrong name rest = unless long faults.Name (unless wrong faults.Name (Ok (name, rest)))

tests_same : (long wrong : Bool) (name rest other : List ℕ) (e : BsonFault) → two_tests long wrong name rest ≡ Err e → two_tests long wrong name other ≡ Err e
tests_same true wrong name rest other e h = h
tests_same false true name rest other e h = h
tests_same false false name rest other e h = absurd cc

name_same : (bytes other : List ℕ) (e : BsonFault) → Agrees (suc (zero_at bytes)) bytes other → name_at bytes ≡ Err e
    → (name_at other ≡ Err e) × (zero_at other ≡ zero_at bytes)
unfolding name_at
name_same bytes other e h failed =
    let z = zero_same bytes other h.long h.front in
    let name : take (zero_at other) other ≡ take (zero_at bytes) bytes =
    ap (λ (k : ℕ). take k other) z ∙ (fewer (zero_at bytes) (suc (zero_at bytes)) bytes other (omega arith) h).front in
    let here = tests_same (nat_le (length bytes) (zero_at bytes)) (not (is_utf8 (take (zero_at bytes) bytes))) (take (zero_at bytes) bytes)
    (drop (zero_at bytes + 1) bytes) (drop (zero_at other + 1) other) e failed in
    ((λ i. two_tests (nat_le (h.long i) (z i)) (not (is_utf8 (name i))) (name i) (drop (zero_at other + 1) other)) ∙ here, z)

-- ---- elements

abbrev pub Wrong_at : Type 1
Wrong_at = ℕ → ℕ → BsonFault → Type 0

-- values stay wrong, behind bytes that are no more than so many
abbrev pub ValuesStay : ℕ → (Kind → List ℕ → ℕ → ℕ → BsonFault → Type 0) → Type 0
ValuesStay most value = (k : Kind) (bytes other : List ℕ) (place seen : ℕ) (fault : BsonFault) → length bytes < most → value k bytes place seen fault
    → Agrees seen bytes other → IsStill (value k other) place seen fault

element_stays : (most : ℕ) (value : Kind → List ℕ → ℕ → ℕ → BsonFault → Type 0) → ValuesStay most value
    → (wrong : List ℕ → Bool) (named : BsonFault) (type : ℕ) (bytes other : List ℕ) (place seen : ℕ) (fault : BsonFault)
    → length bytes < most → WrongElement value wrong named type bytes place (suc seen) fault → Agrees seen bytes other
    → IsStill (WrongElement value wrong named type other) place (suc seen) fault
element_stays most value stay wrong named type bytes other place seen fault short (wrong_type p s bad) h = inl (wrong_type p s bad)
element_stays most value stay wrong named type bytes other place seen fault short (wrong_name p s k known bad) h =
    let upto : seen ≡ suc (zero_at bytes) = omega (arith, s) in
    let same = name_same bytes other fault (subst (λ (n : ℕ). Agrees n bytes other) upto h) bad in
    inl (wrong_name p (omega (arith, s, same.1)) k known same.0)
element_stays most value stay wrong named type bytes other place seen fault short (wrong_here p name rest s k known is_name parts here is) h =
    let whole : bytes ≡ (name ++ 0 ∷ []) ++ rest = parts ∙ sym (append_assoc name (0 ∷ []) rest) in
    let g = front_seen (name ++ 0 ∷ []) rest other 0 seen (omega (arith, s, length-append name (0 ∷ [])))
    (subst (λ (xs : List ℕ). Agrees seen xs other) whole h) in
    let left = drop (length (name ++ 0 ∷ [])) other in
    inl (wrong_here p name left s k known is_name (g.parts ∙ append_assoc name (0 ∷ []) left) here is)
element_stays most value stay wrong named type bytes other place seen fault short (wrong_value name rest k known is_name parts right inner) h =
    let whole : bytes ≡ (name ++ 0 ∷ []) ++ rest = parts ∙ sym (append_assoc name (0 ∷ []) rest) in
    let size = length-append name (0 ∷ []) in
    let g = front_seen (name ++ 0 ∷ []) rest other inner.upto seen (omega (arith, inner.seen_is, size))
    (subst (λ (xs : List ℕ). Agrees seen xs other) whole h) in
    let left = drop (length (name ++ 0 ∷ [])) other in
    let v = stay k rest left inner.at inner.upto fault (omega (arith, short, ap length whole, length-append (name ++ 0 ∷ []) rest)) inner.inner g.agrees in
    still_is (Behind (length name + 2) (value k left)) (WrongElement value wrong named type other) place (suc seen) fault
    (λ p s f w. wrong_value name left k known is_name (g.parts ∙ append_assoc name (0 ∷ []) left) right w)
    (behind_still (length name + 2) (value k left) place (suc seen) inner.at inner.upto fault inner.place_is inner.seen_is v)

-- something of an element was seen
element_seen : (value : Kind → List ℕ → ℕ → ℕ → BsonFault → Type 0) (wrong : List ℕ → Bool) (named : BsonFault) (type : ℕ) (bytes : List ℕ) (place seen : ℕ)
    (fault : BsonFault)
    → WrongElement value wrong named type bytes place seen fault → (n : ℕ) × (seen ≡ suc n)
element_seen value wrong named type bytes place seen fault (wrong_type p s bad) = (0, s)
element_seen value wrong named type bytes place seen fault (wrong_name p s k known bad) = (zero_at bytes + 1, omega (arith, s))
element_seen value wrong named type bytes place seen fault (wrong_here p name rest s k known is_name parts here is) = (length name + 1, omega (arith, s))
element_seen value wrong named type bytes place seen fault (wrong_value name rest k known is_name parts right inner) =
    (length name + 1 + inner.upto, omega (arith, inner.seen_is))

-- an element with its type byte, where others stand for it
pub record OtherElement (value : Kind → List ℕ → ℕ → ℕ → BsonFault → Type 0) (wrong : List ℕ → Bool) (named : BsonFault) (other : List ℕ) (place seen : ℕ)
    (fault : BsonFault) : Type 0 where
  pub type : ℕ
  pub bytes : List ℕ
  pub is : other ≡ type ∷ bytes
  pub still : IsStill (WrongElement value wrong named type bytes) place seen fault

other_element : (most : ℕ) (value : Kind → List ℕ → ℕ → ℕ → BsonFault → Type 0) → ValuesStay most value
    → (wrong : List ℕ → Bool) (named : BsonFault) (type : ℕ) (bytes other : List ℕ) (place seen : ℕ) (fault : BsonFault)
    → length bytes < most → WrongElement value wrong named type bytes place seen fault → Agrees seen (type ∷ bytes) other
    → OtherElement value wrong named other place seen fault
other_element most value stay wrong named type bytes [] place seen fault short w h = absurd (omega (arith, h.long))
other_element most value stay wrong named type bytes (u ∷ other) place seen fault short w h =
    let n = element_seen value wrong named type bytes place seen fault w in
    let both = agrees_cons n.0 type u bytes other (subst (λ (k : ℕ). Agrees k (type ∷ bytes) (u ∷ other)) n.1 h) in
    let one = element_stays most value stay wrong named type bytes other place n.0 fault short
    (subst (λ (k : ℕ). WrongElement value wrong named type bytes place k fault) n.1 w) both.1 in
    record {
      type = u;
      bytes = other;
      is = refl;
      still = subst (λ (k : ℕ). IsStill (WrongElement value wrong named u other) place k fault) (sym n.1)
          (subst (λ (t : ℕ). IsStill (WrongElement value wrong named t other) place (suc n.0) fault) (sym both.0) one);
    }

abbrev pub ContentStays : ℕ → (List ℕ → ℕ → ℕ → BsonFault → Type 0) → Type 0
ContentStays most inner = (content other : List ℕ) (place seen : ℕ) (fault : BsonFault) → length content < most → inner content place seen fault
    → Agrees seen content other → IsStill (inner other) place seen fault

pub pairs_stay : (most more : ℕ) (value : Kind → List ℕ → ℕ → ℕ → BsonFault → Type 0) → ValuesStay most value → ContentStays most (WrongPair more value)
pairs_stay most more value stay content other place seen fault short w h =
    let x = pairs_bytes w.before in
    let inner = w.element in
    let size = ap length w.parts ∙ length-append x (w.type ∷ w.bytes) in
    let g = front_seen x (w.type ∷ w.bytes) other inner.upto seen inner.seen_is (subst (λ (xs : List ℕ). Agrees seen xs other) w.parts h) in
    let o = other_element most value stay (stands_in (tree_names w.before)) faults.Repeated w.type w.bytes (drop (length x) other) inner.at inner.upto fault
    (omega (arith, short, size)) inner.inner g.agrees in
    still_is (Behind (length x) (WrongElement value (stands_in (tree_names w.before)) faults.Repeated o.type o.bytes))
    (WrongPair more value other) place seen fault
    (λ p s f e. record {
      before = w.before;
      type = o.type;
      bytes = o.bytes;
      parts = g.parts ∙ ap (λ (xs : List ℕ). x ++ xs) o.is;
      lawful = w.lawful;
      depth = w.depth;
      element = e;
    })
    (behind_still (length x)
    (WrongElement value (stands_in (tree_names w.before)) faults.Repeated o.type o.bytes) place seen inner.at inner.upto fault inner.place_is inner.seen_is
    o.still)

pub items_stay : (most more : ℕ) (value : Kind → List ℕ → ℕ → ℕ → BsonFault → Type 0) → ValuesStay most value → ContentStays most (WrongItem more value)
items_stay most more value stay content other place seen fault short w h =
    let x = items_bytes 0 w.before in
    let inner = w.element in
    let size = ap length w.parts ∙ length-append x (w.type ∷ w.bytes) in
    let g = front_seen x (w.type ∷ w.bytes) other inner.upto seen inner.seen_is (subst (λ (xs : List ℕ). Agrees seen xs other) w.parts h) in
    let o = other_element most value stay (is_no_index (items_len w.before)) faults.ArrayName w.type w.bytes (drop (length x) other) inner.at inner.upto fault
    (omega (arith, short, size)) inner.inner g.agrees in
    still_is (Behind (length x) (WrongElement value (is_no_index (items_len w.before)) faults.ArrayName o.type o.bytes))
    (WrongItem more value other) place seen fault
    (λ p s f e. record {
      before = w.before;
      type = o.type;
      bytes = o.bytes;
      parts = g.parts ∙ ap (λ (xs : List ℕ). x ++ xs) o.is;
      lawful = w.lawful;
      depth = w.depth;
      element = e;
    })
    (behind_still (length x)
    (WrongElement value (is_no_index (items_len w.before)) faults.ArrayName o.type o.bytes) place seen inner.at inner.upto fault inner.place_is inner.seen_is
    o.still)
