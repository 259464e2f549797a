-- Names as they stand in elements: one more, those of pairs that are spelled, and names that ascend.
use Rattle.std.proofs.Common.{◌≡◌, ◌≢◌, ◌⊎◌, ℕ, zero, suc, ◌+◌, ◌^◌, ◌<◌, ◌≤◌, Bool, true, false, not, ◌||◌, Option, Some, None, List, [], ◌∷◌, ◌++◌, length}
use Rattle.std.proofs.Common.{take, drop, Result, Ok, Err, refl, sym, ap, subst, ◌∙◌, append_assoc, Bor, option_map, MatchOption, arith, inl, inr}
use Rattle.std.specs.Prelude.{IsTrue, nat_lt, nat_le, if◌then◌else◌}
use Rattle.std.specs.Str.{bytes_eq, is_utf8}
use Rattle.std.specs.Ordering.{nat_cmp, is_le, ordering_reverse}
use Rattle.std.specs.declared.cmp.Ordering.{Ordering}
use Rattle.std.specs.declared.cmp.Ordering.TheVariants as orders
use Rattle.std.specs.Cmp.Lexicographic.{slice_cmp}
use Rattle.std.specs.BTreeMap.Comparable.{le_lt_trans}
use Rattle.std.proofs.lemmas.Cmp.{nat_list_cmp_total}
use Rattle.std.proofs.lemmas.Bool.{cases_lt}
use Rattle.std.proofs.lemmas.List.{append-nil, length-append, length-drop, take_at, drop_at, nil_from_length}
use Rattle.bson.specs.Lookup.{stands_in}
use Rattle.bson_bytes.specs.Decoding.{zero_at, name_at, kind_of}
use Rattle.outcome.specs.Outcome.{unless}
use Rattle.bson_bytes.specs.Raw.{tree_names, len_at}
use Rattle.bson_bytes.specs.RawNames.{name_of, next_name, name_and, names_by, names_in, AreNew}
use Rattle.bson_bytes.specs.declared.fault.BsonFault.{BsonFault}
use Rattle.bson_bytes.specs.declared.fault.BsonFault.TheVariants as faults
use Rattle.bson.specs.declared.kind.Kind.{Kind}
use Rattle.std.proofs.lemmas.Bool.{leb-false}
use Rattle.bson.specs.Tree.{Tree, Pairs, no_pairs, pair}
use Rattle.bson.specs.Kinds.{kind}
use Rattle.bson.specs.Lawful.{NoZero, IsName, IsTree, IsPairs}
use Rattle.bson.specs.Spelling.{element, type_byte, tree_bytes, pairs_bytes}
use Rattle.bson.specs.SizingLaws.{pairs_bytes-none, pairs_bytes-pair, pairs_size-pair}
use Rattle.bson_bytes.specs.Raw.{pairs_spelled, Elements}
use Rattle.bson_bytes.proofs.FrameLaws.{unless_ok, ok_is, kind_again, zero_later}
use Rattle.bson_bytes.proofs.RawLaws.{tree_len, pairs_spelled-is}
use Rattle.bson.proofs.PushLaws.{bytes_eq-ne}

-- ---- one more name

abbrev Named : Type 0
Named = List ℕ × List ℕ

abbrev named : List ℕ → List ℕ → Option Named
named name rest = Some (name, rest)

some_is : (x y : Named) → Some x ≡ Some y → x ≡ y
some_is x y e = cc

next_shorter : (bytes : List ℕ) (x : Named) → next_name bytes ≡ Some x → length x.1 < length bytes
next_shorter [] x e = absurd cc
next_shorter (type ∷ bytes) x e = by (kind_of type) e
  where
    at : (b : Bool) (n : ℕ) (name value : List ℕ) → length value ≤ length bytes → (if b then named name (drop n value) else None) ≡ Some x
        → length x.1 < suc (length bytes)
    at true n name value le e = let same : ◌≡◌ {A = Named} (name, drop n value) x = some_is (name, drop n value) x e in
        omega (arith, ap (λ (y : Named). length y.1) same, length-drop n value)
    at false n name value le e = absurd cc

    by : (r : Result Kind BsonFault) → name_of r bytes ≡ Some x → length x.1 < suc (length bytes)
    by (Ok k) e =
        at (nat_lt (zero_at bytes) (length bytes)) (len_at k (drop (zero_at bytes + 1) bytes)) (take (zero_at bytes) bytes) (drop (zero_at bytes + 1) bytes)
        (omega (arith, length-drop (zero_at bytes + 1) bytes)) e
    by (Err f) e = absurd cc

names_bound : (m n : ℕ) (bytes : List ℕ) → length bytes ≤ m → length bytes ≤ n → names_by m bytes ≡ names_by n bytes
unfolding names_by
names_bound zero zero bytes le le2 = refl
names_bound zero (suc n) [] le le2 = refl
names_bound zero (suc n) (b ∷ bytes) le le2 = absurd (omega arith)
names_bound (suc m) zero [] le le2 = refl
names_bound (suc m) zero (b ∷ bytes) le le2 = absurd (omega arith)
names_bound (suc m) (suc n) bytes le le2 = by (next_name bytes) (λ x e. let lt = next_shorter bytes x e in names_bound m n x.1 (omega arith) (omega arith))
  where
    by : (o : Option Named) → ((x : Named) → o ≡ Some x → names_by m x.1 ≡ names_by n x.1) → name_and (names_by m) o ≡ name_and (names_by n) o
    by None later = refl
    by (Some x) later = ap (λ (ns : List (List ℕ)). x.0 ∷ ns) (later x refl)

pub names_more : (bytes : List ℕ) (x : Named) → next_name bytes ≡ Some x → names_in bytes ≡ x.0 ∷ names_in x.1
unfolding names_by
names_more [] x e = absurd cc
names_more (type ∷ bytes) x e = ap (name_and (names_by (length bytes))) e
    ∙ ap (λ (ns : List (List ℕ)). x.0 ∷ ns)
    (names_bound (length bytes) (length x.1) x.1 (let lt = next_shorter (type ∷ bytes) x e in omega arith) (omega arith))

-- ---- names that ascend

abbrev before : List ℕ → List ℕ → Ordering
before a b = slice_cmp nat_cmp a b

-- none is above this one
abbrev AreUpTo : List (List ℕ) → List ℕ → Type 0
AreUpTo [] last = Unit {0}
AreUpTo (n ∷ ns) last = IsTrue (is_le (before n last)) × AreUpTo ns last

le_self : (name : List ℕ) → before name name ≡ orders.Equal
le_self name = by (before name name) (nat_list_cmp_total.antisymm name name)
  where
    by : (o : Ordering) → o ≡ ordering_reverse o → o ≡ orders.Equal
    by orders.Less e = absurd cc
    by orders.Equal e = refl
    by orders.Greater e = absurd cc

up_to_more : (ns : List (List ℕ)) (last name : List ℕ) → AreUpTo ns last → before last name ≡ orders.Less → AreUpTo (ns ++ name ∷ []) name
up_to_more [] last name h lt = (subst (λ (o : Ordering). IsTrue (is_le o)) (sym (le_self name)) refl, tt)
up_to_more (n ∷ ns) last name h lt =
    (subst (λ (o : Ordering). IsTrue (is_le o)) (sym (le_lt_trans nat_list_cmp_total n last name h.0 lt)) refl, up_to_more ns last name h.1 lt)

-- a name above all is none of them
above_all : (ns : List (List ℕ)) (last name : List ℕ) → AreUpTo ns last → before last name ≡ orders.Less → stands_in ns name ≡ false
above_all [] last name h lt = refl
above_all (n ∷ ns) last name h lt = rw (bytes_eq-ne name n differ, above_all ns last name h.1 lt) refl
  where
    below : before n name ≡ orders.Less
    below = le_lt_trans nat_list_cmp_total n last name h.0 lt

    differ : name ≢ n
    differ e = let both : orders.Less ≡ orders.Equal = sym below ∙ ap (λ (m : List ℕ). before m name) (sym e) ∙ le_self name in absurd cc

-- the names up to the rest, in ascending order
pub record Ascending (names : List ℕ → List (List ℕ)) (count : ℕ) (last rest elements : List ℕ) : Type 0 where
  pub front : List (List ℕ)
  pub parts : names elements ≡ front ++ names rest
  pub counted : length front ≡ count
  pub below : AreUpTo front last
  pub new : (later : List (List ℕ)) → AreNew count (front ++ later)
  pub within : count + length rest ≤ length elements

pub ascending_start : (names : List ℕ → List (List ℕ)) (elements : List ℕ) → Ascending names 0 [] elements elements
ascending_start names elements = record
    { front = []; parts = refl; counted = refl; below = tt; new = λ later earlier name others e lt. absurd (omega arith); within = omega arith }

append_front : (xs ys zs ws : List (List ℕ)) → length xs ≡ length zs → xs ++ ys ≡ zs ++ ws → (xs ≡ zs) × (ys ≡ ws)
append_front [] ys [] ws len e = (refl, e)
append_front [] ys (z ∷ zs) ws len e = absurd (omega arith)
append_front (x ∷ xs) ys [] ws len e = absurd (omega arith)
append_front (x ∷ xs) ys (z ∷ zs) ws len e =
    let head : x ≡ z = cc in
    let rest : xs ++ ys ≡ zs ++ ws = cc in
    let more = append_front xs ys zs ws (omega arith) rest in
    ((λ i. head i ∷ more.0 i), more.1)

-- one more new name
pub new_more : (count : ℕ) (front : List (List ℕ)) (name : List ℕ) → length front ≡ count → ((later : List (List ℕ)) → AreNew count (front ++ later))
    → stands_in front name ≡ false → (later : List (List ℕ)) → AreNew (count + 1) ((front ++ name ∷ []) ++ later)
new_more count front name counted new fresh later earlier n others e lt = by (cases_lt (length earlier) count)
  where
    whole : (front ++ name ∷ []) ++ later ≡ front ++ name ∷ later
    whole = append_assoc front (name ∷ []) later

    by : (length earlier < count) ⊎ (count ≤ length earlier) → stands_in earlier n ≡ false
    by (inl less) = new (name ∷ later) earlier n others (sym whole ∙ e) less
    by (inr same) =
        let parts = append_front earlier (n ∷ others) front (name ∷ later) (omega (arith, counted)) (sym e ∙ whole) in
        let one : n ≡ name = let f = parts.1 in cc in
        (λ i. stands_in (parts.0 i) (one i)) ∙ fresh

pub ascending_more : (names : List ℕ → List (List ℕ)) (count : ℕ) (last rest elements name after : List ℕ) → Ascending names count last rest elements
    → (names rest ≡ name ∷ names after) × (length after < length rest) → (count ≡ 0) ⊎ (before last name ≡ orders.Less)
    → Ascending names (count + 1) name after elements
ascending_more names count last rest elements name after a found above =
    record {
      front = a.front ++ name ∷ [];
      parts = a.parts ∙ ap (λ (ns : List (List ℕ)). a.front ++ ns) found.0 ∙ sym (append_assoc a.front (name ∷ []) (names after));
      counted = length-append a.front (name ∷ []) ∙ omega (arith, a.counted);
      below = up above;
      new = new_more count a.front name a.counted a.new (fresh above);
      within = omega (arith, a.within, found.1);
    }
  where
    none : count ≡ 0 → a.front ≡ []
    none e = nil_from_length a.front (a.counted ∙ e)

    up : (count ≡ 0) ⊎ (before last name ≡ orders.Less) → AreUpTo (a.front ++ name ∷ []) name
    up (inl zero_count) =
        subst (λ (ns : List (List ℕ)). AreUpTo (ns ++ name ∷ []) name) (sym (none zero_count))
        (subst (λ (o : Ordering). IsTrue (is_le o)) (sym (le_self name)) refl, tt)
    up (inr lt) = up_to_more a.front last name a.below lt

    fresh : (count ≡ 0) ⊎ (before last name ≡ orders.Less) → stands_in a.front name ≡ false
    fresh (inl zero_count) = ap (λ (ns : List (List ℕ)). stands_in ns name) (none zero_count)
    fresh (inr lt) = above_all a.front last name a.below lt

pub ascending_new : (names : List ℕ → List (List ℕ)) (count : ℕ) (last rest elements : List ℕ) → Ascending names count last rest elements
    → AreNew count (names elements)
ascending_new names count last rest elements a = subst (AreNew count) (sym a.parts) (a.new (names rest))

pub ascending_next : (names : List ℕ → List (List ℕ)) (count : ℕ) (last rest elements name after : List ℕ) (above first : Bool)
    → Ascending names count last rest elements → (names rest ≡ name ∷ names after) × (length after < length rest) → above ≡ true
    → (above ≡ true → (first ≡ true) ⊎ (before last name ≡ orders.Less)) → (first ≡ true → count ≡ 0) → Ascending names (count + 1) name after elements
ascending_next names count last rest elements name after above first a found is means none =
    ascending_more names count last rest elements name after a found (by (means is))
  where
    by : (first ≡ true) ⊎ (before last name ≡ orders.Less) → (count ≡ 0) ⊎ (before last name ≡ orders.Less)
    by (inl e) = inl (none e)
    by (inr lt) = inr lt

-- ---- the names of pairs that are spelled

zero_of : (name rest : List ℕ) → NoZero name → zero_at (name ++ 0 ∷ rest) ≡ length name
zero_of [] rest h = refl
zero_of (zero ∷ name) rest h = absurd (h.0 refl)
zero_of (suc b ∷ name) rest h = zero_later b (name ++ 0 ∷ rest) ∙ ap suc (zero_of name rest h.1)

lt-nat_lt : (a b : ℕ) → a < b → nat_lt a b ≡ true
lt-nat_lt a b lt = grind arith

name_is : (k : Kind) (bytes name value rest : List ℕ) → zero_at bytes < length bytes → take (zero_at bytes) bytes ≡ name
    → drop (zero_at bytes + 1) bytes ≡ value → drop (len_at k value) value ≡ rest → name_of (Ok k) bytes ≡ Some (name, rest)
name_is k bytes name value rest lt e1 e2 e3 =
    ap (λ (b : Bool). if b then named (take (zero_at bytes) bytes) (drop (len_at k (drop (zero_at bytes + 1) bytes)) (drop (zero_at bytes + 1) bytes))
    else None) (lt-nat_lt (zero_at bytes) (length bytes) lt)
    ∙ (λ i. named (e1 i) ((ap (λ (v : List ℕ). drop (len_at k v) v) e2 ∙ e3) i))

element_name : (name : List ℕ) (t : Tree) (rest : List ℕ) → IsName name → IsTree t → length (tree_bytes t) < 2 ^ 31
    → next_name (type_byte t ∷ (name ++ 0 ∷ (tree_bytes t ++ rest))) ≡ Some (name, rest)
element_name name t rest is_name lawful short =
    let value = tree_bytes t ++ rest in
    let bytes = name ++ 0 ∷ value in
    let z = zero_of name value is_name.no_zero in
    let behind : drop (length name + 1) bytes ≡ value =
    ap (drop (length name + 1)) (sym (append_assoc name (0 ∷ []) value)) ∙ drop_at (name ++ 0 ∷ []) value (length name + 1) (length-append name (0 ∷ [])) in
    let len = tree_len t rest lawful short in
    ap (λ (r : Result Kind BsonFault). name_of r bytes) (kind_again (kind t))
    ∙ name_is (kind t) bytes name value rest (omega (arith, z, length-append name (0 ∷ value)))
    (ap (λ (n : ℕ). take n bytes) z ∙ take_at name (0 ∷ value) (length name) refl) (ap (λ (n : ℕ). drop (n + 1) bytes) z ∙ behind)
    (drop_at (tree_bytes t) rest (len_at (kind t) value) (sym len))

names_front : (ps : Pairs) (tail : List ℕ) → IsPairs ps → length (pairs_bytes ps) < 2 ^ 31 → names_in (pairs_bytes ps ++ tail) ≡ tree_names ps ++ names_in tail
names_front no_pairs tail lawful short = ap (λ (xs : List ℕ). names_in (xs ++ tail)) pairs_bytes-none
names_front (pair name t ps) tail lawful short =
    let rest = pairs_bytes ps ++ tail in
    let size = pairs_size-pair name t ps in
    let whole : pairs_bytes (pair name t ps) ++ tail ≡ type_byte t ∷ (name ++ 0 ∷ (tree_bytes t ++ rest)) =
    ap (λ (xs : List ℕ). xs ++ tail) (pairs_bytes-pair name t ps) ∙ append_assoc (element (type_byte t) name (tree_bytes t)) (pairs_bytes ps) tail
    ∙ ap (λ (xs : List ℕ). type_byte t ∷ xs) (append_assoc name (0 ∷ tree_bytes t) rest) in
    ap names_in whole
    ∙ names_more (type_byte t ∷ (name ++ 0 ∷ (tree_bytes t ++ rest))) (name, rest) (element_name name t rest lawful.0 lawful.1 (omega (arith, short, size)))
    ∙ ap (λ (ns : List (List ℕ)). name ∷ ns) (names_front ps tail lawful.3 (omega (arith, short, size)))

-- the name that is read at the front stands there
name_zero : (bytes : List ℕ) (x : Named) → name_at bytes ≡ Ok x → (zero_at bytes < length bytes) × (take (zero_at bytes) bytes ≡ x.0)
unfolding name_at
name_zero bytes x e =
    let z = zero_at bytes in
    let made : Named = (take z bytes, drop (z + 1) bytes) in
    let a = unless_ok (nat_le (length bytes) z) faults.Name (unless (not (is_utf8 (take z bytes))) faults.Name (Ok made)) x e in
    let b = unless_ok (not (is_utf8 (take z bytes))) faults.Name (Ok made) x a.1 in
    let same : made ≡ x = ok_is made x b.1 in
    (leb-false (length bytes) z a.0, ap (λ (y : Named). y.0) same)

-- the next name is new where it is one of the first so many
pub new_here : (content earlier bytes : List ℕ) (type known count : ℕ) (front : Pairs) (k : Kind) (x : Named) → content ≡ pairs_bytes front ++ type ∷ bytes
    → IsPairs front → length (pairs_bytes front) < 2 ^ 31 → Elements earlier front → count ≡ length (tree_names front)
    → AreNew known (names_in content) → count < known → kind_of type ≡ Ok k → name_at bytes ≡ Ok x → stands_in (tree_names (pairs_spelled earlier)) x.0 ≡ false
new_here content earlier bytes type known count front k x parts lawful short before counted new lt kinded read =
    let name = name_zero bytes x read in
    let value = drop (zero_at bytes + 1) bytes in
    let rest = drop (len_at k value) value in
    let next : next_name (type ∷ bytes) ≡ Some (x.0, rest) =
    ap (λ (r : Result Kind BsonFault). name_of r bytes) kinded ∙ name_is k bytes x.0 value rest name.0 name.1 refl refl in
    let all : names_in content ≡ tree_names front ++ x.0 ∷ names_in rest =
    ap names_in parts ∙ names_front front (type ∷ bytes) lawful short
    ∙ ap (λ (ns : List (List ℕ)). tree_names front ++ ns) (names_more (type ∷ bytes) (x.0, rest) next) in
    ap (λ (ps : Pairs). stands_in (tree_names ps) x.0) (pairs_spelled-is earlier front before)
    ∙ new (tree_names front) x.0 (names_in rest) all (omega (arith, counted, lt))

names_none : names_in [] ≡ []
unfolding names_by
names_none = refl

append-none : (ns : List (List ℕ)) → ns ++ [] ≡ ns
append-none [] = refl
append-none (n ∷ ns) = ap (λ (ms : List (List ℕ)). n ∷ ms) (append-none ns)

-- the names of elements that spell pairs
pub names_spelled : (elements : List ℕ) → Elements elements (pairs_spelled elements) → names_in elements ≡ tree_names (pairs_spelled elements)
names_spelled elements e =
    let ps = pairs_spelled elements in
    let whole : elements ≡ pairs_bytes ps ++ [] = e.spelled ∙ sym (append-nil (pairs_bytes ps)) in
    ap names_in whole ∙ names_front ps [] e.lawful (omega (arith, ap length e.spelled, e.short)) ∙ ap (λ (ns : List (List ℕ)). tree_names ps ++ ns) names_none
    ∙ append-none (tree_names ps)

-- one more name that is another one, or is the one
pub other_name : (bytes name other after : List ℕ) → Some (other, after) ≡ next_name bytes
    → stands_in (names_in bytes) name ≡ (bytes_eq name other || stands_in (names_in after) name)
other_name bytes name other after e = ap (λ (ns : List (List ℕ)). stands_in ns name) (names_more bytes (other, after) (sym e))

pub no_name : (bytes name : List ℕ) → None ≡ next_name bytes → stands_in (names_in bytes) name ≡ false
unfolding names_by
no_name [] name e = refl
no_name (type ∷ bytes) name e = ap (λ (o : Option Named). stands_in (name_and (names_by (length bytes)) o) name) (sym e)

pub after_shorter : (bytes other after : List ℕ) → Some (other, after) ≡ next_name bytes → length after < length bytes
after_shorter bytes other after e = next_shorter bytes (other, after) (sym e)

-- no names are left
none_left : (bytes : List ℕ) → None ≡ next_name bytes → names_in bytes ≡ []
unfolding names_by
none_left [] e = refl
none_left (type ∷ bytes) e = ap (name_and (names_by (length bytes))) (sym e)

-- what splitting off a name gives, as the loops take it
pub name_split : (found : Option (Bor (List ℕ) × Bor (List ℕ))) (bytes : List ℕ) → option_map (λ x. (x.0.now, x.1.now)) found ≡ next_name bytes
    → MatchOption found (names_in bytes ≡ []) (λ x. (names_in bytes ≡ x.0.now ∷ names_in x.1.now) × (length x.1.now < length bytes))
name_split None bytes e = none_left bytes e
name_split (Some x) bytes e = (names_more bytes (x.0.now, x.1.now) (sym e), next_shorter bytes (x.0.now, x.1.now) (sym e))
