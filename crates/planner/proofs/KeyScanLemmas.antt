-- Behind the text of a value stands what follows it, in either direction.
use Rattle.std.proofs.Common.{◌≡◌, ◌≢◌, ℕ, zero, suc, ◌+◌, ◌^◌, ◌<◌, ◌≤◌, Bool, true, false, List, [], ◌∷◌, ◌++◌, length, map, drop, Option, Some, None, inl}
use Rattle.std.proofs.Common.{inr, refl, ◌∙◌, ap, subst, arith, append_assoc, length-append}
use Rattle.std.specs.Prelude.{◌==◌, if◌then◌else◌}
use Rattle.std.specs.Fmt.{decimal}
use Rattle.std.specs.Int.{w32, w64, to_be_bytes, from_be_bytes}
use Rattle.std.specs.Option.{option_and_then}
use Rattle.std.proofs.Math.Seq.{drop-append_seam}
use Rattle.std.proofs.lemmas.Bool.{le-ltb}
use Rattle.std.proofs.lemmas.Bool.Decides.{eqb_tells}
use Rattle.std.proofs.lemmas.List.{length-map, map-append}
use Rattle.std.proofs.lemmas.Nat.{from_be_bytes-to_be_bytes_4}
use Rattle.bson.specs.Tree.{Scalar, text, binary, object_id, boolean, date, null, int32, timestamp, int64, min_key, max_key, Tree, scalar, document, array}
use Rattle.bson.specs.Tree.{Pairs, no_pairs, pair, Items, no_items, item}
use Rattle.bson.specs.Lawful.{NoZero, IsScalar, IsTree, IsPairs, IsItems}
use Rattle.bson.specs.Spelling.{tree_bytes, pairs_bytes, items_bytes}
use Rattle.value_order.specs.CodingLaws.{class_above}
use Rattle.value_order.specs.KeyText.{escaped_text, sortable_bits, scalar_text, content_text, pairs_text, items_text, tree_text, key_text, directed_text}
use Rattle.value_order.specs.Laws.{IsKey}
use Rattle.value_order.specs.Order.{scalar_class, class, Key, empty_array, value}
use Rattle.value_order.specs.declared.texts.Direction.{Direction}
use Rattle.value_order.specs.declared.texts.Direction.TheVariants.{Ascending, Descending}
use Rattle.value_order.proofs.ByteLaws.{high_bytes}
use Rattle.value_order.proofs.InversionLaws.{AreBytes}
use Rattle.value_order.proofs.ScalarLaws.{IsSized}
use Rattle.index.specs.Definition.{Field}
use Rattle.index.specs.KeyTexts.{key_bytes}
use Rattle.index.specs.Laws.{IsIndexKey}
use Rattle.planner.specs.KeyScan.{plain, behind, behind_name, behind_string, number_in, behind_binary, behind_scalar, by_class, behind_value, behind_pairs}
use Rattle.planner.specs.KeyScan.{behind_items, behind_fields}
use Rattle.planner.specs.KeyScanLaws.{FindsIdText}

-- ---- bytes in a direction

abbrev turned : Direction → List ℕ → List ℕ
turned d bs = map (plain d) bs

plain_back : (d : Direction) (b : ℕ) → b < 256 → plain d (plain d b) ≡ b
plain_back Ascending b h = refl
plain_back Descending b h = omega (arith, h)

plain_above : (d : Direction) (b : ℕ) → b ≢ 0 → plain d (plain d b) ≢ 0
plain_above Ascending b h = h
plain_above Descending b h = λ e. h (omega (arith, e))

pub not_equal : (b : ℕ) → b ≢ 0 → (b == 0) ≡ false
not_equal b h = elim (eqb_tells b 0) [ inl p ↦ absurd (h p.1) | inr p ↦ p.0 ]

not_zero : (d : Direction) (b : ℕ) → b ≢ 0 → (plain d (plain d b) == 0) ≡ false
not_zero d b h = not_equal (plain d (plain d b)) (plain_above d b h)

is_zero : (d : Direction) → (plain d (plain d 0) == 0) ≡ true
is_zero Ascending = refl
is_zero Descending = refl

all_back : (d : Direction) (bs : List ℕ) → AreBytes bs → map (plain d) (turned d bs) ≡ bs
all_back d [] h = refl
all_back d (b ∷ bs) h = λ i. plain_back d b h.0 i ∷ all_back d bs h.1 i

turned_append : (d : Direction) (xs ys rest : List ℕ) → turned d (xs ++ ys) ++ rest ≡ turned d xs ++ (turned d ys ++ rest)
turned_append d xs ys rest = ap (λ (zs : List ℕ). zs ++ rest) (map-append (plain d) xs ys) ∙ append_assoc (turned d xs) (turned d ys) rest

turned_length : (d : Direction) (bs : List ℕ) → length (turned d bs) ≡ length bs
turned_length d bs = length-map bs (plain d)

-- ---- what holds no other value

behind_these : (xs rest : List ℕ) (n : ℕ) → length xs ≡ n → behind n (xs ++ rest) ≡ Some rest
behind_these xs rest n e = subst (λ (n : ℕ). behind n (xs ++ rest) ≡ Some rest) e here
  where
    here : behind (length xs) (xs ++ rest) ≡ Some rest
    here =
        (λ i. if le-ltb (length (xs ++ rest)) (length xs) (omega (arith, length-append xs rest)) i then None else Some (drop (length xs) (xs ++ rest)))
        ∙ ap Some (drop-append_seam xs rest)

behind_turned : (d : Direction) (bs rest : List ℕ) (n : ℕ) → length bs ≡ n → behind n (turned d bs ++ rest) ≡ Some rest
behind_turned d bs rest n e = behind_these (turned d bs) rest n (turned_length d bs ∙ e)

name_behind : (d : Direction) (n xs rest : List ℕ) → NoZero n → behind_name d (turned d (n ++ 0 ∷ xs) ++ rest) ≡ Some (turned d xs ++ rest)
name_behind d [] xs rest h = ap (λ (c : Bool). if c then Some (turned d xs ++ rest) else behind_name d (turned d xs ++ rest)) (is_zero d)
name_behind d (b ∷ n) xs rest h =
    ap (λ (c : Bool). if c then Some (turned d (n ++ 0 ∷ xs) ++ rest) else behind_name d (turned d (n ++ 0 ∷ xs) ++ rest)) (not_zero d b h.0)
    ∙ name_behind d n xs rest h.1

string_behind : (d : Direction) (s rest : List ℕ) → behind_string d false (turned d (escaped_text s) ++ rest) ≡ Some rest
string_behind Ascending [] rest = refl
string_behind Descending [] rest = refl
string_behind Ascending (zero ∷ s) rest = string_behind Ascending s rest
string_behind Descending (zero ∷ s) rest = string_behind Descending s rest
string_behind d (suc b ∷ s) rest =
    ap (λ (c : Bool). if c then behind_string d true (turned d (escaped_text s) ++ rest) else behind_string d false (turned d (escaped_text s) ++ rest))
    (not_zero d (suc b) (omega arith))
    ∙ string_behind d s rest

binary_behind : (d : Direction) (kind : ℕ) (bytes rest : List ℕ) → length bytes < 2 ^ 32
    → behind_binary d (turned d (to_be_bytes w32 (length bytes) ++ kind ∷ bytes) ++ rest) ≡ Some rest
binary_behind d kind bytes rest small =
    (λ i. if le-ltb (length (turned d (to_be_bytes w32 (length bytes) ++ kind ∷ bytes) ++ rest)) 4 (omega arith) i then None
    else behind (number i + 1) (turned d (kind ∷ bytes) ++ rest))
    ∙ behind_turned d (kind ∷ bytes) rest (length bytes + 1) (omega arith)
  where
    number : number_in d (turned d (to_be_bytes w32 (length bytes) ++ kind ∷ bytes) ++ rest) ≡ length bytes
    number = ap (from_be_bytes w32) (all_back d (to_be_bytes w32 (length bytes)) (high_bytes 4 (length bytes)))
        ∙ from_be_bytes-to_be_bytes_4 (length bytes) small

scalar_behind : (d : Direction) (s : Scalar) (rest : List ℕ) → IsScalar s → IsSized s
    → behind_scalar d (scalar_class s) (turned d (scalar_text s) ++ rest) ≡ Some rest
scalar_behind d (int32 z) rest h sized = behind_turned d (to_be_bytes w64 (sortable_bits z)) rest 8 refl
scalar_behind d (int64 z) rest h sized = behind_turned d (to_be_bytes w64 (sortable_bits z)) rest 8 refl
scalar_behind d (date z) rest h sized = behind_turned d (to_be_bytes w64 (sortable_bits z)) rest 8 refl
scalar_behind d (timestamp n) rest h sized = behind_turned d (to_be_bytes w64 n) rest 8 refl
scalar_behind d (text s) rest h sized = string_behind d s rest
scalar_behind d (binary kind bytes) rest h sized = binary_behind d kind bytes rest sized
scalar_behind d (object_id bytes) rest h sized = behind_turned d bytes rest 12 h.0
scalar_behind d (boolean b) rest h sized = behind_turned d ((if b then 1 else 0) ∷ []) rest 1 refl
scalar_behind d null rest h sized = refl
scalar_behind d min_key rest h sized = refl
scalar_behind d max_key rest h sized = refl

-- ---- a step

value_step : (d : Direction) (steps b : ℕ) (bs rest : List ℕ) → 1 ≤ steps
    → ((n : ℕ) → suc n ≡ steps → by_class (plain d b) (behind_pairs d n bs) (behind_items d n bs) (behind_scalar d (plain d b) bs) ≡ Some rest)
    → behind_value d steps (b ∷ bs) ≡ Some rest
value_step d zero b bs rest some step = absurd (omega (arith, some))
value_step d (suc n) b bs rest some step = step n refl

pairs_step : (d : Direction) (steps b : ℕ) (bs rest : List ℕ) → 1 ≤ steps
    → ((n : ℕ) → suc n ≡ steps
    → (if plain d b == 0 then Some bs else option_and_then (behind_pairs d n) (option_and_then (behind_value d n) (behind_name d bs))) ≡ Some rest)
    → behind_pairs d steps (b ∷ bs) ≡ Some rest
pairs_step d zero b bs rest some step = absurd (omega (arith, some))
pairs_step d (suc n) b bs rest some step = step n refl

items_step : (d : Direction) (steps b : ℕ) (bs rest : List ℕ) → 1 ≤ steps
    → ((n : ℕ) → suc n ≡ steps → (if plain d b == 0 then Some bs else option_and_then (behind_items d n) (behind_value d n (b ∷ bs))) ≡ Some rest)
    → behind_items d steps (b ∷ bs) ≡ Some rest
items_step d zero b bs rest some step = absurd (omega (arith, some))
items_step d (suc n) b bs rest some step = step n refl

-- a scalar's class is neither that of documents nor that of arrays
scalar_way : (s : Scalar) (a b c : Option (List ℕ)) → by_class (scalar_class s) a b c ≡ c
scalar_way (int32 z) a b c = refl
scalar_way (int64 z) a b c = refl
scalar_way (date z) a b c = refl
scalar_way (timestamp n) a b c = refl
scalar_way (text s) a b c = refl
scalar_way (binary kind bytes) a b c = refl
scalar_way (object_id bytes) a b c = refl
scalar_way (boolean t) a b c = refl
scalar_way null a b c = refl
scalar_way min_key a b c = refl
scalar_way max_key a b c = refl

class_below : (t : Tree) → class t < 256
class_below (scalar (text s)) = omega arith
class_below (scalar (binary k b)) = omega arith
class_below (scalar (object_id b)) = omega arith
class_below (scalar (boolean b)) = omega arith
class_below (scalar (date z)) = omega arith
class_below (scalar null) = omega arith
class_below (scalar (int32 z)) = omega arith
class_below (scalar (timestamp n)) = omega arith
class_below (scalar (int64 z)) = omega arith
class_below (scalar min_key) = omega arith
class_below (scalar max_key) = omega arith
class_below (document ps) = omega arith
class_below (array ts) = omega arith

sized : (s : Scalar) → length (tree_bytes (scalar s)) < 2 ^ 32 → IsSized s
unfolding tree_bytes
sized (binary k b) h = omega (arith, h)
sized other h = tt

-- a zero ends the items of an array
items_some : (ts : Items) → 1 ≤ length (items_text ts)
items_some no_items = omega arith
items_some (item t ts) = omega arith

-- ---- values

mutual
  unfolding tree_bytes pairs_bytes items_bytes

  value_behind : (t : Tree) (d : Direction) (steps : ℕ) (rest : List ℕ) → IsTree t → length (tree_bytes t) < 2 ^ 32 → length (tree_text t) ≤ steps
      → behind_value d steps (turned d (tree_text t) ++ rest) ≡ Some rest
  value_behind (scalar s) d steps rest h small fits =
      value_step d steps (plain d (scalar_class s)) (turned d (scalar_text s) ++ rest) rest (omega (arith, fits)) (λ n e.
      (λ i. by_class (plain_back d (scalar_class s) (class_below (scalar s)) i) (behind_pairs d n (turned d (scalar_text s) ++ rest))
      (behind_items d n (turned d (scalar_text s) ++ rest))
      (behind_scalar d (plain_back d (scalar_class s) (class_below (scalar s)) i) (turned d (scalar_text s) ++ rest)))
      ∙ scalar_way s (behind_pairs d n (turned d (scalar_text s) ++ rest)) (behind_items d n (turned d (scalar_text s) ++ rest))
      (behind_scalar d (scalar_class s) (turned d (scalar_text s) ++ rest))
      ∙ scalar_behind d s rest h (sized s small))
  value_behind (document ps) d steps rest h small fits =
      value_step d steps (plain d 0x50) (turned d (pairs_text ps) ++ rest) rest (omega (arith, fits)) (λ n e.
      (λ i. by_class (plain_back d 0x50 (omega arith) i) (behind_pairs d n (turned d (pairs_text ps) ++ rest))
      (behind_items d n (turned d (pairs_text ps) ++ rest))
      (behind_scalar d (plain_back d 0x50 (omega arith) i) (turned d (pairs_text ps) ++ rest)))
      ∙ pairs_behind ps d n rest h (omega (arith, small, length-append (pairs_bytes ps) (0 ∷ []))) (omega (arith, fits, e)))
  value_behind (array ts) d steps rest h small fits =
      value_step d steps (plain d 0x60) (turned d (items_text ts) ++ rest) rest (omega (arith, fits)) (λ n e.
      (λ i. by_class (plain_back d 0x60 (omega arith) i) (behind_pairs d n (turned d (items_text ts) ++ rest))
      (behind_items d n (turned d (items_text ts) ++ rest))
      (behind_scalar d (plain_back d 0x60 (omega arith) i) (turned d (items_text ts) ++ rest)))
      ∙ items_behind ts d n 0 rest h (omega (arith, small, length-append (items_bytes 0 ts) (0 ∷ []))) (omega (arith, fits, e)))

  pairs_behind : (ps : Pairs) (d : Direction) (steps : ℕ) (rest : List ℕ) → IsPairs ps → length (pairs_bytes ps) < 2 ^ 32 → length (pairs_text ps) ≤ steps
      → behind_pairs d steps (turned d (pairs_text ps) ++ rest) ≡ Some rest
  pairs_behind no_pairs d steps rest h small fits =
      pairs_step d steps (plain d 0) rest rest (omega (arith, fits)) (λ n e.
      ap (λ (c : Bool). if c then Some rest else option_and_then (behind_pairs d n) (option_and_then (behind_value d n) (behind_name d rest))) (is_zero d))
  pairs_behind (pair name t ps) d steps rest h small fits =
      let after : List ℕ = tree_text t ++ pairs_text ps in
      let long : length (name ++ 0 ∷ after) ≡ length name + (1 + (length (tree_text t) + length (pairs_text ps))) =
      length-append name (0 ∷ after) ∙ ap (λ (k : ℕ). length name + k) (omega (arith, length-append (tree_text t) (pairs_text ps))) in
      pairs_step d steps (plain d (class t)) (turned d (name ++ 0 ∷ after) ++ rest) rest (omega (arith, fits)) (λ n e.
      ap (λ (c : Bool). if c then Some (turned d (name ++ 0 ∷ after) ++ rest)
      else option_and_then (behind_pairs d n) (option_and_then (behind_value d n) (behind_name d (turned d (name ++ 0 ∷ after) ++ rest))))
      (not_zero d (class t) (λ z. omega (arith, z, class_above t)))
      ∙ ap (λ (o : Option (List ℕ)). option_and_then (behind_pairs d n) (option_and_then (behind_value d n) o)) (name_behind d name after rest h.0.no_zero)
      ∙ ap (λ (xs : List ℕ). option_and_then (behind_pairs d n) (behind_value d n xs)) (turned_append d (tree_text t) (pairs_text ps) rest)
      ∙ ap (λ (o : Option (List ℕ)). option_and_then (behind_pairs d n) o)
      (value_behind t d n (turned d (pairs_text ps) ++ rest) h.1
      (omega (arith, small, length-append (name ++ 0 ∷ tree_bytes t) (pairs_bytes ps), length-append name (0 ∷ tree_bytes t))) (omega (arith, fits, e, long)))
      ∙ pairs_behind ps d n rest h.3
      (omega (arith, small, length-append (name ++ 0 ∷ tree_bytes t) (pairs_bytes ps))) (omega (arith, fits, e, long)))

  items_behind : (ts : Items) (d : Direction) (steps i : ℕ) (rest : List ℕ) → IsItems ts → length (items_bytes i ts) < 2 ^ 32 → length (items_text ts) ≤ steps
      → behind_items d steps (turned d (items_text ts) ++ rest) ≡ Some rest
  items_behind no_items d steps i rest h small fits =
      items_step d steps (plain d 0) rest rest (omega (arith, fits)) (λ n e.
      ap (λ (c : Bool). if c then Some rest else option_and_then (behind_items d n) (behind_value d n (plain d 0 ∷ rest))) (is_zero d))
  items_behind (item t ts) d steps i rest h small fits =
      let long : length (content_text t ++ items_text ts) ≡ length (content_text t) + length (items_text ts) = length-append (content_text t) (items_text ts) in
      items_step d steps (plain d (class t)) (turned d (content_text t ++ items_text ts) ++ rest) rest (omega (arith, fits)) (λ n e.
      ap (λ (c : Bool). if c then Some (turned d (content_text t ++ items_text ts) ++ rest)
      else option_and_then (behind_items d n) (behind_value d n (turned d (tree_text t ++ items_text ts) ++ rest)))
      (not_zero d (class t) (λ z. omega (arith, z, class_above t)))
      ∙ ap (λ (xs : List ℕ). option_and_then (behind_items d n) (behind_value d n xs)) (turned_append d (tree_text t) (items_text ts) rest)
      ∙ ap (λ (o : Option (List ℕ)). option_and_then (behind_items d n) o)
      (value_behind t d n (turned d (items_text ts) ++ rest) h.0
      (omega (arith, small, length-append (decimal i ++ 0 ∷ tree_bytes t) (items_bytes (i + 1) ts), length-append (decimal i) (0 ∷ tree_bytes t)))
      (omega (arith, fits, e, long, items_some ts)))
      ∙ items_behind ts d n (i + 1) rest h.1
      (omega (arith, small, length-append (decimal i ++ 0 ∷ tree_bytes t) (items_bytes (i + 1) ts))) (omega (arith, fits, e, long)))

-- ---- keys

id_mapped : (xs : List ℕ) → xs ≡ turned Ascending xs
id_mapped [] = refl
id_mapped (x ∷ xs) = ap (λ (ys : List ℕ). x ∷ ys) (id_mapped xs)

directed_is : (d : Direction) (k : Key) → directed_text d k ≡ turned d (key_text k)
directed_is Ascending k = id_mapped (key_text k)
directed_is Descending k = refl

plain_key : (d : Direction) (k : Key) (steps : ℕ) (rest : List ℕ) → IsKey k → length (key_text k) ≤ steps
    → behind_value d steps (turned d (key_text k) ++ rest) ≡ Some rest
plain_key d empty_array steps rest h fits =
    value_step d steps (plain d 0x18) rest rest (omega (arith, fits)) (λ n e.
    (λ i. by_class (plain_back d 0x18 (omega arith) i) (behind_pairs d n rest) (behind_items d n rest)
    (behind_scalar d (plain_back d 0x18 (omega arith) i) rest)))
plain_key d (value t) steps rest h fits = value_behind t d steps rest h.0 (omega (arith, h.1)) fits

key_behind : (d : Direction) (k : Key) (steps : ℕ) (rest : List ℕ) → IsKey k → length (directed_text d k) ≤ steps
    → behind_value d steps (directed_text d k ++ rest) ≡ Some rest
key_behind d k steps rest h fits =
    ap (λ (xs : List ℕ). behind_value d steps (xs ++ rest)) (directed_is d k)
    ∙ plain_key d k steps rest h (omega (arith, fits, ap length (directed_is d k), turned_length d (key_text k)))

-- ---- the keys of an index

fields_behind : (fs : List Field) (ks : List Key) (steps : ℕ) (id : List ℕ) → IsIndexKey fs ks → length (key_bytes fs ks) ≤ steps
    → behind_fields fs steps (key_bytes fs ks ++ id) ≡ Some id
fields_behind [] [] steps id h fits = refl
fields_behind [] (k ∷ ks) steps id h fits = absurd h
fields_behind (f ∷ fs) [] steps id h fits = absurd h
fields_behind (f ∷ fs) (k ∷ ks) steps id h fits =
    ap (λ (xs : List ℕ). option_and_then (behind_fields fs steps) (behind_value f.direction steps xs))
    (append_assoc (directed_text f.direction k) (key_bytes fs ks) id)
    ∙ ap (λ (o : Option (List ℕ)). option_and_then (behind_fields fs steps) o)
    (key_behind f.direction k steps (key_bytes fs ks ++ id) h.0 (omega (arith, fits, length-append (directed_text f.direction k) (key_bytes fs ks))))
    ∙ fields_behind fs ks steps id h.1 (omega (arith, fits, length-append (directed_text f.direction k) (key_bytes fs ks)))

pub finds_id_text : FindsIdText
finds_id_text fs ks id h = fields_behind fs ks (length (key_bytes fs ks ++ id)) id h (omega (arith, length-append (key_bytes fs ks) id))
