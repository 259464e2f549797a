-- Which keys lie in a range of an index: as lists of values, and as the bytes that the entries of
-- the index have.
use Rattle.std.specs.Prelude.{◌≡◌, ℕ, ◌==◌, ◌&&◌, Bool, true, false, Option, Some, None, IfSome}
use Rattle.std.specs.Prelude.{List, [], ◌∷◌, ◌++◌, length, take, drop, All}
use Rattle.std.specs.List.{list_any}
use Rattle.std.specs.Str.{bytes_eq}
use Rattle.std.specs.declared.cmp.Ordering.{Ordering}
use Rattle.std.specs.Ordering.{ordering_reverse}
use Rattle.bson.specs.Tree.{Tree, document, Pairs}
use Rattle.value_order.specs.Order.{Key, value, class, key_class, bytes_cmp, key_cmp}
use Rattle.value_order.specs.KeyText.{directed_text}
use Rattle.value_order.specs.Laws.{IsKey}
use Rattle.value_order.specs.declared.texts.Direction.{Direction}
use Rattle.value_order.specs.declared.texts.Direction.TheVariants.{Ascending, Descending}
use Rattle.filter.specs.Condition.{Conditions}
use Rattle.filter.specs.Matches.{is_equal, allows, matches}
use Rattle.sort.specs.Sort.{SortField}
use Rattle.index.specs.Definition.{Field, Definition}
use Rattle.index.specs.IndexKeys.{index_keys, is_multikey}
use Rattle.index.specs.KeyTexts.{encoded_keys}
use Rattle.plan_model.specs.Usable.{Bound}
use Rattle.plan_model.specs.Plan.{Range, fields_of, is_multi, range_in}

-- ---- keys as lists of values

abbrev pub is_equal_to : Tree → Key → Bool
is_equal_to t k = is_equal (key_cmp k (value t))

-- keys of the operand's class alone
abbrev pub lies_by : Bound → Key → Bool
lies_by b k =
    (key_class k == class b.operand) && allows b.comparison (key_cmp k (value b.operand))

abbrev pub lies_within : Option Bound → Key → Bool
lies_within None k = true
lies_within (Some b) k = lies_by b k

abbrev pub first_lies : Option Bound → Option Bound → List Key → Bool
first_lies low high [] = true
first_lies low high (k ∷ ks) = lies_within low k && lies_within high k

-- the first values are equal to those of the range, and the next one lies between its ends
abbrev pub is_in : List Tree → Option Bound → Option Bound → List Key → Bool
is_in [] low high ks = first_lies low high ks
is_in (t ∷ ts) low high [] = false
is_in (t ∷ ts) low high (k ∷ ks) = is_equal_to t k && is_in ts low high ks

abbrev pub has_key : Range → List Key → Bool
has_key r ks = is_in r.equal r.low r.high ks

-- A document that a filter matches has a key in the range that the filter gives in an index, where
-- the index is noted as multikey if the document makes it one.
abbrev pub HasKeyInRange : Type 0
HasKeyInRange =
    (rs : Conditions) (sort : List SortField) (index : Option Definition) (ps : Pairs)
    → (is_multikey (fields_of index) ps ≡ true → is_multi index ≡ true) → matches rs ps ≡ true
    → list_any (has_key (range_in rs sort index)) (index_keys (fields_of index) ps) ≡ true

-- ---- keys as bytes

-- the texts of the values that the range's keys begin with
abbrev pub front_text : List Field → List Tree → List ℕ
front_text [] ts = []
front_text (f ∷ fs) [] = []
front_text (f ∷ fs) (t ∷ ts) = directed_text f.direction (value t) ++ front_text fs ts

-- how bytes lie by a text: equal where they go on from it
abbrev pub place_by : List ℕ → List ℕ → Ordering
place_by text bytes = bytes_cmp (take (length text) bytes) text

abbrev pub in_direction : Direction → Ordering → Ordering
in_direction Ascending o = o
in_direction Descending o = ordering_reverse o

-- the first byte of a text tells its class
abbrev pub is_of_class : List ℕ → List ℕ → Bool
is_of_class text bytes = bytes_eq (take 1 bytes) (take 1 text)

abbrev pub bytes_lie_by : Direction → Bound → List ℕ → Bool
bytes_lie_by d b bytes =
    let text = directed_text d (value b.operand) in
    is_of_class text bytes && allows b.comparison (in_direction d (place_by text bytes))

abbrev pub bytes_within : Direction → Option Bound → List ℕ → Bool
bytes_within d None bytes = true
bytes_within d (Some b) bytes = bytes_lie_by d b bytes

abbrev pub first_bytes_lie : Option Bound → Option Bound → List Field → List ℕ → Bool
first_bytes_lie low high [] bytes = true
first_bytes_lie low high (f ∷ fs) bytes =
    bytes_within f.direction low bytes && bytes_within f.direction high bytes

-- the bytes go on from the front of the range, and what follows lies between its ends
abbrev pub has_bytes : List Field → Range → List ℕ → Bool
has_bytes fs r bytes =
    let front = front_text fs r.equal in
    bytes_eq (take (length front) bytes) front
    && first_bytes_lie r.low r.high (drop (length r.equal) fs) (drop (length front) bytes)

-- BSON can spell the values of the range
pub record IsSpellable (r : Range) : Type 0 where
  pub equal_spelled : All (λ t. IsKey (value t)) r.equal
  pub low_spelled : IfSome r.low (λ b. IsKey (value b.operand))
  pub high_spelled : IfSome r.high (λ b. IsKey (value b.operand))

-- So one of the document's encoded keys does, if BSON can spell the document and the values of the
-- range.
abbrev pub HasBytesInRange : Type 0
HasBytesInRange =
    (rs : Conditions) (sort : List SortField) (index : Option Definition) (ps : Pairs)
    → let r = range_in rs sort index in let fs = fields_of index in
    (is_multikey fs ps ≡ true → is_multi index ≡ true) → IsKey (value (document ps)) → IsSpellable r
    → matches rs ps ≡ true
    → list_any (has_bytes fs r) (encoded_keys fs ps) ≡ true
