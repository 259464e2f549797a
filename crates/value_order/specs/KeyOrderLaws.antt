-- The order of keys: by class alone where one is null, and a total order.
use Rattle.std.proofs.Common.{◌≡◌, refl, subst}
use Rattle.std.specs.declared.cmp.Ordering.{Ordering}
use Rattle.std.specs.declared.cmp.Ordering.TheVariants.{Less, Equal, Greater}
use Rattle.std.specs.Ordering.{ordering_then, nat_cmp, on, then_cmp}
use Rattle.std.specs.Cmp.{IsTotalOrder, on_total, then_total, nat_cmp_total}
use Rattle.bson.specs.Tree.{Tree, scalar, text, binary, object_id, boolean, date, null, int32}
use Rattle.bson.specs.Tree.{timestamp, int64, min_key, max_key, document, array}
use Rattle.value_order.specs.Order.{class, content_cmp, compare, Key, empty_array, value, key_class}
use Rattle.value_order.specs.Order.{key_cmp}
use Rattle.value_order.specs.TotalLaws.{compare_total}
use Rattle.value_order.specs.View.{key_of}
use Rattle.value_order.specs.declared.texts.KeyPart.{KeyPart}
use Rattle.value_order.specs.declared.texts.KeyPart.TheVariants as keys
use Rattle.bson.specs.View.{tree}

-- a value that stands for a key beside its class
abbrev content : Key → Tree
content empty_array = scalar null
content (value t) = t

abbrev by_class : Key → Key → Ordering
by_class = then_cmp (on key_class nat_cmp) (on content compare)

then_again : (c d : Ordering) → ordering_then c (ordering_then c d) ≡ ordering_then c d
then_again Less d = refl
then_again Equal d = refl
then_again Greater d = refl

-- no value is of the class of empty arrays
below_all : (t : Tree) (d : Ordering)
    → ordering_then (nat_cmp 0x18 (class t)) d ≡ ordering_then (nat_cmp 0x18 (class t)) Equal
below_all (scalar (text s)) d = refl
below_all (scalar (binary subtype bytes)) d = refl
below_all (scalar (object_id bytes)) d = refl
below_all (scalar (boolean b)) d = refl
below_all (scalar (date z)) d = refl
below_all (scalar null) d = refl
below_all (scalar (int32 z)) d = refl
below_all (scalar (timestamp n)) d = refl
below_all (scalar (int64 z)) d = refl
below_all (scalar min_key) d = refl
below_all (scalar max_key) d = refl
below_all (document ps) d = refl
below_all (array ts) d = refl

above_all : (t : Tree) (d : Ordering)
    → ordering_then (nat_cmp (class t) 0x18) d ≡ ordering_then (nat_cmp (class t) 0x18) Equal
above_all (scalar (text s)) d = refl
above_all (scalar (binary subtype bytes)) d = refl
above_all (scalar (object_id bytes)) d = refl
above_all (scalar (boolean b)) d = refl
above_all (scalar (date z)) d = refl
above_all (scalar null) d = refl
above_all (scalar (int32 z)) d = refl
above_all (scalar (timestamp n)) d = refl
above_all (scalar (int64 z)) d = refl
above_all (scalar min_key) d = refl
above_all (scalar max_key) d = refl
above_all (document ps) d = refl
above_all (array ts) d = refl

same : (a b : Key) → by_class a b ≡ key_cmp a b
same empty_array empty_array = refl
same empty_array (value t) = below_all t (compare (scalar null) t)
same (value t) empty_array = above_all t (compare t (scalar null))
same (value t) (value u) = then_again (nat_cmp (class t) (class u)) (content_cmp t u)

pub key_cmp_total : IsTotalOrder key_cmp
key_cmp_total =
    subst (λ (R : Key → Key → Ordering). IsTotalOrder R) (λ i a b. same a b i)
    (then_total (on_total key_class nat_cmp_total) (on_total content compare_total))

-- ---- null

null_before : (t : Tree) → key_cmp (value (scalar null)) (value t) ≡ nat_cmp 0x20 (class t)
null_before (scalar (text s)) = refl
null_before (scalar (binary subtype bytes)) = refl
null_before (scalar (object_id bytes)) = refl
null_before (scalar (boolean b)) = refl
null_before (scalar (date z)) = refl
null_before (scalar null) = refl
null_before (scalar (int32 z)) = refl
null_before (scalar (timestamp n)) = refl
null_before (scalar (int64 z)) = refl
null_before (scalar min_key) = refl
null_before (scalar max_key) = refl
null_before (document ps) = refl
null_before (array ts) = refl

null_behind : (t : Tree) → key_cmp (value t) (value (scalar null)) ≡ nat_cmp (class t) 0x20
null_behind (scalar (text s)) = refl
null_behind (scalar (binary subtype bytes)) = refl
null_behind (scalar (object_id bytes)) = refl
null_behind (scalar (boolean b)) = refl
null_behind (scalar (date z)) = refl
null_behind (scalar null) = refl
null_behind (scalar (int32 z)) = refl
null_behind (scalar (timestamp n)) = refl
null_behind (scalar (int64 z)) = refl
null_behind (scalar min_key) = refl
null_behind (scalar max_key) = refl
null_behind (document ps) = refl
null_behind (array ts) = refl

then_nothing : (c : Ordering) → ordering_then c Equal ≡ c
then_nothing Less = refl
then_nothing Equal = refl
then_nothing Greater = refl

-- keys that are not both values behind a reference
abbrev pub AreUnlike : KeyPart → KeyPart → Type 0
AreUnlike (keys.Value v) (keys.Value w) = ⊥
AreUnlike a b = Unit {0}

pub unlike_keys : (a b : KeyPart) → AreUnlike a b
    → key_cmp (key_of a) (key_of b) ≡ nat_cmp (key_class (key_of a)) (key_class (key_of b))
unlike_keys (keys.Value v) (keys.Value w) h = absurd h
unlike_keys (keys.Value v) keys.Nothing h = null_behind (tree v.now)
unlike_keys (keys.Value v) keys.EmptyArray h = then_nothing (nat_cmp (class (tree v.now)) 0x18)
unlike_keys keys.Nothing (keys.Value w) h = null_before (tree w.now)
unlike_keys keys.Nothing keys.Nothing h = refl
unlike_keys keys.Nothing keys.EmptyArray h = refl
unlike_keys keys.EmptyArray (keys.Value w) h = then_nothing (nat_cmp 0x18 (class (tree w.now)))
unlike_keys keys.EmptyArray keys.Nothing h = refl
unlike_keys keys.EmptyArray keys.EmptyArray h = refl
