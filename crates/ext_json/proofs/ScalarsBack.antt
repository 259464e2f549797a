-- What canonical writing put for a value that holds no other is read back.
use Rattle.std.proofs.Common.{◌≡◌, ◌≢◌, ℕ, zero, suc, ℤ, pos, negsuc, neg_ℤ, ◌+◌, ◌*◌, ◌/◌, ◌%◌, ◌<◌, ◌^◌, Bool, true, false, cond, List, [], ◌∷◌, ◌++◌, length}
use Rattle.std.proofs.Common.{Some, Ok, codes, FitsSigned, w32, w64, refl, sym, ap, subst, ◌∙◌, arith}
use Rattle.std.specs.Prelude.{◌==◌, nat_lt, decimal}
use Rattle.std.specs.Fmt.{signed_decimal}
use Rattle.std.specs.List.{list_all}
use Rattle.std.specs.Char.{is_ascii_digit}
use Rattle.std.specs.Str.Parse.{digits_value}
use Rattle.std.proofs.lemmas.Bool.{lt-ltb, eqb-true}
use Rattle.std.proofs.lemmas.Fmt.{digits_decimal, digits_value-decimal, decimal_nonempty}
use Rattle.hex.specs.Hex.{encode_lower, encode_with}
use Rattle.hex.proofs.HexLemmas.{decode_sized-encode_lower}
use Rattle.base64.specs.GeneralPurpose.{encode_of}
use Rattle.base64.specs.Engines.{standard}
use Rattle.base64.proofs.EngineFacts.{decode_of-encode_of}
use Rattle.json.specs.Token as json
use Rattle.json.specs.Token.{Token}
use Rattle.bson.specs.Lawful.{IsBytes, IsScalar}
use Rattle.bson.specs.Tree.{Scalar, text, binary, object_id, boolean, date, null, int32, timestamp, int64, min_key, max_key, scalar}
use Rattle.ext_json.specs.Written.{is_within, scalar_tokens}
use Rattle.ext_json.specs.Numbers.{are_digits, is_whole, whole_value, whole_in, int32_in, int64_in, half_in}
use Rattle.ext_json.specs.Encoded.{or_wrapper, object_id_in, byte_in, subtype_in, base64_in}
use Rattle.ext_json.specs.Wrappers.{is_unsupported, known_wrapper, wrapper_named}
use Rattle.ext_json.specs.Wrapped.{two_at, date_at, binary_at, timestamp_at, one_at, content_at, wrapped_at}
use Rattle.ext_json.specs.Tokens.{first, rest}
use Rattle.ext_json.specs.Parsing.{value_at}
use Rattle.ext_json.specs.declared.wrapper.Wrapper.{Wrapper}
use Rattle.ext_json.specs.declared.wrapper.Wrapper.TheVariants as wrappers
use Rattle.ext_json.specs.declared.fault.ExtJsonFault.{ExtJsonFault}
use Rattle.ext_json.specs.declared.fault.ExtJsonFault.TheVariants as faults
use Rattle.ext_json.specs.declared.form.Form.TheVariants.{Canonical}
use Rattle.ext_json.proofs.NumberLemmas.{own, are_digits-parts}
use Rattle.ext_json.proofs.ParsingLemmas.{value_is}

-- ---- numbers

not_empty : (n : ℕ) → (suc n == 0) ≡ false
not_empty n = by (suc n == 0) refl
  where
    by : (b : Bool) → (suc n == 0) ≡ b → b ≡ false
    by true e = let z : suc n ≡ 0 = eqb-true (suc n) 0 e in absurd (omega arith)
    by false e = refl

digits_of_decimal : (n : ℕ) → n < 2 ^ 64 → are_digits (decimal n) ≡ true
digits_of_decimal n h = by (decimal n) (decimal_nonempty n h) (digits_decimal own n h)
  where
    by : (s : List ℕ) → 0 < length s → list_all is_ascii_digit s ≡ true → are_digits s ≡ true
    by [] some d = absurd (omega arith)
    by (c ∷ cs) some d = rw (not_empty (length cs)) d

whole_digits : (s : List ℕ) → are_digits s ≡ true → (is_whole s ≡ true) × (whole_value s ≡ pos (digits_value 10 s))
unfolding is_whole whole_value
whole_digits [] d = absurd cc
whole_digits (c ∷ cs) d = by (c == 45) refl
  where
    minus_first : (b : ℕ) → b ≡ 45 → are_digits (b ∷ cs) ≡ true → ⊥
    minus_first b e h = let g = (are_digits-parts (45 ∷ cs) (subst (λ (x : ℕ). are_digits (x ∷ cs) ≡ true) e h)).1 in cc

    by : (b : Bool) → (c == 45) ≡ b
        → (cond b (are_digits cs) (are_digits (c ∷ cs)) ≡ true)
        × (cond b (neg_ℤ (pos (digits_value 10 cs))) (pos (digits_value 10 (c ∷ cs))) ≡ pos (digits_value 10 (c ∷ cs)))
    by true e = absurd (minus_first c (eqb-true c 45 e) d)
    by false e = (d, refl)

whole_decimal : (z : ℤ) → FitsSigned w64 z → (is_whole (signed_decimal z) ≡ true) × (whole_value (signed_decimal z) ≡ z)
unfolding is_whole whole_value
whole_decimal (pos n) h =
    let small : n < 2 ^ 64 = omega arith in
    let w = whole_digits (decimal n) (digits_of_decimal n small) in
    (w.0, w.1 ∙ ap pos (digits_value-decimal own n small))
whole_decimal (negsuc n) h =
    let small : suc n < 2 ^ 64 = omega arith in
    (digits_of_decimal (suc n) small, ap (λ (m : ℕ). neg_ℤ (pos m)) (digits_value-decimal own (suc n) small))

within : (k : ℕ) (z : ℤ) → is_within k z ≡ true → is_whole (signed_decimal z) ≡ true → whole_value (signed_decimal z) ≡ z → (fault : ExtJsonFault)
    → whole_in (is_within k) fault (signed_decimal z) ≡ Ok z
within k z fits is same fault =
    let fits_as = ap (is_within k) same ∙ fits in
    rw (is, fits_as) (ap Ok same)

pub int64_back : (z : ℤ) → FitsSigned w64 z → (fault : ExtJsonFault) → int64_in fault (signed_decimal z) ≡ Ok z
unfolding int64_in
int64_back z h fault = within (2 ^ 63) z (fits z h) (whole_decimal z h).0 (whole_decimal z h).1 fault
  where
    fits : (y : ℤ) → FitsSigned w64 y → is_within (2 ^ 63) y ≡ true
    fits (pos n) f = lt-ltb n (2 ^ 63) (omega arith)
    fits (negsuc n) f = lt-ltb n (2 ^ 63) (omega arith)

pub int32_back : (z : ℤ) → FitsSigned w32 z → int32_in (signed_decimal z) ≡ Ok z
unfolding int32_in
int32_back z h = within (2 ^ 31) z (fits z h) (whole_decimal z (wide z h)).0 (whole_decimal z (wide z h)).1 faults.Wrapper
  where
    fits : (y : ℤ) → FitsSigned w32 y → is_within (2 ^ 31) y ≡ true
    fits (pos n) f = lt-ltb n (2 ^ 31) (omega arith)
    fits (negsuc n) f = lt-ltb n (2 ^ 31) (omega arith)

    wide : (y : ℤ) → FitsSigned w32 y → FitsSigned w64 y
    wide y f = omega arith

pub half_back : (n : ℕ) → n < 2 ^ 32 → half_in (decimal n) ≡ Ok n
unfolding half_in
half_back n h =
    let small : n < 2 ^ 64 = omega arith in
    let is = digits_of_decimal n small in
    let same = digits_value-decimal own n small in
    let fits : nat_lt (digits_value 10 (decimal n)) (2 ^ 32) ≡ true = ap (λ (m : ℕ). nat_lt m (2 ^ 32)) same ∙ lt-ltb n (2 ^ 32) h in
    rw (is, fits) (ap Ok same)

-- ---- bytes

pub object_id_back : (bytes : List ℕ) → length bytes ≡ 12 → IsBytes bytes → object_id_in (encode_lower bytes) ≡ Ok bytes
unfolding object_id_in
object_id_back bytes len h = rw (decode_sized-encode_lower bytes 12 len h) refl

one_byte : (b : ℕ) → b < 256 → IsBytes (b ∷ [])
one_byte b h zero = h
one_byte b h (suc i) = omega arith

pub byte_back : (b : ℕ) → b < 256 → byte_in (encode_lower (b ∷ [])) ≡ Ok b
unfolding byte_in encode_with
byte_back b h = let e = decode_sized-encode_lower (b ∷ []) 1 refl (one_byte b h) in rw e refl

pub subtype_back : (b : ℕ) → b < 256 → b ≢ 2 → subtype_in (encode_lower (b ∷ [])) ≡ Ok b
unfolding subtype_in
subtype_back b h other =
    let no : (b == 2) ≡ false = grind (arith, other) in
    rw (byte_back b h, no) refl

pub base64_back : (bytes : List ℕ) → IsBytes bytes → base64_in (encode_of standard bytes) ≡ Ok bytes
unfolding base64_in
base64_back bytes h = ap or_wrapper (decode_of-encode_of standard bytes refl h)

-- ---- wrappers

opened : (more : ℕ) (name : List ℕ) (w : Wrapper) (ts : List Token) → wrapper_named name ≡ Some w
    → value_at more json.begin_object (json.key name ∷ ts) ≡ wrapped_at w ts
opened more name w ts e = sym (value_is more json.begin_object (json.key name ∷ ts)) ∙ rw e refl

int32_name : wrapper_named (codes "$numberInt") ≡ Some wrappers.NumberInt
unfolding is_unsupported known_wrapper
int32_name = refl

int64_name : wrapper_named (codes "$numberLong") ≡ Some wrappers.NumberLong
unfolding is_unsupported known_wrapper
int64_name = refl

object_id_name : wrapper_named (codes "$oid") ≡ Some wrappers.ObjectId
unfolding is_unsupported known_wrapper
object_id_name = refl

date_name : wrapper_named (codes "$date") ≡ Some wrappers.Date
unfolding is_unsupported known_wrapper
date_name = refl

binary_name : wrapper_named (codes "$binary") ≡ Some wrappers.Binary
unfolding is_unsupported known_wrapper
binary_name = refl

timestamp_name : wrapper_named (codes "$timestamp") ≡ Some wrappers.Timestamp
unfolding is_unsupported known_wrapper
timestamp_name = refl

min_key_name : wrapper_named (codes "$minKey") ≡ Some wrappers.MinKey
unfolding is_unsupported known_wrapper
min_key_name = refl

max_key_name : wrapper_named (codes "$maxKey") ≡ Some wrappers.MaxKey
unfolding is_unsupported known_wrapper
max_key_name = refl

int32_wrapped : (z : ℤ) (us : List Token) → FitsSigned w32 z
    → wrapped_at wrappers.NumberInt (json.string (signed_decimal z) ∷ json.end_object ∷ us) ≡ Ok (scalar (int32 z), us)
unfolding wrapped_at content_at
int32_wrapped z us h = rw (int32_back z h) refl

int64_wrapped : (z : ℤ) (us : List Token) → FitsSigned w64 z
    → wrapped_at wrappers.NumberLong (json.string (signed_decimal z) ∷ json.end_object ∷ us) ≡ Ok (scalar (int64 z), us)
unfolding wrapped_at content_at
int64_wrapped z us h = rw (int64_back z h faults.Wrapper) refl

object_id_wrapped : (bytes : List ℕ) (us : List Token) → length bytes ≡ 12 → IsBytes bytes
    → wrapped_at wrappers.ObjectId (json.string (encode_lower bytes) ∷ json.end_object ∷ us) ≡ Ok (scalar (object_id bytes), us)
unfolding wrapped_at content_at
object_id_wrapped bytes us len h = rw (object_id_back bytes len h) refl

date_wrapped : (z : ℤ) (us : List Token) → FitsSigned w64 z
    → wrapped_at wrappers.Date (json.begin_object ∷ json.key (codes "$numberLong") ∷ json.string (signed_decimal z) ∷ json.end_object ∷ json.end_object ∷ us)
    ≡ Ok (scalar (date z), us)
unfolding wrapped_at content_at date_at
date_wrapped z us h = rw (int64_back z h faults.Wrapper) refl

binary_two : (bytes subtype : List ℕ) (us : List Token)
    → two_at (codes "base64") (codes "subType")
    (json.begin_object ∷ json.key (codes "base64") ∷ json.string bytes ∷ json.key (codes "subType") ∷ json.string subtype ∷ json.end_object ∷ us)
    ≡ Ok ((json.string bytes, json.string subtype), us)
unfolding two_at
binary_two bytes subtype us = refl

binary_wrapped : (subtype : ℕ) (bytes : List ℕ) (us : List Token) → subtype ≢ 2 → subtype < 256 → IsBytes bytes
    → wrapped_at wrappers.Binary
    (json.begin_object ∷ json.key (codes "base64") ∷ json.string (encode_of standard bytes) ∷ json.key (codes "subType")
    ∷ json.string (encode_lower (subtype ∷ [])) ∷ json.end_object ∷ json.end_object ∷ us)
    ≡ Ok (scalar (binary subtype bytes), us)
unfolding wrapped_at content_at binary_at
binary_wrapped subtype bytes us other lt h =
    rw (binary_two (encode_of standard bytes) (encode_lower (subtype ∷ [])) (json.end_object ∷ us), subtype_back subtype lt other, base64_back bytes h) refl

timestamp_two : (seconds count : List ℕ) (us : List Token)
    → two_at (codes "t") (codes "i")
    (json.begin_object ∷ json.key (codes "t") ∷ json.number seconds ∷ json.key (codes "i") ∷ json.number count ∷ json.end_object ∷ us)
    ≡ Ok ((json.number seconds, json.number count), us)
unfolding two_at
timestamp_two seconds count us = refl

timestamp_wrapped : (n : ℕ) (us : List Token) → n < 2 ^ 64
    → wrapped_at wrappers.Timestamp
    (json.begin_object ∷ json.key (codes "t") ∷ json.number (decimal (n / 2 ^ 32)) ∷ json.key (codes "i") ∷ json.number (decimal (n % 2 ^ 32))
    ∷ json.end_object ∷ json.end_object ∷ us)
    ≡ Ok (scalar (timestamp n), us)
unfolding wrapped_at content_at timestamp_at
timestamp_wrapped n us h =
    let whole : n / 2 ^ 32 * 2 ^ 32 + n % 2 ^ 32 ≡ n = omega arith in
    rw (
      timestamp_two (decimal (n / 2 ^ 32)) (decimal (n % 2 ^ 32)) (json.end_object ∷ us),
      half_back (n / 2 ^ 32) (omega arith),
      half_back (n % 2 ^ 32) (omega arith),
      whole,
    ) refl

min_key_wrapped : (us : List Token) → wrapped_at wrappers.MinKey (json.number (codes "1") ∷ json.end_object ∷ us) ≡ Ok (scalar min_key, us)
unfolding wrapped_at content_at one_at
min_key_wrapped us = refl

max_key_wrapped : (us : List Token) → wrapped_at wrappers.MaxKey (json.number (codes "1") ∷ json.end_object ∷ us) ≡ Ok (scalar max_key, us)
unfolding wrapped_at content_at one_at
max_key_wrapped us = refl

-- whatever may nest in it
pub scalar_back : (more : ℕ) (s : Scalar) (us : List Token) → IsScalar s
    → value_at more (first (scalar_tokens Canonical s ++ us)) (rest (scalar_tokens Canonical s ++ us)) ≡ Ok (scalar s, us)
scalar_back more (text s) us h = sym (value_is more (json.string s) us)
scalar_back more (binary subtype bytes) us h = opened more (codes "$binary") wrappers.Binary _ binary_name ∙ binary_wrapped subtype bytes us h.0 h.1 h.2
scalar_back more (object_id bytes) us h = opened more (codes "$oid") wrappers.ObjectId _ object_id_name ∙ object_id_wrapped bytes us h.0 h.1
scalar_back more (boolean b) us h = sym (value_is more (json.boolean b) us)
scalar_back more (date z) us h = opened more (codes "$date") wrappers.Date _ date_name ∙ date_wrapped z us h
scalar_back more null us h = sym (value_is more json.null us)
scalar_back more (int32 z) us h = opened more (codes "$numberInt") wrappers.NumberInt _ int32_name ∙ int32_wrapped z us h
scalar_back more (timestamp n) us h = opened more (codes "$timestamp") wrappers.Timestamp _ timestamp_name ∙ timestamp_wrapped n us h
scalar_back more (int64 z) us h = opened more (codes "$numberLong") wrappers.NumberLong _ int64_name ∙ int64_wrapped z us h
scalar_back more min_key us h = opened more (codes "$minKey") wrappers.MinKey _ min_key_name ∙ min_key_wrapped us
scalar_back more max_key us h = opened more (codes "$maxKey") wrappers.MaxKey _ max_key_name ∙ max_key_wrapped us
