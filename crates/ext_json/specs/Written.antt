-- The tokens of a document as MongoDB Extended JSON v2 (mongodb/specifications,
-- source/extended-json), in its two forms.
use Rattle.std.specs.Prelude.{◌≡◌, ℕ, ℤ, pos, negsuc, ◌/◌, ◌%◌, ◌^◌, nat_lt, nat_le, Bool}
use Rattle.std.specs.Prelude.{if◌then◌else◌, List, [], ◌∷◌, ◌++◌, codes, decimal, Result, OnOk, ⊤}
use Rattle.std.specs.Fmt.{signed_decimal}
use Rattle.json.specs.Token as json
use Rattle.json.specs.Token.{Token}
use Rattle.json.specs.Print.{print, IsPrintable}
use Rattle.json.specs.Written.{Written}
use Rattle.hex.specs.Hex.{encode_lower}
use Rattle.base64.specs.GeneralPurpose.{encode_of}
use Rattle.base64.specs.Engines.{standard}
use Rattle.bson.specs.Tree.{Scalar, text, binary, object_id, boolean, date, null, int32, timestamp}
use Rattle.bson.specs.Tree.{int64, min_key, max_key, Tree, scalar, document, array, Pairs, no_pairs}
use Rattle.bson.specs.Tree.{pair, Items, no_items, item}
use Rattle.ext_json.specs.Calendar.{moment_of, moment_text}
use Rattle.ext_json.specs.declared.form.Form.{Form}
use Rattle.ext_json.specs.declared.form.Form.TheVariants.{Canonical, Relaxed}

-- an object of one member
abbrev pub wrapped : List ℕ → List Token → List Token
wrapped name value = json.begin_object ∷ json.key name ∷ (value ++ json.end_object ∷ [])

abbrev pub long : ℤ → List Token
long z = wrapped (codes "$numberLong") (json.string (signed_decimal z) ∷ [])

-- bytes in base 64 (RFC 4648), and a subtype in two hex digits
abbrev pub binary_of : List ℕ → List ℕ → List Token
binary_of bytes subtype = wrapped (codes "$binary")
    (json.begin_object ∷ json.key (codes "base64") ∷ json.string bytes
    ∷ json.key (codes "subType") ∷ json.string subtype ∷ json.end_object ∷ [])

abbrev pub binary_tokens : ℕ → List ℕ → List Token
binary_tokens subtype bytes = binary_of (encode_of standard bytes) (encode_lower (subtype ∷ []))

-- seconds and a count in decimal
abbrev pub timestamp_of : List ℕ → List ℕ → List Token
timestamp_of seconds count = wrapped (codes "$timestamp")
    (json.begin_object ∷ json.key (codes "t") ∷ json.number seconds
    ∷ json.key (codes "i") ∷ json.number count ∷ json.end_object ∷ [])

-- the seconds stand in the upper half of the number, the count in the lower
abbrev pub timestamp_tokens : ℕ → List Token
timestamp_tokens n = timestamp_of (decimal (n / 2 ^ 32)) (decimal (n % 2 ^ 32))

-- from minus this many up to below it
abbrev pub is_within : ℕ → ℤ → Bool
is_within most (pos n) = nat_lt n most
is_within most (negsuc n) = nat_lt n most

-- the number would be read back as an int32
abbrev pub is_int32 : ℤ → Bool
is_int32 z = is_within (2 ^ 31) z

-- from 1970 up to the year 9999 a text, else the number
abbrev pub relaxed_date : ℤ → List Token
relaxed_date (pos n) = if nat_le n 253402300799999
    then wrapped (codes "$date") (json.string (moment_text (moment_of n)) ∷ [])
    else wrapped (codes "$date") (long (pos n))
relaxed_date (negsuc n) = wrapped (codes "$date") (long (negsuc n))

abbrev pub int32_tokens : Form → ℤ → List Token
int32_tokens Canonical z = wrapped (codes "$numberInt") (json.string (signed_decimal z) ∷ [])
int32_tokens Relaxed z = json.number (signed_decimal z) ∷ []

-- In the relaxed form a number, unless that would be read back as an int32.
abbrev pub int64_tokens : Form → ℤ → List Token
int64_tokens Canonical z = long z
int64_tokens Relaxed z = if is_int32 z then long z else json.number (signed_decimal z) ∷ []

abbrev pub date_tokens : Form → ℤ → List Token
date_tokens Canonical z = wrapped (codes "$date") (long z)
date_tokens Relaxed z = relaxed_date z

-- a value that holds no other
abbrev pub scalar_tokens : Form → Scalar → List Token
scalar_tokens form (text s) = json.string s ∷ []
scalar_tokens form (binary subtype bytes) = binary_tokens subtype bytes
scalar_tokens form (object_id bytes) =
    wrapped (codes "$oid") (json.string (encode_lower bytes) ∷ [])
scalar_tokens form (boolean b) = json.boolean b ∷ []
scalar_tokens form (date z) = date_tokens form z
scalar_tokens form null = json.null ∷ []
scalar_tokens form (int32 z) = int32_tokens form z
scalar_tokens form (timestamp n) = timestamp_tokens n
scalar_tokens form (int64 z) = int64_tokens form z
scalar_tokens form min_key = wrapped (codes "$minKey") (json.number (codes "1") ∷ [])
scalar_tokens form max_key = wrapped (codes "$maxKey") (json.number (codes "1") ∷ [])

unfoldable mutual
  pub tree_tokens : Form → Tree → List Token
  tree_tokens form (scalar s) = scalar_tokens form s
  tree_tokens form (document ps) =
      json.begin_object ∷ (pairs_tokens form ps ++ json.end_object ∷ [])
  tree_tokens form (array ts) = json.begin_array ∷ (items_tokens form ts ++ json.end_array ∷ [])

  pub pairs_tokens : Form → Pairs → List Token
  pairs_tokens form no_pairs = []
  pairs_tokens form (pair name t ps) = json.key name ∷ (tree_tokens form t ++ pairs_tokens form ps)

  pub items_tokens : Form → Items → List Token
  items_tokens form no_items = []
  items_tokens form (item t ts) = tree_tokens form t ++ items_tokens form ts

abbrev pub document_tokens : Form → Pairs → List Token
document_tokens form ps = tree_tokens form (document ps)

-- the texts, on one line and with no space
abbrev pub canonical_text : Pairs → List ℕ
canonical_text ps = print (document_tokens Canonical ps)

abbrev pub relaxed_text : Pairs → List ℕ
relaxed_text ps = print (document_tokens Relaxed ps)

-- ---- for the prover

-- each of the tokens can be written
abbrev pub CanWrite : List Token → Type 0
CanWrite [] = ⊤
CanWrite (t ∷ ts) = IsPrintable t × CanWrite ts

-- the tokens were put at the end of what a writer wrote
pub record Puts {E : Type 0} (r : Result (Unit {0}) E) (old new : Written)
    (ts : List Token) : Type 0 where
  pub ok : OnOk r (new.tokens ≡ old.tokens ++ ts)
  pub before : new.before ≡ old.before
