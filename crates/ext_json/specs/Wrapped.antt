-- What stands in a wrapper (MongoDB Extended JSON v2, "Conversion table"), behind its name.
use Rattle.std.specs.Prelude.{ℕ, ℤ, ◌+◌, ◌*◌, ◌^◌, ◌&&◌, not, if◌then◌else◌, List, codes, Result}
use Rattle.std.specs.Prelude.{Ok, Err}
use Rattle.std.specs.Str.{bytes_eq}
use Rattle.json.specs.Token as json
use Rattle.json.specs.Token.{Token}
use Rattle.outcome.specs.Outcome.{◌>>=◌, unless}
use Rattle.bson.specs.Tree.{Scalar, binary, object_id, date, int32, timestamp, int64, min_key}
use Rattle.bson.specs.Tree.{max_key, Tree, scalar}
use Rattle.ext_json.specs.Tokens.{Parse, first, rest, unfit, text_in, number_in, text_at, name_at}
use Rattle.ext_json.specs.Tokens.{open_at, end_at}
use Rattle.ext_json.specs.Numbers.{int32_in, int64_in, half_in}
use Rattle.ext_json.specs.Encoded.{object_id_in, uuid_binary, binary_in}
use Rattle.ext_json.specs.Moments.{date_in}
use Rattle.ext_json.specs.declared.wrapper.Wrapper.{Wrapper}
use Rattle.ext_json.specs.declared.wrapper.Wrapper.TheVariants as wrappers
use Rattle.ext_json.specs.declared.fault.ExtJsonFault.{ExtJsonFault}
use Rattle.ext_json.specs.declared.fault.ExtJsonFault.TheVariants as faults

-- two values in order, where their names are these two in one order or the other
abbrev pub in_order : List ℕ → List ℕ → List ℕ → Token → List ℕ → Token
    → Result (Token × Token) ExtJsonFault
in_order one two name t other u =
    if bytes_eq name one && bytes_eq other two then Ok (t, u)
    else if bytes_eq name two && bytes_eq other one then Ok (u, t)
    else Err faults.Wrapper

-- a name and the value behind it
abbrev pub member_at : Parse (List ℕ × Token)
member_at ts = name_at ts >>= λ name. Ok ((name.0, first name.1), rest name.1)

-- the values of an object of two members with these names
unfoldable pub two_at : List ℕ → List ℕ → Parse (Token × Token)
two_at one two ts =
    open_at ts >>= λ a. member_at a >>= λ m. member_at m.1 >>= λ other.
    end_at other.1 >>= λ b.
    in_order one two m.0.0 m.0.1 other.0.0 other.0.1 >>= λ x. Ok (x, b)

abbrev pub long_at : Parse ℤ
long_at ts = text_at ts >>= λ s. int64_in faults.Wrapper s.0 >>= λ z. Ok (z, s.1)

-- an object that holds a long
abbrev pub long_object_at : Parse ℤ
long_object_at ts =
    name_at ts >>= λ name.
    unless (not (bytes_eq name.0 (codes "$numberLong"))) faults.Wrapper
    (long_at name.1 >>= λ z. end_at z.1 >>= λ a. Ok (z.0, a))

abbrev pub date_by : Token → Parse ℤ
date_by (json.string s) ts = date_in s >>= λ z. Ok (z, ts)
date_by json.begin_object ts = long_object_at ts
date_by t ts = Err (unfit t)

unfoldable pub date_at : Parse ℤ
date_at ts = date_by (first ts) (rest ts)

unfoldable pub binary_at : Parse (ℕ × List ℕ)
binary_at ts =
    two_at (codes "base64") (codes "subType") ts >>= λ x.
    text_in x.0.0 >>= λ bytes. text_in x.0.1 >>= λ subtype.
    binary_in bytes subtype >>= λ b. Ok (b, x.1)

-- the seconds are the upper half, the count the lower
unfoldable pub timestamp_at : Parse ℕ
timestamp_at ts =
    two_at (codes "t") (codes "i") ts >>= λ x.
    number_in x.0.0 >>= λ s. half_in s >>= λ seconds.
    number_in x.0.1 >>= λ c. half_in c >>= λ count. Ok (seconds * 2 ^ 32 + count, x.1)

unfoldable pub one_at : List Token → Result (List Token) ExtJsonFault
one_at ts = number_in (first ts) >>= λ s.
    if bytes_eq s (codes "1") then Ok (rest ts) else Err faults.Wrapper

abbrev pub leaf : Scalar → List Token → Result (Tree × List Token) ExtJsonFault
leaf s ts = Ok (scalar s, ts)

unfoldable pub content_at : Wrapper → Parse Tree
content_at wrappers.NumberInt ts = text_at ts >>= λ s. int32_in s.0 >>= λ z. leaf (int32 z) s.1
content_at wrappers.NumberLong ts = long_at ts >>= λ z. leaf (int64 z.0) z.1
content_at wrappers.ObjectId ts =
    text_at ts >>= λ s. object_id_in s.0 >>= λ id. leaf (object_id id) s.1
content_at wrappers.Date ts = date_at ts >>= λ z. leaf (date z.0) z.1
content_at wrappers.Binary ts = binary_at ts >>= λ b. leaf (binary b.0.0 b.0.1) b.1
content_at wrappers.Uuid ts = text_at ts >>= λ s. uuid_binary s.0 >>= λ b. leaf (binary b.0 b.1) s.1
content_at wrappers.Timestamp ts = timestamp_at ts >>= λ n. leaf (timestamp n.0) n.1
content_at wrappers.MinKey ts = one_at ts >>= λ a. leaf min_key a
content_at wrappers.MaxKey ts = one_at ts >>= λ a. leaf max_key a
content_at wrappers.Unsupported ts = Err faults.Unsupported

-- the value, and the end of its object
unfoldable pub wrapped_at : Wrapper → Parse Tree
wrapped_at w ts = content_at w ts >>= λ v. end_at v.1 >>= λ a. Ok (v.0, a)
