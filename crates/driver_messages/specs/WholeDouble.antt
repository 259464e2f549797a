-- The integer that a double of BSON 1.1 (bsonspec.org) is. Its eight bytes, the lowest first, are a
-- binary64 of IEEE 754 (2019, 3.4): a sign, an exponent of eleven bits, a significand of 52. Where
-- all bits but the sign are 0 it is zero. With an exponent from 1 to 2046 it is, up to its sign,
-- (2^52 + significand) / 2^52 * 2^(exponent - 1023). With another it is no integer. One that is
-- 2^63 or more, up to its sign, counts as none here.
use Rattle.std.specs.Prelude.{ℕ, ℤ, pos, neg_ℤ, ◌+◌, ◌-◌, ◌*◌, ◌/◌, ◌%◌, ◌^◌, Bool, true, false}
use Rattle.std.specs.Prelude.{◌||◌, ◌==◌, nat_lt, nat_le, if◌then◌else◌, List, length, take, Option}
use Rattle.std.specs.Prelude.{Some, None}
use Rattle.std.specs.Option.{option_map}
use Rattle.std.specs.Int.{w64, from_le_bytes}

abbrev pub is_negative : ℕ → Bool
is_negative bits = nat_le (2 ^ 63) bits

abbrev pub exponent : ℕ → ℕ
exponent bits = bits / 2 ^ 52 % 2 ^ 11

abbrev pub significand : ℕ → ℕ
significand bits = bits % 2 ^ 52

-- so many parts of which 2^52 make one, where they make whole ones
abbrev pub whole_part : ℕ → Option ℕ
whole_part parts = if parts % 2 ^ 52 == 0 then Some (parts / 2 ^ 52) else None

-- Up to its sign. With an exponent below 1023 it is below one, with one from 1086 on 2^63 or more.
unfoldable pub normal_size : ℕ → ℕ → Option ℕ
normal_size exponent significand =
    if nat_lt exponent 1023 || nat_le 1086 exponent then None else
    whole_part ((2 ^ 52 + significand) * 2 ^ (exponent - 1023))

abbrev pub size : ℕ → Option ℕ
size bits =
    if bits % 2 ^ 63 == 0 then Some 0 else normal_size (exponent bits) (significand bits)

abbrev pub signed : Bool → ℕ → ℤ
signed true n = neg_ℤ (pos n)
signed false n = pos n

unfoldable pub integer_of : ℕ → Option ℤ
integer_of bits = option_map (signed (is_negative bits)) (size bits)

-- of the double at the front of these bytes, if there are eight
abbrev pub integer_at : List ℕ → Option ℤ
integer_at bytes =
    if nat_lt (length bytes) 8 then None else integer_of (from_le_bytes w64 (take 8 bytes))
