-- Whole numbers in decimal.
use Rattle.std.specs.Prelude.{ℕ, ℤ, pos, neg_ℤ, ◌^◌, ◌==◌, ◌&&◌, nat_lt, Bool, false, not}
use Rattle.std.specs.Prelude.{if◌then◌else◌, List, [], ◌∷◌, length, Result, Ok}
use Rattle.std.specs.List.{list_all}
use Rattle.std.specs.Char.{is_ascii_digit}
use Rattle.std.specs.Str.Parse.{digits_value}
use Rattle.outcome.specs.Outcome.{◌>>=◌, unless}
use Rattle.bson.specs.Tree.{Tree, scalar, int32, int64}
use Rattle.ext_json.specs.Written.{is_within, is_int32}
use Rattle.ext_json.specs.declared.fault.ExtJsonFault.{ExtJsonFault}
use Rattle.ext_json.specs.declared.fault.ExtJsonFault.TheVariants as faults

-- digits, one or more
abbrev pub are_digits : List ℕ → Bool
are_digits s = not (length s == 0) && list_all is_ascii_digit s

-- digits, and a minus before them or none
unfoldable pub is_whole : List ℕ → Bool
is_whole [] = false
is_whole (c ∷ cs) = if c == 45 then are_digits cs else are_digits (c ∷ cs)

-- the number that they write
unfoldable pub whole_value : List ℕ → ℤ
whole_value [] = pos 0
whole_value (c ∷ cs) =
    if c == 45 then neg_ℤ (pos (digits_value 10 cs)) else pos (digits_value 10 (c ∷ cs))

abbrev pub is_int64 : ℤ → Bool
is_int64 z = is_within (2 ^ 63) z

-- the number that a text is, of those that pass a test, or else this fault where it is none
abbrev pub whole_in : (ℤ → Bool) → ExtJsonFault → List ℕ → Result ℤ ExtJsonFault
whole_in fits fault s =
    unless (not (is_whole s)) fault
    (unless (not (fits (whole_value s))) faults.Range (Ok (whole_value s)))

unfoldable pub int64_in : ExtJsonFault → List ℕ → Result ℤ ExtJsonFault
int64_in fault s = whole_in is_int64 fault s

unfoldable pub int32_in : List ℕ → Result ℤ ExtJsonFault
int32_in s = whole_in is_int32 faults.Wrapper s

-- a half of a timestamp
unfoldable pub half_in : List ℕ → Result ℕ ExtJsonFault
half_in s =
    unless (not (are_digits s)) faults.Wrapper
    (unless (not (nat_lt (digits_value 10 s) (2 ^ 32))) faults.Range (Ok (digits_value 10 s)))

abbrev pub plain_number : ℤ → Tree
plain_number z = if is_int32 z then scalar (int32 z) else scalar (int64 z)

-- a plain number: an int32 where it fits, else an int64
unfoldable pub number_tree : List ℕ → Result Tree ExtJsonFault
number_tree s = int64_in faults.Fraction s >>= λ z. Ok (plain_number z)
