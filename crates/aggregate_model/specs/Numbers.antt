-- A total as a value: an int32 where that is asked for and it fits, else an int64. Past int64 it is
-- refused.
use Rattle.std.specs.Prelude.{ℤ, pos, negsuc, int_lt, ◌&&◌, not, Bool, if◌then◌else◌, Result, Ok}
use Rattle.std.specs.Prelude.{Err}
use Rattle.bson.specs.Tree.{Tree, scalar, int32, int64}
use Rattle.path.specs.declared.refusal.Refusal.{Refusal}
use Rattle.path.specs.declared.refusal.Refusal.TheVariants as refusals

abbrev pub is_between : ℤ → ℤ → ℤ → Bool
is_between least most z = not (int_lt z least) && not (int_lt most z)

abbrev pub fits_int32 : ℤ → Bool
fits_int32 z = is_between (negsuc 2147483647) (pos 2147483647) z

abbrev pub fits_int64 : ℤ → Bool
fits_int64 z = is_between (negsuc 9223372036854775807) (pos 9223372036854775807) z

abbrev pub total_value : Bool → ℤ → Result Tree Refusal
total_value narrow z =
    if narrow && fits_int32 z then Ok (scalar (int32 z)) else
    if fits_int64 z then Ok (scalar (int64 z)) else
    Err refusals.BadValue
