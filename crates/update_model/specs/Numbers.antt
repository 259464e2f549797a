-- `$inc` adds a number to one that stands at a path, or puts it there.
use Rattle.std.specs.Prelude.{ℤ, pos, negsuc, ◌+ℤ◌, int_lt, ◌&&◌, not, Bool, if◌then◌else◌, Option}
use Rattle.std.specs.Prelude.{Some, None, Result, Ok, Err}
use Rattle.bson.specs.Tree.{Tree, scalar, int32 as int32_scalar, int64 as int64_scalar}
use Rattle.path.specs.declared.refusal.Refusal.{Refusal}
use Rattle.path.specs.declared.refusal.Refusal.TheVariants as refusals
use Rattle.path.specs.Edits.{if_ok}
use Rattle.update_model.specs.Update.{Number, int32, int64}

abbrev pub number_in : Tree → Result Number Refusal
number_in (scalar (int32_scalar z)) = Ok (int32 z)
number_in (scalar (int64_scalar z)) = Ok (int64 z)
number_in t = Err refusals.TypeMismatch

abbrev pub number_tree : Number → Tree
number_tree (int32 z) = scalar (int32_scalar z)
number_tree (int64 z) = scalar (int64_scalar z)

abbrev pub is_between : ℤ → ℤ → ℤ → Bool
is_between least most z = not (int_lt z least) && not (int_lt most z)

abbrev pub fits_int32 : ℤ → Bool
fits_int32 z = is_between (negsuc 2147483647) (pos 2147483647) z

abbrev pub fits_int64 : ℤ → Bool
fits_int64 z = is_between (negsuc 9223372036854775807) (pos 9223372036854775807) z

abbrev pub as_int64 : ℤ → Result Number Refusal
as_int64 z = if fits_int64 z then Ok (int64 z) else Err refusals.BadValue

-- Two of int32 give an int32 where their sum fits, any other two an int64. A sum past int64 is
-- refused.
abbrev pub sum : Number → Number → Result Number Refusal
sum (int32 a) (int32 b) = if fits_int32 (a +ℤ b) then Ok (int32 (a +ℤ b)) else Ok (int64 (a +ℤ b))
sum (int32 a) (int64 b) = as_int64 (a +ℤ b)
sum (int64 a) (int32 b) = as_int64 (a +ℤ b)
sum (int64 a) (int64 b) = as_int64 (a +ℤ b)

abbrev pub incremented : Number → Option Tree → Result Tree Refusal
incremented by None = Ok (number_tree by)
incremented by (Some t) = if_ok (number_in t) (λ n. if_ok (sum n by) (λ m. Ok (number_tree m)))
