-- The operators that a filter knows, and the kinds that `$type` does.
use Rattle.std.specs.Prelude.{ℕ, ℤ, pos, negsuc, zero, suc, ◌==◌, if◌then◌else◌, Option, Some, None}
use Rattle.std.specs.Prelude.{Result, Ok, Err, List, [], ◌∷◌, ◌++◌, codes}
use Rattle.std.specs.Str.{bytes_eq}
use Rattle.bson.specs.Tree.{Tree, scalar, text, int32, int64, array, Items, no_items, item}
use Rattle.bson.specs.declared.kind.Kind.{Kind}
use Rattle.bson.specs.declared.kind.Kind.TheVariants as kinds
use Rattle.path.specs.Edits.{if_ok}
use Rattle.path.specs.declared.refusal.Refusal.{Refusal}
use Rattle.path.specs.declared.refusal.Refusal.TheVariants as refusals
use Rattle.filter.specs.declared.operator.Operator.{Operator}
use Rattle.filter.specs.declared.operator.Operator.TheVariants as operators

-- those that look at values; `$elemMatch` and `$not` look at operators and filters
abbrev pub operator_of : List ℕ → Option Operator
operator_of name =
    if bytes_eq name (codes "$eq") then Some operators.Equal else
    if bytes_eq name (codes "$gt") then Some operators.Above else
    if bytes_eq name (codes "$gte") then Some operators.AtLeast else
    if bytes_eq name (codes "$lt") then Some operators.Below else
    if bytes_eq name (codes "$lte") then Some operators.AtMost else
    if bytes_eq name (codes "$in") then Some operators.In else
    if bytes_eq name (codes "$exists") then Some operators.Exists else
    if bytes_eq name (codes "$type") then Some operators.Type else
    if bytes_eq name (codes "$all") then Some operators.All else
    if bytes_eq name (codes "$size") then Some operators.Size else
    if bytes_eq name (codes "$ne") then Some operators.NotEqual else
    if bytes_eq name (codes "$nin") then Some operators.NotIn else
    None

abbrev pub kind_named : List ℕ → Option Kind
kind_named name =
    if bytes_eq name (codes "string") then Some kinds.String else
    if bytes_eq name (codes "object") then Some kinds.Document else
    if bytes_eq name (codes "array") then Some kinds.Array else
    if bytes_eq name (codes "binData") then Some kinds.Binary else
    if bytes_eq name (codes "objectId") then Some kinds.ObjectId else
    if bytes_eq name (codes "bool") then Some kinds.Bool else
    if bytes_eq name (codes "date") then Some kinds.Date else
    if bytes_eq name (codes "null") then Some kinds.Null else
    if bytes_eq name (codes "int") then Some kinds.Int32 else
    if bytes_eq name (codes "timestamp") then Some kinds.Timestamp else
    if bytes_eq name (codes "long") then Some kinds.Int64 else
    if bytes_eq name (codes "minKey") then Some kinds.MinKey else
    if bytes_eq name (codes "maxKey") then Some kinds.MaxKey else
    None

abbrev pub kind_counted : ℕ → Option Kind
kind_counted n =
    if n == 2 then Some kinds.String else
    if n == 3 then Some kinds.Document else
    if n == 4 then Some kinds.Array else
    if n == 5 then Some kinds.Binary else
    if n == 7 then Some kinds.ObjectId else
    if n == 8 then Some kinds.Bool else
    if n == 9 then Some kinds.Date else
    if n == 10 then Some kinds.Null else
    if n == 16 then Some kinds.Int32 else
    if n == 17 then Some kinds.Timestamp else
    if n == 18 then Some kinds.Int64 else
    if n == 127 then Some kinds.MaxKey else
    None

-- the number of `minKey` is -1
abbrev pub kind_numbered : ℤ → Option Kind
kind_numbered (pos n) = kind_counted n
kind_numbered (negsuc zero) = Some kinds.MinKey
kind_numbered (negsuc (suc n)) = None

abbrev pub only_kind : Option Kind → Result (List Kind) Refusal
only_kind None = Err refusals.BadValue
only_kind (Some k) = Ok (k ∷ [])

abbrev pub kinds_named : List ℕ → Result (List Kind) Refusal
kinds_named name = if bytes_eq name (codes "number") then Ok (kinds.Int32 ∷ kinds.Int64 ∷ [])
    else only_kind (kind_named name)

-- the kinds that a name or a number stands for
abbrev pub kinds_in : Tree → Result (List Kind) Refusal
kinds_in (scalar (text name)) = kinds_named name
kinds_in (scalar (int32 z)) = only_kind (kind_numbered z)
kinds_in (scalar (int64 z)) = only_kind (kind_numbered z)
kinds_in t = Err refusals.TypeMismatch

abbrev pub each_kind : Items → Result (List Kind) Refusal
each_kind no_items = Ok []
each_kind (item t ts) = if_ok (kinds_in t) (λ ks. if_ok (each_kind ts) (λ ls. Ok (ks ++ ls)))

abbrev pub all_kinds : Tree → Result (List Kind) Refusal
all_kinds (array ts) = each_kind ts
all_kinds t = kinds_in t

-- a size is a whole number that isn't negative
abbrev pub size_of : ℤ → Result ℕ Refusal
size_of (pos n) = Ok n
size_of (negsuc n) = Err refusals.BadValue

abbrev pub size_in : Tree → Result ℕ Refusal
size_in (scalar (int32 z)) = size_of z
size_in (scalar (int64 z)) = size_of z
size_in t = Err refusals.BadValue
