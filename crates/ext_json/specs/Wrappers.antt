-- The names that begin a wrapper (MongoDB Extended JSON v2, "Conversion table").
use Rattle.std.specs.Prelude.{ℕ, ◌||◌, Bool, if◌then◌else◌, Option, Some, None, List, codes}
use Rattle.std.specs.Str.{bytes_eq}
use Rattle.ext_json.specs.declared.wrapper.Wrapper.{Wrapper}
use Rattle.ext_json.specs.declared.wrapper.Wrapper.TheVariants as wrappers

unfoldable pub known_wrapper : List ℕ → Option Wrapper
known_wrapper name =
    if bytes_eq name (codes "$numberInt") then Some wrappers.NumberInt else
    if bytes_eq name (codes "$numberLong") then Some wrappers.NumberLong else
    if bytes_eq name (codes "$oid") then Some wrappers.ObjectId else
    if bytes_eq name (codes "$date") then Some wrappers.Date else
    if bytes_eq name (codes "$binary") then Some wrappers.Binary else
    if bytes_eq name (codes "$uuid") then Some wrappers.Uuid else
    if bytes_eq name (codes "$timestamp") then Some wrappers.Timestamp else
    if bytes_eq name (codes "$minKey") then Some wrappers.MinKey else
    if bytes_eq name (codes "$maxKey") then Some wrappers.MaxKey else
    None

-- the name begins a wrapper of a type that no document here holds
unfoldable pub is_unsupported : List ℕ → Bool
is_unsupported name =
    bytes_eq name (codes "$numberDouble") || (bytes_eq name (codes "$numberDecimal")
    || (bytes_eq name (codes "$regularExpression") || (bytes_eq name (codes "$symbol")
    || (bytes_eq name (codes "$code") || (bytes_eq name (codes "$dbPointer")
    || bytes_eq name (codes "$undefined"))))))

abbrev pub wrapper_named : List ℕ → Option Wrapper
wrapper_named name = if is_unsupported name then Some wrappers.Unsupported else known_wrapper name

-- the wrapper that an object with this first name is
abbrev pub wrapper_in : Option (List ℕ) → Option Wrapper
wrapper_in None = None
wrapper_in (Some name) = wrapper_named name
