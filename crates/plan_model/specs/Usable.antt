-- What a filter asks of a path so that an index can serve it: to be equal to a value, or to lie
-- above or below one. Only conditions at the top of the filter count, since all of those have to
-- hold. No operand is an array: a document with an array has a key for each element, and none for
-- the array itself.
use Rattle.std.specs.Prelude.{ℕ, ◌&&◌, Bool, if◌then◌else◌, Option, Some, None, List, option_map}
use Rattle.std.specs.Option.{option_or}
use Rattle.bson.specs.Tree.{Tree, array}
use Rattle.path.specs.Parts.{is_front}
use Rattle.filter.specs.Condition.{equal, ordered, Condition, at, is, Conditions, no_conditions}
use Rattle.filter.specs.Condition.{condition}
use Rattle.filter.specs.declared.condition.Comparison.{Comparison}
use Rattle.filter.specs.declared.condition.Comparison.TheVariants.{Below, AtMost, Above, AtLeast}

-- an end of a range: how keys lie by a value
pub record Bound : Type 0 where
  pub comparison : Comparison
  pub operand : Tree

pub record Usable : Type 0 where
  pub equal : Option Tree
  pub low : Option Bound
  pub high : Option Bound

abbrev pub nothing : Usable
nothing = record { equal = None; low = None; high = None }

-- of two ends on one side, and of two values, the first written counts
abbrev pub or : Usable → Usable → Usable
or u v = record {
  equal = option_or u.equal v.equal;
  low = option_or u.low v.low;
  high = option_or u.high v.high;
}

-- ---- what one condition asks

abbrev pub no_array : Tree → Option Tree
no_array (array ts) = None
no_array t = Some t

abbrev pub bound_at : Comparison → Tree → Option Bound
bound_at c t = option_map (λ v. record { comparison = c; operand = v }) (no_array t)

abbrev pub range_of : Comparison → Tree → Usable
range_of Above t = record nothing { low = bound_at Above t }
range_of AtLeast t = record nothing { low = bound_at AtLeast t }
range_of Below t = record nothing { high = bound_at Below t }
range_of AtMost t = record nothing { high = bound_at AtMost t }

abbrev pub usable_in : Condition → Usable
usable_in (is (equal t)) = record nothing { equal = no_array t }
usable_in (is (ordered c t)) = range_of c t
usable_in r = nothing

abbrev pub gather : (Condition → Usable) → Conditions → Usable
gather give no_conditions = nothing
gather give (condition r rs) = or (give r) (gather give rs)

abbrev pub all_usable : Conditions → Usable
all_usable rs = gather usable_in rs

-- ---- what a filter asks of a path

-- each of two paths leads to the other
abbrev pub is_path : List (List ℕ) → List (List ℕ) → Bool
is_path a b = is_front a b && is_front b a

abbrev pub usable_there : List (List ℕ) → Condition → Usable
usable_there path (at parts rs) = if is_path path parts then all_usable rs else nothing
usable_there path r = nothing

abbrev pub usable : List (List ℕ) → Conditions → Usable
usable path rs = gather (usable_there path) rs
