-- That distinct values are those that were found, each once.
use Rattle.std.specs.Prelude.{◌≡◌, Bool, true, List, []}
use Rattle.std.specs.List.{AllByRecursion, Contains, list_any}
use Rattle.std.specs.List.Sorted.{IsStrictlySortedBy}
use Rattle.std.specs.Ordering.{is_eq}
use Rattle.bson.specs.Tree.{Tree}
use Rattle.value_order.specs.Order.{compare}
use Rattle.distinct_values.specs.DistinctValues.{with_values}

-- an equal value is among these
abbrev pub has_equal : List Tree → Tree → Bool
has_equal values t = list_any (λ u. is_eq (compare t u)) values

-- The values rise, so no two of them are equal; each was found; and of each that was found an equal
-- one is among them.
pub record AreDistinctOf (found values : List Tree) : Type 0 where
  pub rising : IsStrictlySortedBy compare values
  pub only : AllByRecursion (Contains found) values
  pub all : AllByRecursion (λ t. has_equal values t ≡ true) found

abbrev pub EachOnce : Type 0
EachOnce = (found : List Tree) → AreDistinctOf found (with_values [] found)
