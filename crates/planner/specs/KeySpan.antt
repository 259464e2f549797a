-- Between which bytes the keys of a range lie: where a walk begins, and where it may end.
use Rattle.std.specs.Prelude.{◌≡◌, ℕ, true, false, Option, Some, None, List, [], ◌∷◌, ◌++◌, length}
use Rattle.std.specs.Prelude.{take, drop}
use Rattle.std.specs.Ordering.{is_lt, is_gt}
use Rattle.value_order.specs.Order.{value, bytes_cmp}
use Rattle.value_order.specs.KeyText.{directed_text}
use Rattle.value_order.specs.declared.texts.Direction.{Direction}
use Rattle.value_order.specs.declared.texts.Direction.TheVariants.{Ascending, Descending}
use Rattle.filter.specs.Condition.{Conditions}
use Rattle.sort.specs.Sort.{SortField}
use Rattle.index.specs.Definition.{Field, Definition}
use Rattle.plan_model.specs.Usable.{Bound}
use Rattle.plan_model.specs.Plan.{Range, fields_of, range_in}
use Rattle.planner.specs.KeyRange.{front_text, place_by, has_bytes}

abbrev pub bound_text : Direction → Bound → List ℕ
bound_text d b = directed_text d (value b.operand)

-- the text at one end; where only the other end has one, the byte of its class, since all keys of
-- the range are of that
abbrev pub end_text : Direction → Option Bound → Option Bound → List ℕ
end_text d (Some b) other = bound_text d b
end_text d None (Some b) = take 1 (bound_text d b)
end_text d None None = []

-- of the two ends the one that comes first in this direction
abbrev pub least_end : Direction → Option Bound → Option Bound → List ℕ
least_end Ascending low high = end_text Ascending low high
least_end Descending low high = end_text Descending high low

-- the least of what follows the front; with the ends exchanged, the greatest
abbrev pub least_text : Option Bound → Option Bound → List Field → List ℕ
least_text low high [] = []
least_text low high (f ∷ fs) = least_end f.direction low high

-- a walk begins here, and ends with what goes on from there
abbrev pub first_key : List Field → Range → List ℕ
first_key fs r = front_text fs r.equal ++ least_text r.low r.high (drop (length r.equal) fs)

abbrev pub last_key : List Field → Range → List ℕ
last_key fs r = front_text fs r.equal ++ least_text r.high r.low (drop (length r.equal) fs)

-- No key of the range is below the first or above the last.
abbrev pub SpansRange : Type 0
SpansRange =
    (rs : Conditions) (sort : List SortField) (index : Option Definition) (key : List ℕ)
    → let r = range_in rs sort index in let fs = fields_of index in
    has_bytes fs r key ≡ true
    → (is_lt (bytes_cmp key (first_key fs r)) ≡ false)
    × (is_gt (place_by (last_key fs r) key) ≡ false)
