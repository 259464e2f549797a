-- How the documents of a find are found: by a scan of the collection, or by a range of one index.
use Rattle.std.specs.Prelude.{ℕ, ◌+◌, ◌*◌, ◌==◌, nat_lt, ◌&&◌, ◌||◌, not, Bool, true, false}
use Rattle.std.specs.Prelude.{if◌then◌else◌, Option, Some, None, List, [], ◌∷◌, length, drop, map}
use Rattle.std.specs.Prelude.{codes, is_some}
use Rattle.bson.specs.Tree.{Tree}
use Rattle.path.specs.Parts.{parts_of}
use Rattle.filter.specs.Condition.{Conditions}
use Rattle.sort.specs.Sort.{SortField}
use Rattle.value_order.specs.declared.texts.Direction.{Direction}
use Rattle.value_order.specs.declared.texts.Direction.TheVariants.{Ascending, Descending}
use Rattle.index.specs.Definition.{Field, Definition}
use Rattle.plan_model.specs.Usable.{Bound, Usable, nothing, is_path, usable}

-- A range of an index: the keys that begin with values equal to these, and of which the next one
-- lies between the ends.
pub record Range : Type 0 where
  -- none is the index on `_id`, which every collection has
  pub index : Option Definition
  pub equal : List Tree
  pub low : Option Bound
  pub high : Option Bound
  -- its keys stand in the order of the sort
  pub is_sorted : Bool

pub data Plan : Type 0 where
  scan : Plan
  by_index : Range → Plan

-- ---- an index

abbrev pub id_field : Field
id_field = record { path = codes "_id"; direction = Ascending }

abbrev pub fields_of : Option Definition → List Field
fields_of None = id_field ∷ []
fields_of (Some d) = d.fields

abbrev pub is_multi : Option Definition → Bool
is_multi None = false
is_multi (Some d) = d.is_multi

-- ---- the range that a filter gives in it

abbrev pub asked_of : Field → Conditions → Usable
asked_of f rs = usable (parts_of f.path) rs

abbrev pub and_then : Option Tree → List Tree → List Tree
and_then None ts = []
and_then (Some t) ts = t ∷ ts

-- the values that the leading fields have to be equal to, up to the first field without one
abbrev pub leading : Conditions → List Field → List Tree
leading rs [] = []
leading rs (f ∷ fs) = and_then (asked_of f rs).equal (leading rs fs)

-- what is asked of the first of the fields that are left
abbrev pub asked_next : Conditions → List Field → Usable
asked_next rs [] = nothing
asked_next rs (f ∷ fs) = asked_of f rs

-- In a multikey index one key of a document may meet the lower end and another the upper one, and
-- none both: so the upper end counts only where there is no lower one.
abbrev pub upper_beside : Bool → Option Bound → Option Bound → Option Bound
upper_beside multi low high = if multi && is_some low then None else high

abbrev pub is_direction : Bool → Direction → Bool
is_direction descending Ascending = not descending
is_direction descending Descending = descending

-- a field of the sort is one of the index, path and direction
abbrev pub is_sorted_at : SortField → Field → Bool
is_sorted_at s f = is_path (parts_of f.path) s.0 && is_direction s.1 f.direction

-- the sort has exactly these paths and directions
abbrev pub sorts_as : List SortField → List Field → Bool
sorts_as [] [] = true
sorts_as [] (f ∷ fs) = false
sorts_as (s ∷ ss) [] = false
sorts_as (s ∷ ss) (f ∷ fs) = is_sorted_at s f && sorts_as ss fs

abbrev pub range_in : Conditions → List SortField → Option Definition → Range
range_in rs sort index =
    let fields = fields_of index in
    let equal = leading rs fields in
    let next = asked_next rs (drop (length equal) fields) in
    record {
      index = index;
      equal = equal;
      low = next.low;
      high = upper_beside (is_multi index) next.low next.high;
      is_sorted = not (is_multi index) && sorts_as sort fields;
    }

-- ---- the choice

abbrev pub has_end : Range → Bool
has_end r = is_some r.low || is_some r.high

-- The more leading values the better, then a range of the next one, then the order of the sort:
-- neither of the last two outweighs what stands before it. 0 is an index that doesn't help.
abbrev pub rank : Range → ℕ
rank r = 4 * length r.equal + ((if has_end r then 2 else 0) + (if r.is_sorted then 1 else 0))

-- the first of the greatest rank
abbrev pub best : Range → List Range → Range
best r [] = r
best r (s ∷ ss) = best (if nat_lt (rank r) (rank s) then s else r) ss

abbrev pub plan_of : Range → Plan
plan_of r = if rank r == 0 then scan else by_index r

-- The index on `_id` comes first, then the others in the order in which they were made.
abbrev pub choose : Conditions → List SortField → List Definition → Plan
choose rs sort indexes =
    plan_of (best (range_in rs sort None) (map (λ d. range_in rs sort (Some d)) indexes))
