-- The choice of a plan in its own words, without a rank.
use Rattle.std.specs.Prelude.{◌≡◌, ◌<◌, ◌⊎◌, true, false, Some, None, List, [], ◌∷◌, ◌++◌, length}
use Rattle.std.specs.Prelude.{map}
use Rattle.std.specs.List.{AllByRecursion}
use Rattle.filter.specs.Condition.{Conditions}
use Rattle.sort.specs.Sort.{SortField}
use Rattle.index.specs.Definition.{Definition}
use Rattle.plan_model.specs.Plan.{Range, Plan, scan, by_index, range_in, has_end, choose}

-- what the filter and the sort give in each index
abbrev pub all_ranges : Conditions → List SortField → List Definition → List Range
all_ranges rs sort indexes =
    range_in rs sort None ∷ map (λ d. range_in rs sort (Some d)) indexes

-- It has more leading values; or as many, and an end where the other has none; or that alike, and
-- it alone is in the order of the sort.
abbrev pub Outranks : Range → Range → Type 0
Outranks r s =
    (length s.equal < length r.equal)
    ⊎ ((length s.equal ≡ length r.equal)
    × (((has_end s ≡ false) × (has_end r ≡ true))
    ⊎ ((has_end s ≡ has_end r) × (s.is_sorted ≡ false) × (r.is_sorted ≡ true))))

-- it has no leading value, no end and not the order of the sort
abbrev pub IsNoHelp : Range → Type 0
IsNoHelp r = (r.equal ≡ []) × (has_end r ≡ false) × (r.is_sorted ≡ false)

-- the first of these that none outranks
pub record IsFirstBest (ranges : List Range) (r : Range) : Type 0 where
  pub before : List Range
  pub behind : List Range
  pub stands_there : ranges ≡ before ++ r ∷ behind
  pub above_those : AllByRecursion (λ s. Outranks r s) before
  pub not_below : AllByRecursion (λ s. ¬ Outranks s r) behind

abbrev pub IsChosen : List Range → Plan → Type 0
IsChosen ranges scan = AllByRecursion IsNoHelp ranges
IsChosen ranges (by_index r) = IsFirstBest ranges r × (¬ IsNoHelp r)

-- The plan is the first index that none outranks, where it helps; else no index helps, and it is a
-- scan.
abbrev pub ChoosesFirstBest : Type 0
ChoosesFirstBest =
    (rs : Conditions) (sort : List SortField) (indexes : List Definition)
    → IsChosen (all_ranges rs sort indexes) (choose rs sort indexes)
