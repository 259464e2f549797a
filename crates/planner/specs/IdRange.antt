-- What is found by walking through the documents in a range of `_id`s: all that the filter matches.
use Rattle.std.specs.Prelude.{◌≡◌, Bool, true, Some, None, List, All}
use Rattle.std.specs.List.{filter}
use Rattle.bson.specs.Tree.{Pairs}
use Rattle.value_order.specs.KeyText.{tree_text}
use Rattle.filter.specs.Condition.{Conditions}
use Rattle.filter.specs.Matches.{matches}
use Rattle.sort.specs.Sort.{SortField}
use Rattle.entry_model.specs.LawfulState.{IsStorable}
use Rattle.entry_model.specs.State.{key_of}
use Rattle.planner.specs.KeyRange.{IsSpellable}
use Rattle.planner.specs.KeySpan.{first_key, last_key}
use Rattle.plan_model.specs.Plan.{Range, fields_of, range_in}
use Rattle.planner.specs.RangeReading.{LiesBetween}
use Rattle.plan_model.specs.Usable.{no_array}

-- the `_id` is no array
abbrev pub HasPlainId : Pairs → Type 0
HasPlainId d = no_array (key_of d) ≡ Some (key_of d)

-- the text of the `_id` lies between the ends of a range of the index on `_id`
abbrev pub HasIdBetween : Range → Pairs → Type 0
HasIdBetween r d =
    LiesBetween (first_key (fields_of None) r) (last_key (fields_of None) r) (tree_text (key_of d))

-- A stored document that the filter matches has its `_id` in the range that the filter gives in the
-- index on `_id`.
abbrev pub HasIdInRange : Type 0
HasIdInRange =
    (rs : Conditions) (sort : List SortField) (d : Pairs)
    → IsSpellable (range_in rs sort None) → IsStorable d → HasPlainId d → matches rs d ≡ true
    → HasIdBetween (range_in rs sort None) d

-- So where all documents of the range are given, whichever others are, the filter selects of them
-- what it selects of all.
abbrev pub IdRangeSelects : Type 0
IdRangeSelects =
    (rs : Conditions) (sort : List SortField) (given : Pairs → Bool) (ds : List Pairs)
    → let r = range_in rs sort None in
    IsSpellable r → All IsStorable ds → All HasPlainId ds
    → ((d : Pairs) → HasIdBetween r d → given d ≡ true)
    → filter (matches rs) (filter given ds) ≡ filter (matches rs) ds
