-- What is known of documents that a filter matches, where an index has a range for it.
use Rattle.std.specs.Prelude.{◌≡◌, ℕ, List, Some, Contains}
use Rattle.filter.specs.Condition.{Conditions}
use Rattle.sort.specs.Sort.{SortField}
use Rattle.index.specs.Definition.{Definition}
use Rattle.collections.specs.IndexTexts.{AreTextsBetween, Indexed}
use Rattle.planner.specs.FoundIds.{ids_of}
use Rattle.planner.specs.KeyRange.{IsSpellable}
use Rattle.planner.specs.KeySpan.{first_key, last_key}
use Rattle.plan_model.specs.Plan.{Range, range_in}

-- The range is what the filter and a sort give in one of the indexes.
pub record IsRangeOf (rs : Conditions) (sort : List SortField) (indexes : List Definition)
    (r : Range) : Type 0 where
  pub definition : Definition
  pub index : r.index ≡ Some definition
  pub there : Contains indexes definition
  pub given : r ≡ range_in rs sort (Some definition)
  pub spellable : IsSpellable r

-- The texts of the `_id`s in the entries of the index in the range, in the order of the entries.
pub record AreIdsInRange (r : Range) (at : Indexed) (ids : List (List ℕ)) : Type 0 where
  pub texts : List (List ℕ)
  pub between : AreTextsBetween (first_key at.definition.fields r)
      (last_key at.definition.fields r) at texts
  pub found : ids ≡ ids_of at.definition.fields texts
