-- What is known of the first entries of an index in the order of a sort.
use Rattle.std.specs.Prelude.{◌≡◌, ◌≤◌, ℕ, Bool, true, List, length, take}
use Rattle.std.specs.List.{filter}
use Rattle.bson.specs.Tree.{Tree}
use Rattle.filter.specs.Condition.{Conditions}
use Rattle.filter.specs.Matches.{matches}
use Rattle.sort.specs.Sort.{SortField, order}
use Rattle.entry_model.specs.State.{Collection}
use Rattle.collections.specs.IndexTexts.{AreFirstTexts, Indexed}
use Rattle.collections.specs.Lookups.{IsNumbered}
use Rattle.planner.specs.FoundIds.{ids_of}
use Rattle.planner.specs.IdLaws.{AreIdTexts, found_by}
use Rattle.planner.specs.KeySpan.{first_key, last_key}
use Rattle.plan_model.specs.Plan.{Range}

-- The texts of the `_id`s in the first entries of the index in the range, in the order of the
-- entries, and whether these are all.
pub record AreFirstIds (r : Range) (at : Indexed) (are_all : Bool)
    (ids : List (List ℕ)) : Type 0 where
  pub texts : List (List ℕ)
  pub first : AreFirstTexts (first_key at.definition.fields r) (last_key at.definition.fields r)
      at are_all texts
  pub found : ids ≡ ids_of at.definition.fields texts

-- These texts tell `_id`s, and of their documents those that the filter matches are the first ones
-- in the order of a sort, or all.
pub record LeadInOrder (number : ℕ) (rs : Conditions) (sort : List SortField) (are_all : Bool)
    (texts : List (List ℕ)) (now : List Collection) (c : Collection) : Type 0 where
  pub numbered : IsNumbered now c number
  pub ids : List Tree
  pub told : AreIdTexts texts ids
  pub first : let few = filter (matches rs) (found_by c.documents ids) in
      few ≡ take (length few) (order sort (filter (matches rs) c.documents))
  pub all : are_all ≡ true → let few = filter (matches rs) (found_by c.documents ids) in
      length (filter (matches rs) c.documents) ≤ length few
