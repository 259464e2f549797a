-- The `_id`s to which the entries of an index lead, and that a filter selects of their documents
-- what it selects of all.
use Rattle.std.specs.Prelude.{◌≡◌, ℕ, Some, List, map, All}
use Rattle.std.specs.List.{AllByRecursion, filter, flat_map}
use Rattle.std.specs.Option.{option_to_list}
use Rattle.bson.specs.Tree.{Pairs}
use Rattle.value_order.specs.KeyText.{tree_text}
use Rattle.filter.specs.Condition.{Conditions}
use Rattle.filter.specs.Matches.{matches}
use Rattle.sort.specs.Sort.{SortField}
use Rattle.index.specs.Definition.{Field, Definition}
use Rattle.index.specs.KeyTexts.{ascending_set}
use Rattle.entry_model.specs.LawfulState.{IsStorable, IsRising}
use Rattle.entry_model.specs.State.{key_of}
use Rattle.entry_model.specs.StateReads.{find_document}
use Rattle.planner.specs.AnswerLaws.{IsNotedFor}
use Rattle.planner.specs.KeyRange.{IsSpellable}
use Rattle.planner.specs.KeyScan.{id_text}
use Rattle.plan_model.specs.Plan.{range_in}
use Rattle.planner.specs.RangeReading.{AreReadFrom}

-- the texts of the `_id`s in the texts of entries
abbrev pub ids_of : List Field → List (List ℕ) → List (List ℕ)
ids_of fields texts = flat_map (λ text. option_to_list (id_text fields text)) texts

-- each of them once, ascending
abbrev pub ids_in : List Field → List (List ℕ) → List (List ℕ)
ids_in fields texts = ascending_set (ids_of fields texts)

-- These are the texts of the `_id`s of some of the documents, each of which is found by its `_id`,
-- in their order; and the filter selects of them what it selects of all.
pub record LeadToMatching (rs : Conditions) (ds : List Pairs) (ids : List (List ℕ)) : Type 0 where
  pub documents : List Pairs
  pub spelled : ids ≡ map (λ d. tree_text (key_of d)) documents
  pub found : AllByRecursion (λ d. find_document ds (key_of d) ≡ Some d) documents
  pub selects : filter (matches rs) documents ≡ filter (matches rs) ds

-- So it is of the `_id`s in what is read of an index in the range that the filter gives there.
abbrev pub IdsLeadToMatching : Type 0
IdsLeadToMatching =
    (rs : Conditions) (sort : List SortField) (i : Definition) (ds : List Pairs)
    (texts : List (List ℕ))
    → let r = range_in rs sort (Some i) in
    IsNotedFor (Some i) ds → IsSpellable r → All IsStorable ds → IsRising ds
    → AreReadFrom i r ds texts
    → LeadToMatching rs ds (ids_in i.fields texts)
