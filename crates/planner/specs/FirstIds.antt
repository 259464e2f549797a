-- The first entries of an index in the order of a sort: the documents to which they lead, as far as
-- a filter matches them, are the first ones of the answer.
use Rattle.std.specs.Prelude.{◌≡◌, ◌⊎◌, ℕ, true, Some, List, length, map, take, All, Contains}
use Rattle.std.specs.List.{AllByRecursion, AllPairs, filter}
use Rattle.std.specs.declared.cmp.Ordering.TheVariants.{Less}
use Rattle.bson.specs.Tree.{Pairs}
use Rattle.value_order.specs.KeyText.{tree_text}
use Rattle.value_order.specs.Order.{bytes_cmp}
use Rattle.filter.specs.Condition.{Conditions}
use Rattle.filter.specs.Matches.{matches}
use Rattle.sort.specs.Sort.{SortField, order}
use Rattle.index.specs.Definition.{Definition}
use Rattle.entry_model.specs.LawfulState.{IsStorable, IsRising}
use Rattle.entry_model.specs.State.{key_of}
use Rattle.entry_model.specs.StateReads.{find_document}
use Rattle.planner.specs.AnswerLaws.{IsNotedFor}
use Rattle.planner.specs.FoundIds.{ids_of}
use Rattle.planner.specs.KeyRange.{IsSpellable}
use Rattle.planner.specs.KeySpan.{first_key, last_key}
use Rattle.plan_model.specs.Plan.{Range, range_in}
use Rattle.planner.specs.RangeReading.{IsEntryText, LiesBetween}

-- Texts of entries of these documents in an index, ascending; another one that lies between the
-- ends of a range is above all of them.
pub record AreFirstReadFrom (i : Definition) (r : Range) (ds : List Pairs)
    (texts : List (List ℕ)) : Type 0 where
  pub rise : AllPairs (λ s t. bytes_cmp s t ≡ Less) texts
  pub given : (text : List ℕ) → Contains texts text → IsEntryText ds i text
  pub above : (text other : List ℕ) → IsEntryText ds i text
      → LiesBetween (first_key i.fields r) (last_key i.fields r) text → Contains texts other
      → Contains texts text ⊎ (bytes_cmp other text ≡ Less)

-- All that lie between the ends are among them.
abbrev pub AreAllOf : Definition → Range → List Pairs → List (List ℕ) → Type 0
AreAllOf i r ds texts = (text : List ℕ) → IsEntryText ds i text
    → LiesBetween (first_key i.fields r) (last_key i.fields r) text → Contains texts text

-- These are the texts of the `_id`s of some of the documents, each of which is found by its `_id`,
-- in the order of the texts; and those of them that the filter matches are the first ones of the
-- answer, and the whole of it where all were read.
pub record LeadToFirst (rs : Conditions) (sort : List SortField) (ds : List Pairs)
    (AllRead : Type 0)
    (ids : List (List ℕ)) : Type 0 where
  pub documents : List Pairs
  pub spelled : ids ≡ map (λ d. tree_text (key_of d)) documents
  pub found : AllByRecursion (λ d. find_document ds (key_of d) ≡ Some d) documents
  pub first : let few = filter (matches rs) documents in
      few ≡ take (length few) (order sort (filter (matches rs) ds))
  pub whole : AllRead → filter (matches rs) documents ≡ order sort (filter (matches rs) ds)

-- So it is of the `_id`s in what is read first of an index in a range that is in the order of the
-- sort.
abbrev pub FirstIdsLead : Type 0
FirstIdsLead =
    (rs : Conditions) (sort : List SortField) (i : Definition) (ds : List Pairs)
    (texts : List (List ℕ))
    → let r = range_in rs sort (Some i) in
    r.is_sorted ≡ true → IsNotedFor (Some i) ds → IsSpellable r → All IsStorable ds → IsRising ds
    → AreFirstReadFrom i r ds texts
    → LeadToFirst rs sort ds (AreAllOf i r ds texts) (ids_of i.fields texts)
