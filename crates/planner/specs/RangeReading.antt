-- What is found by reading the entries of an index from the first key of a range to its last: every
-- document that the filter matches.
use Rattle.std.specs.Prelude.{◌≡◌, ℕ, true, false, Some, List, ◌++◌, All, Contains}
use Rattle.std.specs.Ordering.{is_lt, is_gt}
use Rattle.bson.specs.Tree.{Pairs}
use Rattle.value_order.specs.KeyText.{tree_text}
use Rattle.value_order.specs.Order.{bytes_cmp}
use Rattle.filter.specs.Condition.{Conditions}
use Rattle.filter.specs.Matches.{matches}
use Rattle.sort.specs.Sort.{SortField}
use Rattle.index.specs.Definition.{Definition}
use Rattle.index.specs.KeyTexts.{encoded_keys}
use Rattle.entry_model.specs.LawfulState.{IsStorable}
use Rattle.entry_model.specs.State.{key_of}
use Rattle.planner.specs.AnswerLaws.{IsNotedFor}
use Rattle.planner.specs.KeyRange.{place_by, IsSpellable}
use Rattle.planner.specs.KeyScan.{id_text}
use Rattle.planner.specs.KeySpan.{first_key, last_key}
use Rattle.plan_model.specs.Plan.{Range, range_in}

-- the text of an entry of one of these documents: an encoded key, and the text of the `_id`
abbrev pub IsEntryText : List Pairs → Definition → List ℕ → Type 0
IsEntryText ds i text =
    (d : Pairs) × (key : List ℕ) × Contains ds d × Contains (encoded_keys i.fields d) key
    × (text ≡ key ++ tree_text (key_of d))

-- It isn't below the first, nor above the last and what goes on from it.
abbrev pub LiesBetween : List ℕ → List ℕ → List ℕ → Type 0
LiesBetween first last text =
    (is_lt (bytes_cmp text first) ≡ false) × (is_gt (place_by last text) ≡ false)

-- Texts of entries of these documents in an index, and all that lie between the ends of a range.
pub record AreReadFrom (i : Definition) (r : Range) (ds : List Pairs)
    (texts : List (List ℕ)) : Type 0 where
  pub given : (text : List ℕ) → Contains texts text → IsEntryText ds i text
  pub all : (text : List ℕ) → IsEntryText ds i text
      → LiesBetween (first_key i.fields r) (last_key i.fields r) text → Contains texts text

-- one of the texts is of this document: the text of its `_id` is found there
abbrev pub LeadsTo : Definition → List (List ℕ) → Pairs → Type 0
LeadsTo i texts d =
    (text : List ℕ) × Contains texts text × (id_text i.fields text ≡ Some (tree_text (key_of d)))

-- Each text that is read leads to one of the documents, and to each document that the filter
-- matches one of them leads.
abbrev pub RangeFindsMatching : Type 0
RangeFindsMatching =
    (rs : Conditions) (sort : List SortField) (i : Definition) (ds : List Pairs)
    (texts : List (List ℕ))
    → let r = range_in rs sort (Some i) in
    IsNotedFor (Some i) ds → IsSpellable r → All IsStorable ds → AreReadFrom i r ds texts
    → ((text : List ℕ) → Contains texts text
    → (d : Pairs) × Contains ds d × (id_text i.fields text ≡ Some (tree_text (key_of d))))
    × ((d : Pairs) → Contains ds d → matches rs d ≡ true → LeadsTo i texts d)
