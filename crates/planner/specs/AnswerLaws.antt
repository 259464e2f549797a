-- That an index never changes an answer: whatever way documents are found, those that match stand
-- in one order.
use Rattle.std.specs.Prelude.{◌≡◌, ◌⊎◌, ℕ, length, take, true, Option, Some, List, All}
use Rattle.std.specs.List.{AllPairs, Contains, filter, list_any}
use Rattle.std.specs.Ordering.{ordering_then}
use Rattle.std.specs.declared.cmp.Ordering.{Ordering}
use Rattle.std.specs.declared.cmp.Ordering.TheVariants.{Less}
use Rattle.bson.specs.Tree.{Pairs}
use Rattle.value_order.specs.KeyText.{tree_text}
use Rattle.value_order.specs.Order.{Key, bytes_cmp, compare}
use Rattle.filter.specs.Condition.{Conditions}
use Rattle.filter.specs.Matches.{matches}
use Rattle.sort.specs.Sort.{SortField, compare_by, order}
use Rattle.index.specs.Definition.{Definition}
use Rattle.index.specs.IndexKeys.{index_keys, is_multikey}
use Rattle.index.specs.KeyTexts.{key_bytes, encoded_keys, entry_key}
use Rattle.entry_model.specs.State.{Collection, key_of}
use Rattle.entry_model.specs.LawfulState.{IsStorable, IsRising, IsKept}
use Rattle.plan_model.specs.Plan.{Range, fields_of, is_multi, range_in}
use Rattle.planner.specs.KeyRange.{has_bytes, IsSpellable}

-- the order of an answer: by the sort, then by `_id`
abbrev pub answer_cmp : List SortField → Pairs → Pairs → Ordering
answer_cmp fields d e = ordering_then (compare_by fields d e) (compare (key_of d) (key_of e))

-- each document is below those behind it, so none stands twice
abbrev pub RisesInOrder : List SortField → List Pairs → Type 0
RisesInOrder fields ds = AllPairs (λ d e. answer_cmp fields d e ≡ Less) ds

pub record HaveSameMembers (ds es : List Pairs) : Type 0 where
  pub to : (d : Pairs) → Contains ds d → Contains es d
  pub from : (d : Pairs) → Contains es d → Contains ds d

-- Two lists of the same documents that both rise so are one list.
abbrev pub OrderedOnce : Type 0
OrderedOnce =
    (fields : List SortField) (ds es : List Pairs) → RisesInOrder fields ds → RisesInOrder fields es
    → HaveSameMembers ds es → ds ≡ es

-- Documents in ascending order of `_id`, in the order of a sort, are the one list of them that
-- rises so.
abbrev pub SortsToAnswer : Type 0
SortsToAnswer =
    (fields : List SortField) (ds : List Pairs) → IsRising ds
    → RisesInOrder fields (order fields ds)
    × ((found : List Pairs) → RisesInOrder fields found → HaveSameMembers found ds
    → found ≡ order fields ds)

-- ---- what a walk over a range finds

-- An index is noted as multikey where one of these documents has an array on one of its paths. So
-- it is of each index of a collection that is kept, and of the one on `_id`, as no `_id` is an
-- array.
abbrev pub IsNotedFor : Option Definition → List Pairs → Type 0
IsNotedFor index ds = All (λ d. is_multikey (fields_of index) d ≡ true → is_multi index ≡ true) ds

-- one of these documents, of which a key lies in the range, and that the filter matches
pub record IsFound (rs : Conditions) (r : Range) (ds : List Pairs) (d : Pairs) : Type 0 where
  pub stored : Contains ds d
  pub lies_there : list_any (has_bytes (fields_of r.index) r) (encoded_keys (fields_of r.index) d)
      ≡ true
  pub matched : matches rs d ≡ true

-- Whatever is found so, each once, in the order of the sort and then of `_id`, is what a scan
-- gives: the documents that the filter matches, in the order of the sort.
abbrev pub NeverChangesAnswer : Type 0
NeverChangesAnswer =
    (rs : Conditions) (sort : List SortField) (index : Option Definition) (ds found : List Pairs)
    → let r = range_in rs sort index in
    IsNotedFor index ds → IsSpellable r → All IsStorable ds → IsRising ds
    → RisesInOrder sort found
    → ((d : Pairs) → Contains found d → IsFound rs r ds d)
    → ((d : Pairs) → IsFound rs r ds d → Contains found d)
    → found ≡ order sort (filter (matches rs) ds)

-- The indexes of a collection that is kept are noted so.
abbrev pub KeptAreNoted : Type 0
KeptAreNoted = (c : Collection) (i : Definition) → IsKept c → Contains c.indexes i
    → IsNotedFor (Some i) c.documents

-- ---- the front of an answer

-- Documents that the filter matches, in the order of an answer, are the first ones of it where each
-- other one that it matches is above them.
abbrev pub FrontOfAnswer : Type 0
FrontOfAnswer =
    (rs : Conditions) (sort : List SortField) (ds found : List Pairs) → IsRising ds
    → RisesInOrder sort found
    → ((d : Pairs) → Contains found d → Contains ds d × (matches rs d ≡ true))
    → ((d e : Pairs) → Contains ds d → matches rs d ≡ true → Contains found e
    → Contains found d ⊎ (answer_cmp sort e d ≡ Less))
    → found ≡ take (length found) (order sort (filter (matches rs) ds))

-- ---- an index in the order of the sort

-- Where a range is in the order of the sort, the entries of two documents in the index stand in the
-- order of an answer: so what a walk finds needs no sort.
abbrev pub WalksInOrder : Type 0
WalksInOrder =
    (rs : Conditions) (sort : List SortField) (i : Definition) (ds : List Pairs) (d e : Pairs)
    (ks ls : List Key) (collection : ℕ)
    → (range_in rs sort (Some i)).is_sorted ≡ true → IsNotedFor (Some i) ds → All IsStorable ds
    → Contains ds d → Contains ds e
    → Contains (index_keys i.fields d) ks → Contains (index_keys i.fields e) ls
    → bytes_cmp (entry_key collection i.number (key_bytes i.fields ks) (tree_text (key_of d)))
    (entry_key collection i.number (key_bytes i.fields ls) (tree_text (key_of e)))
    ≡ answer_cmp sort d e
