-- Walks through the documents of a collection that begin and end where a filter's range of `_id`s
-- does.
use Rattle.std.specs.Prelude.{◌≡◌, ℕ, Bool, not, ◌&&◌, None, Option, List, [], All}
use Rattle.std.specs.List.{filter}
use Rattle.std.specs.Ordering.{is_lt}
use Rattle.bson.specs.Tree.{Pairs}
use Rattle.value_order.specs.KeyText.{tree_text}
use Rattle.tree_model.specs.Keys.{is_within, key_cmp}
use Rattle.btree.specs.declared.folding.Bounds.{Bounds}
use Rattle.filter.specs.Condition.{Conditions}
use Rattle.entry_model.specs.LawfulState.{IsStorable}
use Rattle.entry_model.specs.State.{key_of}
use Rattle.collections.specs.Folding.{IsFolded}
use Rattle.database_model.specs.Lawful.{IsStored}
use Rattle.planner.specs.KeyRange.{IsSpellable}
use Rattle.plan_model.specs.Plan.{Range, range_in}

-- The range is what the filter gives in the index on `_id`.
pub record IsIdRange (rs : Conditions) (r : Range) : Type 0 where
  pub given : r ≡ range_in rs [] None
  pub spellable : IsSpellable r

-- the text of the `_id` isn't below the first, and is below the end, where there is one
abbrev pub has_id_within : List ℕ → Option (List ℕ) → Pairs → Bool
has_id_within first end d =
    let text = tree_text (key_of d) in
    not (is_lt (key_cmp text first)) && is_within end text

-- All stored documents that pass have such a text.
abbrev pub PassWithin : (Pairs → Bool) → List ℕ → Option (List ℕ) → Type 0
PassWithin passes first end =
    (ds : List Pairs) → All IsStorable ds → All IsStored ds
    → filter passes (filter (has_id_within first end) ds) ≡ filter passes ds

-- A fold was lent some of the documents, all that pass among them.
pub record IsWalked {F : Type 0} (passes : Pairs → Bool) (makes : F → List Pairs → F → Type 0)
    (start : F) (documents : List Pairs) (now : F) : Type 0 where
  pub chosen : Pairs → Bool
  pub same : filter passes (filter chosen documents) ≡ filter passes documents
  pub folded : IsFolded makes start (filter chosen documents) now
