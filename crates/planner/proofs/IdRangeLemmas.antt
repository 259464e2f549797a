-- A document that the filter matches has its `_id` in the range of the index on `_id`.
use Rattle.std.proofs.Common.{◌≡◌, Bool, true, false, ◌||◌, List, [], ◌∷◌, ◌++◌, get_or, Some, None, refl, sym, ap, subst, ◌∙◌, append-nil}
use Rattle.std.specs.Prelude.{All, cond}
use Rattle.std.specs.List.{AllByRecursion, filter, list_any}
use Rattle.std.proofs.lemmas.List.Elements.{All-head, All-tail}
use Rattle.bson.specs.Tree.{Tree, scalar, document, array, Pairs}
use Rattle.value_order.specs.KeyText.{tree_text}
use Rattle.value_order.specs.Order.{Key, value}
use Rattle.filter.specs.Matches.{matches}
use Rattle.index.specs.IndexKeys.{index_keys, is_multikey, keys_of, meets_array}
use Rattle.index.specs.KeyTexts.{key_bytes}
use Rattle.index.specs.Laws.{IsIndexKey}
use Rattle.entry_model.specs.LawfulState.{IsStorable}
use Rattle.entry_model.specs.State.{key_of}
use Rattle.index.proofs.SpellableLaws.{keys_spellable}
use Rattle.planner.specs.IdRange.{HasIdInRange, HasPlainId, IdRangeSelects}
use Rattle.planner.specs.KeyRange.{has_key}
use Rattle.plan_model.specs.Plan.{fields_of, range_in}
use Rattle.planner.specs.RangeReading.{LiesBetween}
use Rattle.planner.specs.KeySpan.{first_key, last_key}
use Rattle.plan_model.specs.Usable.{no_array}
use Rattle.planner.proofs.AnswerLemmas.{document_is_key}
use Rattle.planner.proofs.KeyBytesLemmas.{has_bytes_behind}
use Rattle.planner.proofs.KeyRangeLemmas.{has_key_in_range}
use Rattle.planner.proofs.KeySpanLemmas.{spans_range}

-- ---- the keys of an `_id`

no_array_key : (t : Tree) → no_array t ≡ Some t → keys_of (Some t) ≡ value t ∷ []
no_array_key (scalar s) plain = refl
no_array_key (document ps) plain = refl
no_array_key (array ts) plain = absurd cc

meets_none : (t : Tree) → no_array t ≡ Some t → meets_array [] t ≡ false
meets_none (scalar s) plain = refl
meets_none (document ps) plain = refl
meets_none (array ts) plain = absurd cc

module _ (d : Pairs) (stored : IsStorable d) (plain : HasPlainId d) where
  one_key : index_keys (fields_of None) d ≡ (value (key_of d) ∷ []) ∷ []
  one_key = rw (stored.key, no_array_key (key_of d) plain) refl

  not_multi : is_multikey (fields_of None) d ≡ false
  not_multi = rw (stored.key, meets_none (key_of d) plain) refl

  spellable : IsIndexKey (fields_of None) (value (key_of d) ∷ [])
  spellable = (subst (λ (keys : List (List Key)). AllByRecursion (IsIndexKey (fields_of None)) keys) one_key
      (keys_spellable (fields_of None) d (document_is_key d stored))).0

  one_text : key_bytes (fields_of None) (value (key_of d) ∷ []) ++ [] ≡ tree_text (key_of d)
  one_text = append-nil (tree_text (key_of d) ++ []) ∙ append-nil (tree_text (key_of d))

or_none : (b : Bool) → (b || false) ≡ true → b ≡ true
or_none true e = refl
or_none false e = absurd cc

pub has_id_in_range : HasIdInRange
has_id_in_range rs sort d spelled stored plain matching =
    let r = range_in rs sort None in
    let keys : list_any (has_key r) (index_keys (fields_of None) d) ≡ true =
    has_key_in_range rs sort None d (λ multi. absurd (let no = sym (not_multi d stored plain) ∙ multi in cc)) matching in
    let own : has_key r (value (key_of d) ∷ []) ≡ true =
    or_none (has_key r (value (key_of d) ∷ [])) (ap (list_any (has_key r)) (sym (one_key d stored plain)) ∙ keys) in
    subst (LiesBetween (first_key (fields_of None) r) (last_key (fields_of None) r)) (one_text d stored plain)
    (spans_range rs sort None (key_bytes (fields_of None) (value (key_of d) ∷ []) ++ [])
    (has_bytes_behind (fields_of None) r (value (key_of d) ∷ []) [] (spellable d stored plain) spelled own))

-- ---- documents of the range

-- those that are selected of some are those that are selected of all, where each of them is among the some
selected_there : (p q : Pairs → Bool) (ds : List Pairs) → All (λ (d : Pairs). p d ≡ true → q d ≡ true) ds → filter p (filter q ds) ≡ filter p ds
selected_there p q [] among = refl
selected_there p q (d ∷ ds) among =
    by (q d) (p d) refl refl (All-head (λ (d : Pairs). p d ≡ true → q d ≡ true) d ds among)
    (selected_there p q ds (All-tail (λ (d : Pairs). p d ≡ true → q d ≡ true) d ds among))
  where
    by : (b c : Bool) → q d ≡ b → p d ≡ c → (p d ≡ true → q d ≡ true) → filter p (filter q ds) ≡ filter p ds
        → filter p (cond b (d ∷ filter q ds) (filter q ds)) ≡ cond c (d ∷ filter p ds) (filter p ds)
    by true c is so inside later = λ i. cond (so i) (d ∷ later i) (later i)
    by false true is so inside later = absurd (let no = sym is ∙ inside so in cc)
    by false false is so inside later = later

pub id_range_selects : IdRangeSelects
id_range_selects rs sort given ds spelled storable plain all =
    selected_there (matches rs) given ds (λ k d below e.
    all (get_or ds k d) (has_id_in_range rs sort (get_or ds k d) spelled (storable k d below) (plain k d below) e))
