-- Whether a filter holds of a document: by cases over its conditions, from what its paths reach,
-- from the candidates of what is reached, and from the order of values. The negations are plain
-- "not".
use Rattle.std.specs.Prelude.{ℕ, ◌==◌, ◌&&◌, ◌||◌, not, Bool, true, false, Option, Some, None, List}
use Rattle.std.specs.Prelude.{[], ◌∷◌}
use Rattle.std.specs.List.{list_any}
use Rattle.std.specs.declared.cmp.Ordering.{Ordering}
use Rattle.std.specs.declared.cmp.Ordering.TheVariants.{Less, Equal, Greater}
use Rattle.bson.specs.Tree.{Tree, scalar, null, document, array, Pairs}
use Rattle.bson.specs.Kinds.{kind, kind_byte}
use Rattle.bson.specs.Edits.{items_len}
use Rattle.value_order.specs.Order.{class, compare}
use Rattle.path.specs.Reach.{Reached, reach, items_list, candidates}
use Rattle.filter.specs.Condition.{Predicate, equal, ordered, there, of_kinds, size, Condition, all}
use Rattle.filter.specs.Condition.{any, not_all, not_any, at, is, element, element_document}
use Rattle.filter.specs.Condition.{Conditions, no_conditions, condition}
use Rattle.filter.specs.declared.condition.Comparison.{Comparison}
use Rattle.filter.specs.declared.condition.Comparison.TheVariants as comparisons

-- ---- of one candidate, and of what was reached itself

abbrev pub is_equal : Ordering → Bool
is_equal Less = false
is_equal Equal = true
is_equal Greater = false

abbrev pub allows : Comparison → Ordering → Bool
allows comparisons.Below Less = true
allows comparisons.AtMost Less = true
allows comparisons.AtMost Equal = true
allows comparisons.Above Greater = true
allows comparisons.AtLeast Greater = true
allows comparisons.AtLeast Equal = true
allows c o = false

abbrev pub is_null : Tree → Bool
is_null (scalar null) = true
is_null t = false

abbrev pub is_missing : Reached → Bool
is_missing None = true
is_missing (Some t) = false

abbrev pub has_size : ℕ → Reached → Bool
has_size n (Some (array ts)) = items_len ts == n
has_size n r = false

-- equal in the order of values, ordered so within one class, or of one of the kinds
abbrev pub candidate_passes : Predicate → Tree → Bool
candidate_passes (equal v) t = is_equal (compare t v)
candidate_passes (ordered c v) t = (class t == class v) && allows c (compare t v)
candidate_passes (of_kinds bytes) t = list_any (λ b. b == kind_byte (kind t)) bytes
candidate_passes there t = false
candidate_passes (size n) t = false

-- null is equal to Missing too; a value is there; an array has its size
abbrev pub reached_passes : Predicate → Reached → Bool
reached_passes (equal v) r = is_null v && is_missing r
reached_passes there r = not (is_missing r)
reached_passes (size n) r = has_size n r
reached_passes (ordered c v) r = false
reached_passes (of_kinds bytes) r = false

-- An element that is looked at alone has itself as its only candidate.
abbrev pub candidates_of : Bool → Reached → List Tree
candidates_of false r = candidates r
candidates_of true None = []
candidates_of true (Some t) = t ∷ []

abbrev pub passes : Predicate → Bool → Reached → Bool
passes predicate alone r =
    list_any (candidate_passes predicate) (candidates_of alone r) || reached_passes predicate r

-- ---- of a document, of what a path reached, of an element alone

pub data Subject : Type 0 where
  whole : Pairs → Subject
  along : List Reached → Subject
  alone : Tree → Subject

-- one of what was reached passes; a whole document is asked by its paths alone
abbrev pub some_reached : (Bool → Reached → Bool) → Subject → Bool
some_reached pass (whole ps) = false
some_reached pass (along rs) = list_any (pass false) rs
some_reached pass (alone t) = pass true (Some t)

abbrev pub some_element : (Tree → Bool) → Reached → Bool
some_element pass (Some (array ts)) = list_any pass (items_list ts)
some_element pass r = false

abbrev pub reached_in : List (List ℕ) → Subject → Option Subject
reached_in parts (whole ps) = Some (along (reach parts (document ps)))
reached_in parts (along rs) = None
reached_in parts (alone t) = None

abbrev pub if_reached : (Subject → Bool) → Option Subject → Bool
if_reached pass None = false
if_reached pass (Some s) = pass s

abbrev pub of_document : (Subject → Bool) → Tree → Bool
of_document pass (document ps) = pass (whole ps)
of_document pass t = false

abbrev mutual
  pub holds : Condition → Subject → Bool
  holds (all rs) s = all_hold rs s
  holds (any rs) s = any_holds rs s
  holds (not_all rs) s = not (all_hold rs s)
  holds (not_any rs) s = not (any_holds rs s)
  holds (at parts rs) s = if_reached (all_hold rs) (reached_in parts s)
  holds (is predicate) s = some_reached (passes predicate) s
  holds (element rs) s = some_reached (λ one r. some_element (λ t. all_hold rs (alone t)) r) s
  holds (element_document rs) s =
      some_reached (λ one r. some_element (of_document (all_hold rs)) r) s

  pub all_hold : Conditions → Subject → Bool
  all_hold no_conditions s = true
  all_hold (condition r rs) s = holds r s && all_hold rs s

  pub any_holds : Conditions → Subject → Bool
  any_holds no_conditions s = false
  any_holds (condition r rs) s = holds r s || any_holds rs s

abbrev pub matches : Conditions → Pairs → Bool
matches rs ps = all_hold rs (whole ps)
