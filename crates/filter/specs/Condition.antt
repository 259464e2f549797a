-- A filter as it was read: conditions, each of which asks something of a document, of what a path
-- reaches in it, or of one element of an array.
use Rattle.std.specs.Prelude.{ℕ, suc, ◌+◌, List, length}
use Rattle.bson.specs.Tree.{Tree, Items, no_items, item}
use Rattle.filter.specs.declared.condition.Comparison.{Comparison}

-- what is asked of a reached value and its candidates
pub data Predicate : Type 0 where
  equal : Tree → Predicate
  ordered : Comparison → Tree → Predicate
  there : Predicate
  -- of one of the kinds with these bytes
  of_kinds : List ℕ → Predicate
  size : ℕ → Predicate

mutual
  pub data Condition : Type 0 where
    -- all of the conditions, one of them; not all, none
    all : Conditions → Condition
    any : Conditions → Condition
    not_all : Conditions → Condition
    not_any : Conditions → Condition
    -- the conditions hold of what the path reaches in the document
    at : List (List ℕ) → Conditions → Condition
    -- a reached value passes the predicate
    is : Predicate → Condition
    -- a reached value is an array with one element of which the conditions hold; the second looks
    -- at documents alone
    element : Conditions → Condition
    element_document : Conditions → Condition

  pub data Conditions : Type 0 where
    no_conditions : Conditions
    condition : Condition → Conditions → Conditions

abbrev pub append_conditions : Conditions → Conditions → Conditions
append_conditions no_conditions qs = qs
append_conditions (condition r rs) qs = condition r (append_conditions rs qs)

-- one condition for each value: to be equal to it
abbrev pub equals : Items → Conditions
equals no_items = no_conditions
equals (item t ts) = condition (is (equal t)) (equals ts)

-- how much there is to ask: a condition, the parts of its path, the conditions in it
abbrev mutual
  pub weight : Condition → ℕ
  weight (all rs) = suc (weights rs)
  weight (any rs) = suc (weights rs)
  weight (not_all rs) = suc (weights rs)
  weight (not_any rs) = suc (weights rs)
  weight (at parts rs) = suc (length parts + weights rs)
  weight (is t) = 1
  weight (element rs) = suc (weights rs)
  weight (element_document rs) = suc (weights rs)

  pub weights : Conditions → ℕ
  weights no_conditions = 0
  weights (condition r rs) = weight r + weights rs
