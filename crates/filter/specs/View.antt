-- What the types of the crate stand for. A `Filter` is its `Conditions`; `condition_of` and
-- `predicate_of` say what a `Condition` and a `Predicate` are.
use Rattle.std.specs.Prelude.{List, [], ◌∷◌, map}
use Rattle.bson.specs.Kinds.{kind_byte}
use Rattle.bson.specs.View.{tree}
use Rattle.filter.specs.Condition.{Predicate, equal, ordered, there, of_kinds, size, Condition, all}
use Rattle.filter.specs.Condition.{any, not_all, not_any, at, is, element, element_document}
use Rattle.filter.specs.Condition.{Conditions, no_conditions, condition}
use Rattle.filter.specs.declared.condition.Predicate.{Predicate as Asked}
use Rattle.filter.specs.declared.condition.Predicate.TheVariants as predicates
use Rattle.filter.specs.declared.condition.Condition.{Condition as Made}
use Rattle.filter.specs.declared.condition.Condition.TheVariants as conditions

abbrev pub predicate_of : Asked → Predicate
predicate_of (predicates.Equal v) = equal (tree v)
predicate_of (predicates.Ordered c v) = ordered c (tree v)
predicate_of predicates.There = there
predicate_of (predicates.OfKinds ks) = of_kinds (map kind_byte ks.items)
predicate_of (predicates.Size n) = size n

abbrev pub condition_of : Made → Condition
condition_of (conditions.All rs) = all rs
condition_of (conditions.Any rs) = any rs
condition_of (conditions.NotAll rs) = not_all rs
condition_of (conditions.NotAny rs) = not_any rs
condition_of (conditions.At parts rs) = at parts rs
condition_of (conditions.Is t) = is (predicate_of t)
condition_of (conditions.Element rs) = element rs
condition_of (conditions.ElementDocument rs) = element_document rs

abbrev pub conditions_of : List Made → Conditions
conditions_of [] = no_conditions
conditions_of (r ∷ rs) = condition (condition_of r) (conditions_of rs)
