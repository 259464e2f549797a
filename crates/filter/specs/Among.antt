-- Whether a value is equal to one of many, and whether what a path reached is: what `$in` asks,
-- said without the order in which the many were written.
use Rattle.std.specs.Prelude.{◌≡◌, ◌&&◌, ◌||◌, Bool, Option, Some, None, List}
use Rattle.std.specs.List.{list_any}
use Rattle.bson.specs.Tree.{Tree}
use Rattle.value_order.specs.Order.{compare}
use Rattle.path.specs.Reach.{Reached}
use Rattle.filter.specs.Condition.{Conditions}
use Rattle.filter.specs.Matches.{is_equal, is_null, is_missing, candidates_of, Subject}
use Rattle.filter.specs.Matches.{some_reached, any_holds}

abbrev pub is_among : List Tree → Tree → Bool
is_among vs t = list_any (λ v. is_equal (compare t v)) vs

-- a candidate is equal to one of them, or nothing was reached and null is one of them
abbrev pub among_passes : List Tree → Bool → Reached → Bool
among_passes vs one r =
    list_any (is_among vs) (candidates_of one r) || (list_any is_null vs && is_missing r)

-- where values stand beside conditions, to ask for one of the values is to ask one of the
-- conditions
abbrev pub AsksOneOf : Option (List Tree) → Conditions → Type 0
AsksOneOf None rs = Unit {0}
AsksOneOf (Some vs) rs = (s : Subject) → any_holds rs s ≡ some_reached (among_passes vs) s
