use Rattle.std.proofs.Common.{◌≡◌, ◌+◌, ◌*◌, drop, Ok}
use Rattle.bson.specs.Tree.{count, count_pairs, count_items}
use Rattle.bson.specs.View.{tree, pairs_of, items_of}
use Rattle.path.specs.Edits.{if_ok}
use Rattle.filter.specs.Condition.{append_conditions}
use Rattle.filter.specs.View.{conditions_of}
use Rattle.filter.specs.Parsing.{read_filter, read_filters, read_operators}
use Rattle.filter.proofs.parsing.+parsing.Given as goal

abbrev pub decreases-read_filter : goal.decreases-read_filter
decreases-read_filter l = 8 * count_pairs l.document.now + 7

abbrev pub decreases-read_condition : goal.decreases-read_condition
decreases-read_condition l = 8 * count (tree l.value.now) + 6

abbrev pub decreases-read_members : goal.decreases-read_members
decreases-read_members l = 8 * count (tree l.value.now) + 5

abbrev pub decreases-read_filters : goal.decreases-read_filters
decreases-read_filters l = 8 * count_items l.array.now + 7

abbrev pub decreases-read_member : goal.decreases-read_member
decreases-read_member l = 8 * count (tree l.value.now) + 5

abbrev pub decreases-read_operand : goal.decreases-read_operand
decreases-read_operand l = 8 * count (tree l.value.now) + 5

abbrev pub decreases-read_operators : goal.decreases-read_operators
decreases-read_operators l = 8 * count_pairs l.document.now + 7

abbrev pub decreases-read_operator : goal.decreases-read_operator
decreases-read_operator l = 8 * count (tree l.value.now) + 5

abbrev pub decreases-read_element : goal.decreases-read_element
decreases-read_element l = 8 * count (tree l.value.now) + 4

abbrev pub decreases-read_not : goal.decreases-read_not
decreases-read_not l = 8 * count (tree l.value.now) + 4

abbrev pub invariant-read_filter-pairs : goal.invariant-read_filter-pairs
invariant-read_filter-pairs l =
    if_ok (read_filter (pairs_of (drop l.pair-index l.pair-items))) (λ rs. Ok (append_conditions (conditions_of l.conditions.items) rs))
    ≡ read_filter l.document

abbrev pub invariant-read_operators-pairs : goal.invariant-read_operators-pairs
invariant-read_operators-pairs l =
    if_ok (read_operators (pairs_of (drop l.pair-index l.pair-items))) (λ rs. Ok (append_conditions (conditions_of l.conditions.items) rs))
    ≡ read_operators l.document

abbrev pub invariant-read_filters-items : goal.invariant-read_filters-items
invariant-read_filters-items l =
    if_ok (read_filters (items_of (drop l.item-index l.item-items))) (λ rs. Ok (append_conditions (conditions_of l.conditions.items) rs)) ≡ read_filters l.array
