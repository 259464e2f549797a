use Rattle.std.proofs.Common.{◌≡◌, ◌+◌, ◌*◌, length, drop}
use Rattle.std.specs.Prelude.{false}
use Rattle.std.specs.List.{list_any}
use Rattle.bson.specs.View.{items_of}
use Rattle.path.specs.Reach.{reach, in_elements, items_list}
use Rattle.filter.specs.Condition.{weight, weights}
use Rattle.filter.specs.View.{condition_of, conditions_of}
use Rattle.filter.specs.Matches.{all_hold, any_holds, of_document, alone}
use Rattle.filter.specs.Probes.{subject_of, probe_passes}
use Rattle.filter.proofs.MeasureLemmas.{way, asked}
use Rattle.filter.proofs.matching.+matching.Given as goal

abbrev pub decreases-all_hold : goal.decreases-all_hold
decreases-all_hold l = 8 * weights l.filter.now + 3 * way l.subject + 2

abbrev pub decreases-any_holds : goal.decreases-any_holds
decreases-any_holds l = 8 * weights l.filter.now + 3 * way l.subject + 7

abbrev pub decreases-holds : goal.decreases-holds
decreases-holds l = 8 * weight (condition_of l.condition.now) + 3 * way l.subject + 1

abbrev pub decreases-finds : goal.decreases-finds
decreases-finds l = 8 * asked l.probe + 3 * way l.subject + 6

abbrev pub decreases-finds_from : goal.decreases-finds_from
decreases-finds_from l = 8 * asked l.probe + 3 * length l.parts.now + 5

abbrev pub decreases-finds_in_field : goal.decreases-finds_in_field
decreases-finds_in_field l = 8 * asked l.probe + 3 * length l.rest.now + 6

abbrev pub decreases-finds_in_array : goal.decreases-finds_in_array
decreases-finds_in_array l = 8 * asked l.probe + 3 * length l.rest.now + 7

abbrev pub decreases-passes : goal.decreases-passes
decreases-passes l = 8 * asked l.probe + 4

abbrev pub decreases-has_element : goal.decreases-has_element
decreases-has_element l = 8 * weights l.filter.now + 3

abbrev pub decreases-has_document : goal.decreases-has_document
decreases-has_document l = 8 * weights l.filter.now + 3

abbrev pub invariant-all_hold-conditions : goal.invariant-all_hold-conditions
invariant-all_hold-conditions l =
    all_hold (conditions_of (drop l.condition-index l.condition-items)) (subject_of l.subject)
    ≡ all_hold (conditions_of l.condition-items) (subject_of l.subject)

abbrev pub invariant-any_holds-conditions : goal.invariant-any_holds-conditions
invariant-any_holds-conditions l =
    any_holds (conditions_of (drop l.condition-index l.condition-items)) (subject_of l.subject)
    ≡ any_holds (conditions_of l.condition-items) (subject_of l.subject)

abbrev pub invariant-has_element-items : goal.invariant-has_element-items
invariant-has_element-items l =
    list_any (λ t. all_hold l.filter (alone t)) (items_list (items_of (drop l.item-index l.item-items)))
    ≡ list_any (λ t. all_hold l.filter (alone t)) (items_list (items_of l.item-items))

abbrev pub invariant-has_document-items : goal.invariant-has_document-items
invariant-has_document-items l =
    list_any (of_document (all_hold l.filter)) (items_list (items_of (drop l.item-index l.item-items)))
    ≡ list_any (of_document (all_hold l.filter)) (items_list (items_of l.item-items))

abbrev pub invariant-finds_in_array-items : goal.invariant-finds_in_array-items
invariant-finds_in_array-items l =
    list_any (probe_passes l.probe false) (in_elements (reach l.rest) l.part (items_of (drop l.item-index l.items)))
    ≡ list_any (probe_passes l.probe false) (in_elements (reach l.rest) l.part (items_of l.items))
