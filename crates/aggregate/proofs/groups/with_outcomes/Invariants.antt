use Rattle.std.proofs.Common.{◌≡◌, drop, map}
use Rattle.aggregate.specs.States.{state_of}
use Rattle.pipelines.specs.GroupView.{group_field_of}
use Rattle.aggregate.specs.Table.{with_outcomes}
use Rattle.aggregate.proofs.groups.with_outcomes.Given as goal

abbrev pub invariant-fields : goal.invariant-fields
invariant-fields l =
    with_outcomes (map group_field_of (drop l.at l.fields)) (map state_of (drop l.at l.states.items)) l.document
    ≡ with_outcomes (map group_field_of l.fields) (map state_of l.initial.states.items) l.initial.document
