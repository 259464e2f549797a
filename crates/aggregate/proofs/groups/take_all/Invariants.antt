use Rattle.std.proofs.Common.{◌≡◌, ◌++◌, take, drop, map}
use Rattle.aggregate.specs.States.{state_of}
use Rattle.pipelines.specs.GroupView.{group_field_of}
use Rattle.aggregate.specs.Table.{taken}
use Rattle.aggregate.proofs.groups.take_all.Given as goal

abbrev pub invariant-fields : goal.invariant-fields
invariant-fields g l =
    map state_of (take l.at l.states.items) ++ taken (map group_field_of (drop l.at l.fields)) (g.S.PathSource.source l.document)
    (map state_of (drop l.at l.states.items))
    ≡ taken (map group_field_of l.fields) (g.S.PathSource.source l.document) (map state_of l.initial.states.items)
