use Rattle.aggregate.specs.States.{state_of}
use Rattle.pipelines.specs.GroupView.{group_field_of}
use Rattle.std.proofs.Common.{map}
use Rattle.aggregate.specs.Table.{taken}
use Rattle.aggregate.proofs.PlaceLemmas.{take_all_end}
use Rattle.aggregate.proofs.groups.take_all.Goals as goal

pub returns : goal.returns
returns g c =
    take_all_end c.args.fields.now (g.S.PathSource.source c.args.document.now) c.fields.states.items c.fields.at
    (taken (map group_field_of c.args.fields.now) (g.S.PathSource.source c.args.document.now) (map state_of c.args.states.now.items))
    c.fields-test.false c.fields.invariant
