use Rattle.std.proofs.Common.{◌≡◌, drop, map}
use Rattle.bson.specs.Tree.{no_pairs}
use Rattle.aggregate_model.specs.Group.{with_id_fields}
use Rattle.pipelines.specs.GroupView.{id_field_of}
use Rattle.aggregate.proofs.group_ids.with_id_fields.Given as goal

abbrev pub invariant-fields : goal.invariant-fields
invariant-fields g l =
    with_id_fields (map id_field_of (drop l.field-index l.fields)) (g.S.PathSource.source l.whole) l.document
    ≡ with_id_fields (map id_field_of l.fields) (g.S.PathSource.source l.whole) no_pairs
