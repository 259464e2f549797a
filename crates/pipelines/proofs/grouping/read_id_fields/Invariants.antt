use Rattle.std.proofs.Common.{◌≡◌, [], drop, map}
use Rattle.bson.specs.View.{pairs_of}
use Rattle.aggregate_model.specs.Group.{read_id_fields}
use Rattle.pipelines.specs.GroupView.{id_field_of}
use Rattle.pipelines.proofs.grouping.read_id_fields.Given as goal

abbrev pub invariant-pairs : goal.invariant-pairs
invariant-pairs l = read_id_fields (pairs_of (drop l.pair-index l.pair-items)) (map id_field_of l.fields.items) ≡ read_id_fields l.document []
