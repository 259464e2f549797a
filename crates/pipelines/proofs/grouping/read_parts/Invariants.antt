use Rattle.std.proofs.Common.{◌≡◌, drop}
use Rattle.bson.specs.View.{pairs_of}
use Rattle.aggregate_model.specs.Group.{no_parts, read_parts}
use Rattle.pipelines.specs.GroupView.{parts_of}
use Rattle.pipelines.proofs.grouping.read_parts.Given as goal

abbrev pub invariant-pairs : goal.invariant-pairs
invariant-pairs l = read_parts (pairs_of (drop l.pair-index l.pair-items)) (parts_of l.parts) ≡ read_parts l.document no_parts
