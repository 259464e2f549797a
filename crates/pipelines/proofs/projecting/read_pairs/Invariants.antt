use Rattle.std.proofs.Common.{◌≡◌, drop}
use Rattle.bson.specs.View.{pairs_of}
use Rattle.aggregate_model.specs.Project.{no_fields, read_pairs}
use Rattle.pipelines.specs.View.{fields_of}
use Rattle.pipelines.proofs.projecting.read_pairs.Given as goal

abbrev pub invariant-pairs : goal.invariant-pairs
invariant-pairs l = read_pairs (pairs_of (drop l.pair-index l.pair-items)) (fields_of l.fields) ≡ read_pairs l.document no_fields
