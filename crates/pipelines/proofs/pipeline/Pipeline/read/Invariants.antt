use Rattle.std.proofs.Common.{◌≡◌, [], drop, map}
use Rattle.bson.specs.View.{tree}
use Rattle.aggregate_model.specs.Pipeline.{read_stages}
use Rattle.pipelines.specs.View.{stage_of}
use Rattle.pipelines.proofs.pipeline.Pipeline.read.Given as goal

abbrev pub invariant-stages : goal.invariant-stages
invariant-stages l =
    read_stages (map tree (drop l.value-index l.stages)) (map stage_of l.read.items) ≡ read_stages (map tree l.stages) []
