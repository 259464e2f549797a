use Rattle.std.proofs.Common.{◌≡◌, drop, map}
use Rattle.aggregate_model.specs.Pipeline.{run}
use Rattle.pipelines.specs.View.{stage_of}
use Rattle.aggregate.proofs.running.run_stages.Given as goal

abbrev pub invariant-stages : goal.invariant-stages
invariant-stages l =
    run (map stage_of (drop l.stage-index l.stages)) l.limit l.documents.items
    ≡ run (map stage_of l.stages) l.limit l.initial.documents.items
