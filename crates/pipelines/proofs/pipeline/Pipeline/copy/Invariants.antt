use Rattle.std.proofs.Common.{◌≡◌, ◌++◌, drop, map}
use Rattle.pipelines.specs.View.{stage_of}
use Rattle.pipelines.proofs.pipeline.Pipeline.copy.Given as goal

abbrev pub invariant-stages : goal.invariant-stages
invariant-stages l = map stage_of l.stages.items ++ map stage_of (drop l.stage-index l.self.stages.items) ≡ map stage_of l.self.stages.items
