use Rattle.std.proofs.Common.{rules, refl}
use Rattle.pipelines.specs.View.{pipeline_of}
use Rattle.aggregate.proofs.GatheringLemmas.{begun}
use Rattle.aggregate.proofs.gathering.Gathering.of.Goals as goal

pub returns-in-Some-Group-default-clause-begun : goal.returns-in-Some-Group-default-clause-begun
returns-in-Some-Group-default-clause-begun c =
    begun (pipeline_of c.args.pipeline.now) _ refl (search rules) c.new.ensures.indexed c.new.ensures.none refl
