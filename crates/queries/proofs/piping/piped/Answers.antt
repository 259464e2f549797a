use Rattle.pipelines.specs.View.{pipeline_of}
use Rattle.queries.proofs.PipingLemmas.{outcome_within}
use Rattle.queries.proofs.piping.piped.Goals as goal

pub returns-clause-pipes : goal.returns-clause-pipes
returns-clause-pipes c = λ fault. c.run.ensures

pub returns-clause-within : goal.returns-clause-within
returns-clause-within c =
    outcome_within (pipeline_of c.args.pipeline.now) c.args.documents.items c.run.result c.requires (λ fault. c.run.ensures)
