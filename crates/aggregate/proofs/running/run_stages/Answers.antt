use Rattle.std.proofs.Common.{refl, map}
use Rattle.aggregate_model.specs.Pipeline.{after_stage, run}
use Rattle.pipelines.specs.View.{stage_of}
use Rattle.pipelines.proofs.ReadingLemmas.{one_more, one_refused, refused}
use Rattle.aggregate.proofs.running.run_stages.Goals as goal

pub returns-in_err-documents : goal.returns-in_err-documents
returns-in_err-documents c =
    refused (λ v. v.items) _ c.from_residual.result c.in_err-documents.field-0.0 c.from_residual.ensures.1
    (λ known. one_refused (λ stage ds. after_stage (stage_of stage) c.args.limit ds) (λ stages ds. run (map stage_of stages) c.args.limit ds)
    (λ stage stages ds. refl) c.args.stages.now c.stages.stage-index c.stage-item.result c.stages.documents.items _ c.stages-test.true c.stage-item.is
    c.stages.invariant c.in_err-documents.field-0.0 (c.in_err-documents.ensures known))

pub stages-preserved : goal.stages-preserved
stages-preserved c =
    one_more (λ stage ds. after_stage (stage_of stage) c.args.limit ds) (λ stages ds. run (map stage_of stages) c.args.limit ds)
    (λ stage stages ds. refl) c.args.stages.now c.stages.stage-index c.stage-item.result c.stages.documents.items _ c.stages-test.true c.stage-item.is
    c.stages.invariant c.in_ok-documents.documents.items c.in_ok-documents.ensures
