use Rattle.std.specs.Borrow.{Bor}
use Rattle.aggregate_model.specs.Taking.{leading_match}
use Rattle.pipelines.specs.View.{pipeline_of}
use Rattle.filter.specs.Condition.{Conditions}
use Rattle.queries.proofs.TakenByLemmas.{leading_at}
use Rattle.queries.proofs.taken_by.TakenByDocumentPredicate.filter_at.Goals as goal

pub returns : goal.returns
returns c =
    let stages = pipeline_of c.args.self.now.pipeline.now in
    leading_at (λ (f : Bor Conditions). f.now) c.leading_match.result (leading_match stages) c.args._at c.leading_match.ensures
