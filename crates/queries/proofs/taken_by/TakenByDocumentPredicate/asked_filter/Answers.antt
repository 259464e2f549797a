use Rattle.std.specs.Borrow.{Bor}
use Rattle.pipelines.specs.View.{pipeline_of}
use Rattle.filter.specs.Condition.{Conditions}
use Rattle.queries.proofs.TakenByLemmas.{leading_matches}
use Rattle.queries.proofs.taken_by.TakenByDocumentPredicate.asked_filter.Goals as goal

pub returns : goal.returns
returns c = leading_matches (λ (f : Bor Conditions). f.now) (pipeline_of c.args.self.now.pipeline.now) c.leading_match.result c.leading_match.ensures
