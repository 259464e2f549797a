use Rattle.std.proofs.Common.{sym, ◌∙◌}
use Rattle.std.specs.Borrow.{Bor}
use Rattle.aggregate_model.specs.Taking.{leading_match}
use Rattle.pipelines.specs.View.{pipeline_of}
use Rattle.filter.specs.Condition.{Conditions}
use Rattle.index.specs.View.{texts_of}
use Rattle.queries.proofs.TakenByLemmas.{leading_tells, one_leads}
use Rattle.asked_documents.proofs.SelectsLemmas.{put_none}
use Rattle.queries.proofs.taken_by.TakenByDocumentPredicate.put_ids.Goals as goal

pub returns-clause-put : goal.returns-clause-put
returns-clause-put c = put_none (texts_of c.args._ids.now.items)

pub returns-clause-tells : goal.returns-clause-tells
returns-clause-tells c = λ e.
    let stages = pipeline_of c.args.self.now.pipeline.now in
    leading_tells stages (texts_of c.args._ids.now.items)
    (sym (one_leads (λ (f : Bor Conditions). f.now) c.leading_match.result (leading_match stages) c.leading_match.ensures) ∙ sym c.is_some.ensures ∙ e)
