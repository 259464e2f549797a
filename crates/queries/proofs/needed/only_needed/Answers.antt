use Rattle.std.proofs.Common.{◌≡◌, List, rules, ap, sym, subst, ◌∙◌}
use Rattle.bson.specs.Tree.{Pairs}
use Rattle.command_model.specs.Insert.{documents_at}
use Rattle.aggregate_model.specs.Taking.{IsEnough}
use Rattle.pipelines.specs.View.{pipeline_of}
use Rattle.asked_documents.proofs.AskingLemmas.{if_ok}
use Rattle.queries.proofs.needed.only_needed.Goals as goal

pub returns : goal.returns
returns c = λ seen h.
    let stages = pipeline_of c.args.pipeline.now in
    let lent : documents_at c.in_ok-lent.lent.items ≡ c.args.these.items = search rules in
    let enough = c.in_ok-needed.ensures seen (subst (λ (ds : List Pairs). IsEnough stages ds seen) (sym lent) h) in
    if_ok c.copies.result
    (λ v made. subst (λ (ds : List Pairs). IsEnough stages ds seen) (sym (made ∙ ap documents_at c.deref-2.ensures.value)) enough) c.copies.ensures
