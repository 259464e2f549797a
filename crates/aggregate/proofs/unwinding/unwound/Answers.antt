use Rattle.std.proofs.Common.{List, sym, ap, ◌∙◌}
use Rattle.bson.specs.Tree.{Pairs}
use Rattle.aggregate_model.specs.Each.{behind}
use Rattle.aggregate_model.specs.Unwind.{unwound_document, unwound}
use Rattle.aggregate.proofs.EachLemmas.{each_more, each_stops}
use Rattle.pipelines.proofs.ReadingLemmas.{refused}
use Rattle.aggregate.proofs.unwinding.unwound.Goals as goal

pub returns-in_err-given-2 : goal.returns-in_err-given-2
returns-in_err-given-2 c =
    let begun = sym (ap (λ (ds : List Pairs). behind c.documents.given.items (unwound c.args.path.now ds)) c.in-Some.ensures.steps.0) ∙ c.documents.invariant in
    refused (λ v. v.items) _ c.from_residual-in_err-given-2.result c.in_err-given-2.field-0.0 c.from_residual-in_err-given-2.ensures.1
    (λ known. each_stops (unwound_document c.args.path.now) c.documents.given.items c.in-Some.document c.next.new.self.rest.items c.in_err-given-2.field-0.0
    (unwound c.args.path.now c.args.documents.items)
    (c.in_err-given-2.ensures known) begun)

pub documents-preserved : goal.documents-preserved
documents-preserved c =
    let begun = sym (ap (λ (ds : List Pairs). behind c.documents.given.items (unwound c.args.path.now ds)) c.in-Some.ensures.steps.0) ∙ c.documents.invariant in
    each_more (unwound_document c.args.path.now) c.documents.given.items c.in_ok-given-2.given.items c.in-Some.document c.next.new.self.rest.items
    (unwound c.args.path.now c.args.documents.items)
    c.in_ok-given-2.ensures begun
