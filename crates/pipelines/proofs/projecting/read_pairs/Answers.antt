use Rattle.std.proofs.Common.{refl, sym, ap, ◌∙◌}
use Rattle.bson.specs.View.{pairs_of, tree}
use Rattle.bson.specs.declared.value.Pair.{Pair}
use Rattle.aggregate_model.specs.Project.{read_pair, read_pairs}
use Rattle.pipelines.specs.View.{fields_of}
use Rattle.pipelines.proofs.ReadingLemmas.{one_more, one_refused, refused}
use Rattle.pipelines.proofs.projecting.read_pairs.Goals as goal

pub returns-in_err-fields : goal.returns-in_err-fields
returns-in_err-fields c =
    let p = c.pair-item.result in
    refused fields_of _ c.from_residual.result c.in_err-fields.field-0.0 c.from_residual.ensures.1
    (λ known. one_refused (λ (q : Pair) fields. read_pair q.name (tree q.value) fields) (λ qs fields. read_pairs (pairs_of qs) fields) (λ q qs fields. refl)
    c.pairs-pair-items.result.now c.pairs.pair-index p (fields_of c.pairs.fields) _ c.pairs-test.true c.pair-item.is c.pairs.invariant
    c.in_err-fields.field-0.0
    (sym (ap (λ name. read_pair name (tree p.value) (fields_of c.pairs.fields)) c.as_str.ensures.value) ∙ c.in_err-fields.ensures known))

pub pairs-preserved : goal.pairs-preserved
pairs-preserved c =
    let p = c.pair-item.result in
    one_more (λ (q : Pair) fields. read_pair q.name (tree q.value) fields) (λ qs fields. read_pairs (pairs_of qs) fields) (λ q qs fields. refl)
    c.pairs-pair-items.result.now c.pairs.pair-index p (fields_of c.pairs.fields) _ c.pairs-test.true c.pair-item.is c.pairs.invariant
    (fields_of c.in_ok-fields.fields)
    (sym (ap (λ name. read_pair name (tree p.value) (fields_of c.pairs.fields)) c.as_str.ensures.value) ∙ c.in_ok-fields.ensures)
