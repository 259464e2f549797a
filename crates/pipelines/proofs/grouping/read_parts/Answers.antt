use Rattle.std.proofs.Common.{refl, sym, ap, ◌∙◌}
use Rattle.bson.specs.View.{pairs_of, tree}
use Rattle.bson.specs.declared.value.Pair.{Pair}
use Rattle.aggregate_model.specs.Group.{read_part, read_parts}
use Rattle.pipelines.specs.GroupView.{parts_of}
use Rattle.pipelines.proofs.ReadingLemmas.{one_more, one_refused, refused}
use Rattle.pipelines.proofs.grouping.read_parts.Goals as goal

pub returns-in_err-read_part : goal.returns-in_err-read_part
returns-in_err-read_part c =
    let p = c.pair-item.result in
    refused parts_of _ c.from_residual.result c.in_err-read_part.field-0.0 c.from_residual.ensures.1
    (λ known. one_refused (λ (q : Pair) parts. read_part q.name (tree q.value) parts) (λ qs parts. read_parts (pairs_of qs) parts) (λ q qs parts. refl)
    c.pairs-pair-items.result.now c.pairs.pair-index p (parts_of c.pairs.parts) _ c.pairs-test.true c.pair-item.is c.pairs.invariant
    c.in_err-read_part.field-0.0
    (sym (ap (λ name. read_part name (tree p.value) (parts_of c.pairs.parts)) c.as_str.ensures.value) ∙ c.in_err-read_part.ensures known))

pub pairs-preserved : goal.pairs-preserved
pairs-preserved c =
    let p = c.pair-item.result in
    one_more (λ (q : Pair) parts. read_part q.name (tree q.value) parts) (λ qs parts. read_parts (pairs_of qs) parts) (λ q qs parts. refl)
    c.pairs-pair-items.result.now c.pairs.pair-index p (parts_of c.pairs.parts) _ c.pairs-test.true c.pair-item.is c.pairs.invariant
    (parts_of c.read_part.new.self)
    (sym (ap (λ name. read_part name (tree p.value) (parts_of c.pairs.parts)) c.as_str.ensures.value) ∙ c.in_ok-read_part.ensures)
