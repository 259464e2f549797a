use Rattle.std.proofs.Common.{◌++◌, ap, ◌∙◌}
use Rattle.filter.proofs.KindLemmas.{kinds_more, kinds_refused}
use Rattle.filter.proofs.ParsingLemmas.{refused}
use Rattle.filter.proofs.operator.each_kind.Goals as goal

pub returns-in_err-more : goal.returns-in_err-more
returns-in_err-more c =
    refused (λ v. v.items) _ c.from_residual.result c.in_err-more.field-0.0 c.from_residual.ensures.1
    (λ known. kinds_refused c.items-item-items.result.now c.items.item-index c.item-item.result c.items.kinds.items _ c.items-test.true c.item-item.is
    c.items.invariant c.in_err-more.field-0.0 (c.in_err-more.ensures known))

pub items-preserved : goal.items-preserved
items-preserved c =
    kinds_more c.items-item-items.result.now c.items.item-index c.item-item.result c.items.kinds.items _ c.items-test.true c.item-item.is
    c.items.invariant c.in_ok-more.more.items _ c.in_ok-more.ensures
    (c.in_ok-extend_from_slice.ensures.items ∙ ap (λ ks. c.items.kinds.items ++ ks) c.deref.ensures.value)
