use Rattle.std.proofs.Common.{Option, ap, subst}
use Rattle.std.specs.Prelude.{IfSome}
use Rattle.planner.specs.View.{index_of, range_of}
use Rattle.planner.specs.declared.range.IndexRange.{IndexRange}
use Rattle.candidate_ids.specs.ByIndex.{IsRangeOf}
use Rattle.queries.proofs.ByOrderLemmas.{order_chosen}
use Rattle.queries.proofs.index_order.order_asked.Goals as goal

pub returns : goal.returns
returns c =
    let rs = c.args.filter.now in
    let sort = c.args.sort.now in
    let indexes = c.args.indexes.now in
    let is = subst (λ (o : Option IndexRange). IfSome o (λ range. IsRangeOf rs sort indexes (range_of range))) c.in-Some.is c.range_asked.ensures in
    order_chosen rs sort indexes (range_of c.in-Some.range) _ is (ap index_of c.in-Some-index.is) c.if-not-range.false c.in_ok-span.ensures.first
    c.in_ok-span.ensures.last
