use Rattle.std.proofs.Common.{Option, option_map, subst, ◌∙◌}
use Rattle.std.specs.Prelude.{IfSome}
use Rattle.planner.specs.View.{range_of}
use Rattle.planner.specs.declared.range.IndexRange.{IndexRange}
use Rattle.walks.specs.IdRange.{IsIdRange}
use Rattle.walks.proofs.IdRangeLemmas.{matching_within}
use Rattle.walks.proofs.id_range.span_of_ids.Goals as goal

pub returns : goal.returns
returns c =
    let rs = c.args.filter.now in
    let is : IsIdRange rs (range_of c.in-Some.range) =
    subst (λ (o : Option IndexRange). IfSome o (λ range. IsIdRange rs (range_of range))) c.in-Some.is c.range_of_ids.ensures in
    matching_within rs (range_of c.in-Some.range) is c.in_ok-span.span.first.items c.deref.result.now (option_map (λ v. v.items) c.in_ok-end.end)
    c.in_ok-span.ensures.first (c.deref.ensures.value ∙ c.in_ok-span.ensures.last) c.in_ok-end.ensures
