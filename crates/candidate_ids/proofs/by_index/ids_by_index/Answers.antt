use Rattle.std.proofs.Common.{List, [], Option, subst}
use Rattle.std.specs.Prelude.{IfSome}
use Rattle.sort.specs.Sort.{SortField}
use Rattle.index.specs.Definition.{Definition}
use Rattle.planner.specs.View.{range_of}
use Rattle.planner.specs.declared.range.IndexRange.{IndexRange}
use Rattle.candidate_ids.specs.ByIndex.{IsRangeOf}
use Rattle.candidate_ids.proofs.by_index.ids_by_index.Goals as goal

pub returns : goal.returns
returns g c =
    let rs = c.args.filter.now in
    let home = c.args.home.now in
    let r = range_of c.in-Some.range in
    c.ids_asked.ensures rs
    (subst (λ (s : List SortField). IsRangeOf rs s home.indexes.items r) c.new-none.ensures
    (subst (λ (ds : List Definition). IsRangeOf rs c.new-none.result ds r) c.deref.ensures.value
    (subst (λ (o : Option IndexRange). IfSome o (λ range. IsRangeOf rs c.new-none.result c.deref.result.now (range_of range))) c.in-Some.is
    c.range_asked.ensures)))
