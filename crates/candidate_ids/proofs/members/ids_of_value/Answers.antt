use Rattle.std.proofs.Common.{List, [], Option, subst}
use Rattle.std.specs.Prelude.{IfSome}
use Rattle.bson.specs.View.{tree}
use Rattle.index.specs.Definition.{Definition}
use Rattle.planner.specs.View.{range_of}
use Rattle.planner.specs.declared.range.IndexRange.{IndexRange}
use Rattle.candidate_ids.specs.Alternatives.{equal_at}
use Rattle.candidate_ids.specs.ByIndex.{IsRangeOf}
use Rattle.candidate_ids.proofs.members.ids_of_value.Goals as goal

pub returns : goal.returns
returns g c =
    let rs = equal_at c.args.path.now (tree c.args.value.now) in
    let r = range_of c.in-Some.range in
    c.ids_asked.ensures rs
    (subst (λ (ds : List Definition). IsRangeOf rs [] ds r) c.deref.ensures.value
    (subst (λ (o : Option IndexRange). IfSome o (λ range. IsRangeOf rs [] c.deref.result.now (range_of range))) c.in-Some.is c.range_of_value.ensures))
