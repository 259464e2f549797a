use Rattle.std.proofs.Common.{◌≡◌, List, Option, None, Vec, Global, take, sym, subst}
use Rattle.std.specs.Prelude.{IfSome}
use Rattle.std.proofs.lemmas.Result.{err_from_is_err_and}
use Rattle.bson.specs.Tree.{Pairs}
use Rattle.database_model.specs.Find.{matching}
use Rattle.sort.specs.Sort.{order}
use Rattle.index.specs.Definition.{Definition}
use Rattle.planner.specs.View.{range_of}
use Rattle.planner.specs.declared.range.IndexRange.{IndexRange}
use Rattle.asked_documents.specs.Asking.{IsAsked}
use Rattle.candidate_ids.specs.ByIndex.{IsRangeOf}
use Rattle.asked_documents.proofs.ReadingLemmas.{reads_behind, reads_none, reads_refused}
use Rattle.asked_documents.proofs.AskingLemmas.{asks_stopped}
use Rattle.queries.proofs.by_order.first_by_index.Goals as goal

pub returns-then-is_stopped-clause-reads : goal.returns-then-is_stopped-clause-reads
returns-then-is_stopped-clause-reads g c =
    asks_stopped g.D.Disk.history (IsAsked c.args.home.now)
    (λ now of (found : Option (Vec Pairs Global)). IfSome found
    (λ v. v.items ≡ take c.args.most (order c.args.sort.now (matching c.args.filter.now of.documents)))) c.args.file.now (sym c.if-is_stopped.ensures)

pub returns-in_default-clause-reads : goal.returns-in_default-clause-reads
returns-in_default-clause-reads g c =
    reads_none g.D.Disk.history (IsAsked c.args.home.now)
    (λ now of (found : Option (Vec Pairs Global)). IfSome found
    (λ v. v.items ≡ take c.args.most (order c.args.sort.now (matching c.args.filter.now of.documents)))) c.args.file.now None (sym c.if-is_stopped.ensures)
    (λ now state of asked. tt)

pub returns-then-not-range-clause-reads : goal.returns-then-not-range-clause-reads
returns-then-not-range-clause-reads g c =
    reads_none g.D.Disk.history (IsAsked c.args.home.now)
    (λ now of (found : Option (Vec Pairs Global)). IfSome found
    (λ v. v.items ≡ take c.args.most (order c.args.sort.now (matching c.args.filter.now of.documents)))) c.args.file.now None (sym c.if-is_stopped.ensures)
    (λ now state of asked. tt)

pub returns-in_err-found-clause-reads : goal.returns-in_err-found-clause-reads
returns-in_err-found-clause-reads g c =
    let rs = c.args.filter.now in
    let sort = c.args.sort.now in
    let home = c.args.home.now in
    let r = range_of c.in-Some.range in
    let is : IsRangeOf rs sort home.indexes.items r =
    subst (λ (ds : List Definition). IsRangeOf rs sort ds r) c.deref.ensures.value
    (subst (λ (o : Option IndexRange). IfSome o (λ range. IsRangeOf rs sort c.deref.result.now (range_of range))) c.in-Some.is c.range_asked.ensures) in
    let e = err_from_is_err_and c.from_residual.result c.from_residual.ensures.1 in
    rw (e.1, e.2)
    (reads_refused g.D.Disk.history (IsAsked home)
    (λ now of (found : Option (Vec Pairs Global)). IfSome found
    (λ v. v.items ≡ take c.args.most (order c.args.sort.now (matching c.args.filter.now of.documents))))
    (λ now of (found : Option (Vec Pairs Global)). IfSome found
    (λ v. v.items ≡ take c.args.most (order c.args.sort.now (matching c.args.filter.now of.documents)))) c.args.file.now c.first_in_range.new.file
    c.in_err-found.field-0.0 (c.in_err-found.ensures.reads sort is))

pub returns-then-is_some-clause-reads : goal.returns-then-is_some-clause-reads
returns-then-is_some-clause-reads g c =
    let rs = c.args.filter.now in
    let sort = c.args.sort.now in
    let home = c.args.home.now in
    let r = range_of c.in-Some.range in
    let is : IsRangeOf rs sort home.indexes.items r =
    subst (λ (ds : List Definition). IsRangeOf rs sort ds r) c.deref.ensures.value
    (subst (λ (o : Option IndexRange). IfSome o (λ range. IsRangeOf rs sort c.deref.result.now (range_of range))) c.in-Some.is c.range_asked.ensures) in
    c.in_ok-found.ensures.reads sort is

pub returns-clause-reads : goal.returns-clause-reads
returns-clause-reads g c =
    let rs = c.args.filter.now in
    let sort = c.args.sort.now in
    let home = c.args.home.now in
    let r = range_of c.in-Some.range in
    let is : IsRangeOf rs sort home.indexes.items r =
    subst (λ (ds : List Definition). IsRangeOf rs sort ds r) c.deref.ensures.value
    (subst (λ (o : Option IndexRange). IfSome o (λ range. IsRangeOf rs sort c.deref.result.now (range_of range))) c.in-Some.is c.range_asked.ensures) in
    reads_behind g.D.Disk.history (IsAsked home)
    (λ now of (found : Option (Vec Pairs Global)). IfSome found
    (λ v. v.items ≡ take c.args.most (order c.args.sort.now (matching c.args.filter.now of.documents)))) (IsAsked home)
    (λ now of (found : Option (Vec Pairs Global)). IfSome found
    (λ v. v.items ≡ take c.args.most (order c.args.sort.now (matching c.args.filter.now of.documents))))
    (λ now of (found : Option (Vec Pairs Global)). IfSome found
    (λ v. v.items ≡ take c.args.most (order c.args.sort.now (matching c.args.filter.now of.documents))))
    c.args.file.now c.first_in_range.new.file c.first_in_range-2.new.file c.in_ok-found.found c.first_in_range-2.result (c.in_ok-found.ensures.reads sort is)
    (c.first_in_range-2.ensures.reads sort is)
    (λ now of asked told. record { other = of; was = asked; right = λ found right. right })
