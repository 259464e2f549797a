use Rattle.std.proofs.Common.{◌≡◌, List, Option, Vec, Global, take, subst, sym}
use Rattle.std.specs.Prelude.{IfSome}
use Rattle.std.proofs.lemmas.Result.{err_from_is_err_and}
use Rattle.bson.specs.Tree.{Pairs}
use Rattle.entry_model.specs.State.{Collection}
use Rattle.collections.specs.Lookups.{ReadsOf}
use Rattle.database_model.specs.Find.{matching}
use Rattle.sort.specs.Sort.{order}
use Rattle.asked_documents.specs.Asking.{IsAsked}
use Rattle.queries.proofs.OrderingLemmas.{no_sort}
use Rattle.asked_documents.proofs.ReadingLemmas.{reads_behind, reads_made, reads_refused}
use Rattle.queries.proofs.ordering.ordered_in.Goals as goal

pub returns-then-is_empty-clause-reads : goal.returns-then-is_empty-clause-reads
returns-then-is_empty-clause-reads g c =
    let home = c.args.home.now in
    let plain = λ (ds : List Pairs). no_sort c.args.sort.now ds (sym c.if-is_empty.ensures) in
    subst (λ (Q : List Collection → Collection → Vec Pairs Global → Type 0). ReadsOf g.D.Disk.history
    (IsAsked home) Q c.spelled_in.result c.args.file.now c.spelled_in.new.file)
    (λ i now of found. found.items ≡ take c.args.most (sym (plain (matching c.args.filter.now of.documents)) i)) c.spelled_in.ensures.reads

pub returns-in_err-found-clause-reads : goal.returns-in_err-found-clause-reads
returns-in_err-found-clause-reads g c =
    let e = err_from_is_err_and c.from_residual.result c.from_residual.ensures.1 in
    rw (e.1, e.2)
    (reads_refused g.D.Disk.history (IsAsked c.args.home.now)
    (λ now of (found : Option (Vec Pairs Global)). IfSome found
    (λ v. v.items ≡ take c.args.most (order c.args.sort.now (matching c.args.filter.now of.documents))))
    (λ now of (found : Vec Pairs Global). found.items
    ≡ take c.args.most (order c.args.sort.now (matching c.args.filter.now of.documents))) c.args.file.now c.first_by_index.new.file c.in_err-found.field-0.0
    c.in_err-found.ensures.reads)

pub returns-in-Some-clause-reads : goal.returns-in-Some-clause-reads
returns-in-Some-clause-reads g c =
    reads_made g.D.Disk.history (IsAsked c.args.home.now)
    (λ now of (found : Option (Vec Pairs Global)). IfSome found
    (λ v. v.items ≡ take c.args.most (order c.args.sort.now (matching c.args.filter.now of.documents))))
    (λ now of (found : Vec Pairs Global). found.items
    ≡ take c.args.most (order c.args.sort.now (matching c.args.filter.now of.documents))) c.args.file.now c.first_by_index.new.file c.in_ok-found.field-0
    c.in-Some.found c.in_ok-found.ensures.reads
    (λ now of asked is. subst
    (λ (o : Option (Vec Pairs Global)). IfSome o (λ v. v.items ≡ take c.args.most (order c.args.sort.now (matching c.args.filter.now of.documents))))
    c.in-Some.is is)

pub returns-in-None-clause-reads : goal.returns-in-None-clause-reads
returns-in-None-clause-reads g c =
    reads_behind g.D.Disk.history (IsAsked c.args.home.now)
    (λ now of (found : Option (Vec Pairs Global)). IfSome found
    (λ v. v.items ≡ take c.args.most (order c.args.sort.now (matching c.args.filter.now of.documents)))) (IsAsked c.args.home.now)
    (λ now of (found : Vec Pairs Global). found.items ≡ take c.args.most (order c.args.sort.now (matching c.args.filter.now of.documents)))
    (λ now of (found : Vec Pairs Global). found.items ≡ take c.args.most (order c.args.sort.now (matching c.args.filter.now of.documents)))
    c.args.file.now c.first_by_index.new.file c.sorted_in.new.file c.in_ok-found.field-0 c.sorted_in.result c.in_ok-found.ensures.reads
    c.sorted_in.ensures.reads
    (λ now of asked told. record { other = of; was = asked; right = λ found right. right })
