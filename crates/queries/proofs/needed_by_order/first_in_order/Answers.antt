use Rattle.std.proofs.Common.{◌≡◌, Option, Some, Vec, Global, take, sym, ap, ◌∙◌}
use Rattle.std.specs.Prelude.{IfSome}
use Rattle.std.proofs.lemmas.Result.{err_from_is_err_and}
use Rattle.bson.specs.Tree.{Pairs}
use Rattle.database_model.specs.Find.{matching}
use Rattle.sort.specs.Sort.{order}
use Rattle.asked_documents.specs.Asking.{IsAsked}
use Rattle.queries.proofs.IdOrderLemmas.{keeps_asked}
use Rattle.asked_documents.proofs.ReadingLemmas.{reads_refused, reads_told}
use Rattle.asked_documents.proofs.AskingLemmas.{asks_stopped}
use Rattle.queries.proofs.needed_by_order.first_in_order.Goals as goal

pub returns-then-is_stopped-clause-reads : goal.returns-then-is_stopped-clause-reads
returns-then-is_stopped-clause-reads g c =
    asks_stopped g.D.Disk.history (IsAsked c.args.home.now)
    (λ now of (found : Option (Vec Pairs Global)). IfSome found
    (λ v. v.items ≡ take c.args.most (order c.args.sort.now (matching c.args.filter.now of.documents)))) c.args.file.now (sym c.if-is_stopped.ensures)

pub returns-in_err-found-clause-reads : goal.returns-in_err-found-clause-reads
returns-in_err-found-clause-reads g c =
    let e = err_from_is_err_and c.from_residual.result c.from_residual.ensures.1 in
    rw (e.1, e.2)
    (reads_refused g.D.Disk.history (IsAsked c.args.home.now)
    (λ now of (found : Vec Pairs Global). found.items ≡ take c.args.most (matching c.args.filter.now of.documents))
    (λ now of (found : Option (Vec Pairs Global)). IfSome found
    (λ v. v.items ≡ take c.args.most (order c.args.sort.now (matching c.args.filter.now of.documents)))) c.args.file.now c.spelled_in.new.file
    c.in_err-found.field-0.0 c.in_err-found.ensures.reads)

pub returns-then-keeps_id_order-clause-reads : goal.returns-then-keeps_id_order-clause-reads
returns-then-keeps_id_order-clause-reads g c =
    let sort = c.args.sort.now in
    let rules = c.args.filter.now in
    reads_told g.D.Disk.history (IsAsked c.args.home.now)
    (λ now of (found : Vec Pairs Global). found.items ≡ take c.args.most (matching rules of.documents))
    (λ now of (found : Option (Vec Pairs Global)). IfSome found (λ v. v.items ≡ take c.args.most (order sort (matching rules of.documents))))
    c.args.file.now c.spelled_in.new.file c.in_ok-found.found (Some c.in_ok-found.found) (sym c.if-is_stopped.ensures) c.in_ok-found.ensures.reads
    (λ now state of asked is.
    is ∙ ap (take c.args.most) (sym (keeps_asked sort rules c.args.home.now now of (sym c.if-keeps_id_order.ensures) state asked)))
