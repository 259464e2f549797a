use Rattle.std.proofs.Common.{◌≡◌, Option, Some, None, Vec, Global, take, subst, sym, ◌∙◌}
use Rattle.std.specs.Prelude.{IfSome}
use Rattle.bson.specs.Tree.{Pairs}
use Rattle.aggregate_model.specs.Taking.{KeepsFirst}
use Rattle.pipelines.specs.View.{pipeline_of}
use Rattle.database_model.specs.Aggregate.{AreEnough}
use Rattle.database_model.specs.Find.{matching}
use Rattle.sort.specs.Sort.{order}
use Rattle.asked_documents.specs.Asking.{IsAsked}
use Rattle.queries.proofs.NeededByOrderLemmas.{first_needed}
use Rattle.asked_documents.proofs.ReadingLemmas.{reads_made, reads_none}
use Rattle.asked_documents.proofs.AskingLemmas.{asks_stopped}
use Rattle.queries.proofs.needed_by_order.needed_by_order.Goals as goal

pub returns-then-is_stopped-clause-reads : goal.returns-then-is_stopped-clause-reads
returns-then-is_stopped-clause-reads g c =
    let stages = pipeline_of c.args.pipeline.now in
    asks_stopped g.D.Disk.history (IsAsked c.args.home.now)
    (λ now of (found : Option (Vec Pairs Global)). IfSome found (λ few. AreEnough stages few.items of.documents)) c.args.file.now (sym c.if-is_stopped.ensures)

pub returns-in_default-clause-reads : goal.returns-in_default-clause-reads
returns-in_default-clause-reads g c =
    let stages = pipeline_of c.args.pipeline.now in
    reads_none g.D.Disk.history (IsAsked c.args.home.now)
    (λ now of (found : Option (Vec Pairs Global)). IfSome found (λ few. AreEnough stages few.items of.documents)) c.args.file.now None
    (sym c.if-is_stopped.ensures) (λ now state of asked. tt)

pub returns-clause-reads : goal.returns-clause-reads
returns-clause-reads g c =
    let stages = pipeline_of c.args.pipeline.now in
    let first = c.in-Some.first in
    let rs = c.asked_by-filter.result.now in
    let keeps : KeepsFirst stages first.sort.now first.most = c.in-Some.ensures in
    reads_made g.D.Disk.history (IsAsked c.args.home.now)
    (λ now of (found : Option (Vec Pairs Global)). IfSome found (λ v. v.items ≡ take first.most (order first.sort.now (matching rs of.documents))))
    (λ now of (found : Option (Vec Pairs Global)). IfSome found (λ few. AreEnough stages few.items of.documents)) c.args.file.now c.first_in_order.new.file
    c.in_ok-found.field-0 (Some c.in_ok-built.built) c.in_ok-found.ensures.reads
    (λ now of asked told.
    first_needed stages first.sort.now first.most keeps rs c.in_ok-built.built.items of.documents c.asked_by-filter.ensures
    (c.in_ok-built.ensures
    ∙ subst (λ (o : Option (Vec Pairs Global)). IfSome o (λ v. v.items ≡ take first.most (order first.sort.now (matching rs of.documents)))) c.in-Some-2.is
    told))
