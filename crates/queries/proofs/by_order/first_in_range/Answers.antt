use Rattle.std.proofs.Common.{◌≡◌, List, Option, None, Vec, Global, take, sym, ap}
use Rattle.std.specs.Prelude.{IfSome}
use Rattle.std.proofs.lemmas.Result.{err_from_is_err_and}
use Rattle.bson.specs.Tree.{Pairs}
use Rattle.collections.specs.IndexTexts.{IsNumberedIndex}
use Rattle.database_model.specs.Find.{matching}
use Rattle.sort.specs.Sort.{order}
use Rattle.index.specs.Definition.{Definition}
use Rattle.entry_model.specs.State.{Collection}
use Rattle.index.specs.View.{texts_of}
use Rattle.planner.specs.View.{index_of, range_of}
use Rattle.asked_documents.specs.Asking.{IsAsked}
use Rattle.queries.specs.ByOrder.{AreFirstIds, LeadInOrder}
use Rattle.queries.specs.declared.by_order.FirstIds.{FirstIds}
use Rattle.queries.proofs.ByOrderLemmas.{asked_in_order}
use Rattle.asked_documents.proofs.ReadingLemmas.{reads_as, reads_behind, reads_none, reads_refused}
use Rattle.asked_documents.proofs.AskingLemmas.{asks_stopped}
use Rattle.queries.proofs.by_order.first_in_range.Goals as goal

pub returns-then-is_stopped-clause-reads : goal.returns-then-is_stopped-clause-reads
returns-then-is_stopped-clause-reads g c = λ sort is.
    let rs = c.args.filter.now in
    asks_stopped g.D.Disk.history (IsAsked c.args.home.now)
    (λ now of (found : Option (Vec Pairs Global)). IfSome found (λ v. v.items ≡ take c.args.most (order sort (matching rs of.documents)))) c.args.file.now
    (sym c.if-is_stopped.ensures)

pub returns-in_default-clause-reads : goal.returns-in_default-clause-reads
returns-in_default-clause-reads g c = λ sort is.
    let rs = c.args.filter.now in
    reads_none g.D.Disk.history (IsAsked c.args.home.now)
    (λ now of (found : Option (Vec Pairs Global)). IfSome found (λ v. v.items ≡ take c.args.most (order sort (matching rs of.documents)))) c.args.file.now None
    (sym c.if-is_stopped.ensures) (λ now state of asked. tt)

pub returns-in_err-read-clause-reads : goal.returns-in_err-read-clause-reads
returns-in_err-read-clause-reads g c = λ sort is.
    let rs = c.args.filter.now in
    let home = c.args.home.now in
    let r = range_of c.args.range.now in
    let index : Definition = c.in-Some.index.now in
    let leads : List Collection → Collection → FirstIds → Type 0 = λ now of y. LeadInOrder home.number rs sort y.are_all (texts_of y.ids.items) now of in
    let e = err_from_is_err_and c.from_residual.result c.from_residual.ensures.1 in
    rw (e.1, e.2)
    (reads_refused g.D.Disk.history (IsAsked home) leads
    (λ now of (found : Option (Vec Pairs Global)). IfSome found (λ v. v.items ≡ take c.args.most (order sort (matching rs of.documents)))) c.args.file.now
    c.first_ids.new.file c.in_err-read.field-0.0
    (reads_as g.D.Disk.history (IsAsked home) (IsNumberedIndex home.number index.number) (λ now at (y : FirstIds). at.definition ≡ index
    → AreFirstIds r at y.are_all (texts_of y.ids.items)) leads
    c.args.file.now c.first_ids.new.file _ (sym c.if-is_stopped.ensures) c.in_err-read.ensures
    (λ now state of asked. asked_in_order rs sort home r is c.requires now state of asked index (ap index_of c.in-Some.is))))

pub returns-clause-reads : goal.returns-clause-reads
returns-clause-reads g c = λ sort is.
    let rs = c.args.filter.now in
    let home = c.args.home.now in
    let r = range_of c.args.range.now in
    let index : Definition = c.in-Some.index.now in
    let read = c.in_ok-read.read in
    let leads : List Collection → Collection → FirstIds → Type 0 = λ now of y. LeadInOrder home.number rs sort y.are_all (texts_of y.ids.items) now of in
    reads_behind g.D.Disk.history (IsAsked home) leads (LeadInOrder home.number rs sort read.are_all (texts_of read.ids.items))
    (λ now of (found : Option (Vec Pairs Global)). IfSome found (λ v. v.items ≡ take c.args.most (order sort (matching rs of.documents))))
    (λ now of (found : Option (Vec Pairs Global)). IfSome found (λ v. v.items ≡ take c.args.most (order sort (matching rs of.documents))))
    c.args.file.now c.first_ids.new.file c.looked_up_first.new.file read c.looked_up_first.result
    (reads_as g.D.Disk.history (IsAsked home) (IsNumberedIndex home.number index.number) (λ now at (y : FirstIds). at.definition ≡ index
    → AreFirstIds r at y.are_all (texts_of y.ids.items)) leads
    c.args.file.now c.first_ids.new.file _ (sym c.if-is_stopped.ensures) c.in_ok-read.ensures
    (λ now state of asked. asked_in_order rs sort home r is c.requires now state of asked index (ap index_of c.in-Some.is)))
    (c.looked_up_first.ensures.reads sort)
    (λ now of asked told. record { other = of; was = told; right = λ found right. right })
