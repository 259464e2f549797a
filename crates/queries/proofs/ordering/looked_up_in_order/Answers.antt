use Rattle.std.proofs.Common.{◌≡◌, ◌^◌, ◌-◌, List, Vec, Global, length, take, ap, ◌∙◌, arith}
use Rattle.std.proofs.lemmas.Result.{err_from_is_err_and}
use Rattle.bson.specs.Tree.{Pairs}
use Rattle.database_model.specs.Find.{matching}
use Rattle.filter.specs.Matches.{matches}
use Rattle.sort.specs.Sort.{order}
use Rattle.index.specs.View.{texts_of}
use Rattle.asked_documents.specs.ById.{AreIdsOf}
use Rattle.queries.proofs.OrderingLemmas.{take_whole}
use Rattle.asked_documents.proofs.ReadingLemmas.{reads_made, reads_memory, reads_refused}
use Rattle.queries.proofs.ordering.looked_up_in_order.Goals as goal

pub returns-in_err-found-clause-reads : goal.returns-in_err-found-clause-reads
returns-in_err-found-clause-reads g c =
    let e = err_from_is_err_and c.from_residual.result c.from_residual.ensures.1 in
    rw (e.1, e.2) (reads_refused g.D.Disk.history (AreIdsOf c.args.number (matches c.args.filter.now) (texts_of c.args.ids.now))
    (λ now of (found : Vec Pairs Global). found.items ≡ take (2 ^ 64 - 1) (matching c.args.filter.now of.documents))
    (λ now of (found : Vec Pairs Global). found.items ≡ take c.args.most (order c.args.sort.now (matching c.args.filter.now of.documents)))
    c.args.file.now c.selected_by_ids.new.file c.in_err-found.field-0.0 c.in_err-found.ensures.reads)

pub returns-in_err-first_found-clause-reads : goal.returns-in_err-first_found-clause-reads
returns-in_err-first_found-clause-reads g c =
    let e = err_from_is_err_and c.from_residual-in_err-first_found.result c.from_residual-in_err-first_found.ensures.1 in
    rw e.1 (reads_memory g.D.Disk.history (AreIdsOf c.args.number (matches c.args.filter.now) (texts_of c.args.ids.now))
    (λ now of (found : Vec Pairs Global). found.items ≡ take (2 ^ 64 - 1) (matching c.args.filter.now of.documents))
    (λ now of (found : Vec Pairs Global). found.items ≡ take c.args.most (order c.args.sort.now (matching c.args.filter.now of.documents)))
    _ c.args.file.now c.selected_by_ids.new.file e.0 e.2 c.in_ok-found.ensures.reads)

pub returns-clause-reads : goal.returns-clause-reads
returns-clause-reads g c =
    let sort = c.args.sort.now in
    let found = c.in_ok-found.found in
    let last = c.in_ok-first_found.field-0 in
    let first : last.items ≡ take c.args.most (order sort found.items) =
    c.in_ok-first_found.ensures.first in
    reads_made g.D.Disk.history (AreIdsOf c.args.number (matches c.args.filter.now) (texts_of c.args.ids.now))
    (λ now of (v : Vec Pairs Global). v.items ≡ take (2 ^ 64 - 1) (matching c.args.filter.now of.documents))
    (λ now of (v : Vec Pairs Global). v.items ≡ take c.args.most (order sort (matching c.args.filter.now of.documents)))
    c.args.file.now c.selected_by_ids.new.file found last c.in_ok-found.ensures.reads
    (λ now of asked is.
    let whole : found.items ≡ matching c.args.filter.now of.documents =
    is ∙ take_whole (2 ^ 64 - 1) (matching c.args.filter.now of.documents) (omega (arith, ap length is, found.ok.0, found.ok.1, found.small)) in
    first ∙ ap (λ (ds : List Pairs). take c.args.most (order sort ds)) whole)

pub first_found-requires : goal.first_found-requires
first_found-requires g c = c.in_ok-found.ensures.within
