use Rattle.std.proofs.Common.{◌≡◌, ◌++◌, [], List, Option}
use Rattle.std.specs.List.{filter}
use Rattle.std.proofs.lemmas.Result.{err_from_is_err_and}
use Rattle.bson.specs.Tree.{Pairs}
use Rattle.collections.specs.Lookups.{IsPlaceOf, stored_at}
use Rattle.planner.specs.IdLaws.{with_found}
use Rattle.asked_documents.proofs.ReadingLemmas.{reads_refused}
use Rattle.walks.proofs.by_ids.look_up.Goals as goal

pub returns-in_err-document-clause-reads : goal.returns-in_err-document-clause-reads
returns-in_err-document-clause-reads g c =
    let p = g.S.DocumentPredicate.selects c.args.which.now in
    let found : List Pairs = c.args.found.now.items in
    let e = err_from_is_err_and c.from_residual.result c.from_residual.ensures.1 in
    rw (e.1, e.2) (reads_refused g.D.Disk.history (IsPlaceOf c.args.number c.args.id.now) (λ now place (o : Option Pairs). o ≡ stored_at place)
    (λ now place (_ : Unit {0}). found ≡ found
    ++ filter p (with_found (stored_at place) [])) c.args.file.now c.spelled_within.new.file c.in_err-document.field-0.0 c.in_err-document.ensures.reads)
