use Rattle.std.proofs.Common.{◌≡◌, Option, Ok, Some, sym, subst}
use Rattle.std.proofs.lemmas.Result.{err_from_is_err_and}
use Rattle.bson.specs.Tree.{Pairs}
use Rattle.collections.specs.Lookups.{IsPlaceOf, stored_at}
use Rattle.collections.specs.Versions.{ReadsVersion}
use Rattle.path.specs.declared.refusal.Refusal.TheVariants as refusals
use Rattle.walks.proofs.ListedLemmas.{never_missing, offered, unread}
use Rattle.walks.proofs.listed.offer_one.Goals as goal

pub returns-in_err-document-clause-reads : goal.returns-in_err-document-clause-reads
returns-in_err-document-clause-reads g c =
    let e = err_from_is_err_and c.from_residual.result c.from_residual.ensures.1 in
    rw (e.1, e.2)
    (unread g.D.Disk.history c.args.version c.args.number c.args.id.now c.args.projection.now c.args.batch.now c.args.batch.now c.args.file.now
    c.document_in.new.self c.in_err-document.field-0.0 c.in_err-document.ensures)

pub returns-in_default-clause-reads : goal.returns-in_default-clause-reads
returns-in_default-clause-reads g c =
    never_missing g.D.Disk.history c.args.version c.args.number c.args.id.now c.args.projection.now c.args.batch.now c.args.batch.now c.args.file.now
    c.document_in.new.self refusals.StorageFailed
    (subst (λ (o : Option Pairs). ReadsVersion g.D.Disk.history c.args.version (IsPlaceOf c.args.number c.args.id.now)
    (λ now place (found : Option Pairs). found ≡ stored_at place) (Ok o) c.args.file.now c.document_in.new.self) c.in_default.is c.in_ok-document.ensures)

pub returns-clause-reads : goal.returns-clause-reads
returns-clause-reads g c =
    let there = subst (λ (o : Option Pairs). ReadsVersion g.D.Disk.history c.args.version (IsPlaceOf c.args.number c.args.id.now)
    (λ now place (found : Option Pairs). found ≡ stored_at place) (Ok o) c.args.file.now c.document_in.new.self) c.in-Some.is c.in_ok-document.ensures in
    offered g.D.Disk.history c.args.version c.args.number c.args.id.now c.args.projection.now c.args.batch.now c.offer_within.new.batch c.args.file.now
    c.document_in.new.self c.raw.result c.offer_within.result
    (subst (λ (d : Pairs). ReadsVersion g.D.Disk.history c.args.version (IsPlaceOf c.args.number c.args.id.now)
    (λ now place (found : Option Pairs). found ≡ stored_at place) (Ok (Some d)) c.args.file.now c.document_in.new.self) (sym c.raw.ensures) there)
    c.offer_within.ensures.offered c.offer_within.ensures.refuses
