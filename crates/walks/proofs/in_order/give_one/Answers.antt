use Rattle.std.proofs.Common.{◌≡◌, ◌∙◌, Bool, Option, Ok, Err, Some, true, false, sym, subst}
use Rattle.std.proofs.lemmas.Result.{err_from_is_err_and}
use Rattle.bson.specs.Tree.{Pairs}
use Rattle.collections.specs.Lookups.{IsPlaceOf, stored_at}
use Rattle.collections.specs.Versions.{ReadsVersion}
use Rattle.planner.specs.KeyScan.{id_text}
use Rattle.path.specs.declared.refusal.Refusal.TheVariants as refusals
use Rattle.walks.specs.Batches.{Puts}
use Rattle.walks.proofs.InOrderLendLemmas.{one_given, one_there, one_unread, put_in, put_left}
use Rattle.walks.proofs.in_order.give_one.Goals as goal

pub returns-in_err-document-clause-reads : goal.returns-in_err-document-clause-reads
returns-in_err-document-clause-reads g c =
    let e = err_from_is_err_and c.from_residual.result c.from_residual.ensures.1 in
    let told : id_text c.args.index.now.fields c.args.text.now ≡ Some c.in-Some.id.now = sym c.in-Some.ensures in
    rw (e.1, e.2)
    (one_unread g.D.Disk.history c.args.version c.args.number c.args.index.now c.args.text.now c.args.file.now c.document_in.new.self
    c.args.giving.now c.args.giving.now c.in-Some.id.now told c.in_err-document.field-0.0 c.in_err-document.ensures)

pub returns-in_default-2-clause-reads : goal.returns-in_default-2-clause-reads
returns-in_default-2-clause-reads g c =
    let told : id_text c.args.index.now.fields c.args.text.now ≡ Some c.in-Some.id.now = sym c.in-Some.ensures in
    one_there g.D.Disk.history c.args.version c.args.number c.args.index.now c.args.text.now c.args.file.now c.document_in.new.self
    c.args.giving.now c.args.giving.now c.in-Some.id.now told refusals.StorageFailed
    (subst (λ (o : Option Pairs). ReadsVersion g.D.Disk.history c.args.version (IsPlaceOf c.args.number c.in-Some.id.now)
    (λ now place (found : Option Pairs). found ≡ stored_at place) (Ok o) c.args.file.now c.document_in.new.self) c.in_default-2.is c.in_ok-document.ensures)

pub returns-in_err-put-clause-reads : goal.returns-in_err-put-clause-reads
returns-in_err-put-clause-reads g c =
    let e = err_from_is_err_and c.from_residual-in_err-put.result c.from_residual-in_err-put.ensures.1 in
    let told : id_text c.args.index.now.fields c.args.text.now ≡ Some c.in-Some.id.now = sym c.in-Some.ensures in
    let there = subst (λ (o : Option Pairs). ReadsVersion g.D.Disk.history c.args.version (IsPlaceOf c.args.number c.in-Some.id.now)
    (λ now place (found : Option Pairs). found ≡ stored_at place) (Ok o) c.args.file.now c.document_in.new.self) c.in-Some-2.is c.in_ok-document.ensures in
    rw (e.1, e.2)
    (one_given g.D.Disk.history c.args.version c.args.number c.args.index.now c.args.text.now c.args.file.now c.document_in.new.self
    c.args.giving.now c.put.new.self c.in-Some.id.now told c.raw.result (Err c.in_err-put.field-0.0)
    (subst (λ (d : Pairs). ReadsVersion g.D.Disk.history c.args.version (IsPlaceOf c.args.number c.in-Some.id.now)
    (λ now place (found : Option Pairs). found ≡ stored_at place) (Ok (Some d)) c.args.file.now c.document_in.new.self) (sym c.raw.ensures) there)
    (λ storable spelled. c.in_err-put.ensures.refuses storable))

pub returns-then-not-branch-clause-reads : goal.returns-then-not-branch-clause-reads
returns-then-not-branch-clause-reads g c =
    let told : id_text c.args.index.now.fields c.args.text.now ≡ Some c.in-Some.id.now = sym c.in-Some.ensures in
    let there = subst (λ (o : Option Pairs). ReadsVersion g.D.Disk.history c.args.version (IsPlaceOf c.args.number c.in-Some.id.now)
    (λ now place (found : Option Pairs). found ≡ stored_at place) (Ok o) c.args.file.now c.document_in.new.self) c.in-Some-2.is c.in_ok-document.ensures in
    one_given g.D.Disk.history c.args.version c.args.number c.args.index.now c.args.text.now c.args.file.now c.document_in.new.self
    c.args.giving.now c.put.new.self c.in-Some.id.now told c.raw.result (Ok false)
    (subst (λ (d : Pairs). ReadsVersion g.D.Disk.history c.args.version (IsPlaceOf c.args.number c.in-Some.id.now)
    (λ now place (found : Option Pairs). found ≡ stored_at place) (Ok (Some d)) c.args.file.now c.document_in.new.self) (sym c.raw.ensures) there)
    (λ storable spelled.
    put_in c.raw.result c.args.giving.now c.put.new.self
    (subst (λ (b : Bool). Puts c.args.giving.now c.raw.result b c.put.new.self) c.if-not-branch.true c.in_ok-put.ensures.puts) c.requires.none)

pub returns-clause-reads : goal.returns-clause-reads
returns-clause-reads g c =
    let told : id_text c.args.index.now.fields c.args.text.now ≡ Some c.in-Some.id.now = sym c.in-Some.ensures in
    let there = subst (λ (o : Option Pairs). ReadsVersion g.D.Disk.history c.args.version (IsPlaceOf c.args.number c.in-Some.id.now)
    (λ now place (found : Option Pairs). found ≡ stored_at place) (Ok o) c.args.file.now c.document_in.new.self) c.in-Some-2.is c.in_ok-document.ensures in
    let reads = subst (λ (d : Pairs). ReadsVersion g.D.Disk.history c.args.version (IsPlaceOf c.args.number c.in-Some.id.now)
    (λ now place (found : Option Pairs). found ≡ stored_at place) (Ok (Some d)) c.args.file.now c.document_in.new.self) (sym c.raw.ensures) there in
    let puts = subst (λ (b : Bool). Puts c.args.giving.now c.raw.result b c.put.new.self) c.if-not-branch.false c.in_ok-put.ensures.puts in
    one_given g.D.Disk.history c.args.version c.args.number c.args.index.now c.args.text.now c.args.file.now c.document_in.new.self
    c.args.giving.now _ c.in-Some.id.now told c.raw.result (Ok true) reads
    (λ storable spelled.
    put_left c.raw.result c.args.giving.now c.put.new.self c.in_ok-bytes_of.field-0 puts (c.in_ok-bytes_of.ensures ∙ spelled))
