use Rattle.std.proofs.Common.{◌≡◌, Option, Ok, sym, ap, subst, ◌∙◌}
use Rattle.std.proofs.lemmas.Result.{err_from_is_err_and}
use Rattle.bson.specs.Tree.{Pairs}
use Rattle.collections.specs.Lookups.{IsPlaceOf, ReadsOf, stored_at}
use Rattle.walks.specs.Within.{is_within}
use Rattle.walks.proofs.WithinLemmas.{over_refused}
use Rattle.asked_documents.proofs.ReadingLemmas.{reads_memory}
use Rattle.walks.proofs.by_ids.spelled_within.Goals as goal

pub returns-in_err-is_within-clause-reads : goal.returns-in_err-is_within-clause-reads
returns-in_err-is_within-clause-reads g c =
    let e = err_from_is_err_and c.from_residual-in_err-is_within.result c.from_residual-in_err-is_within.ensures.1 in
    rw e.1 (reads_memory g.D.Disk.history (IsPlaceOf c.args.number c.args.id.now) (λ now place (found : Option Pairs). found ≡ stored_at place)
    (λ now place (found : Option Pairs). found ≡ stored_at place) _ c.args.file.now c.document.new.self e.0 e.2 c.in_ok-document.ensures)

pub returns-then-not-branch-clause-reads : goal.returns-then-not-branch-clause-reads
returns-then-not-branch-clause-reads g c =
    let there = subst
    (λ (o : Option Pairs). ReadsOf g.D.Disk.history (IsPlaceOf c.args.number c.args.id.now) (λ now place (found : Option Pairs). found ≡ stored_at place)
    (Ok o) c.args.file.now c.document.new.self) c.in-Some.is c.in_ok-document.ensures in
    over_refused g.D.Disk.history c.args.file.now c.document.new.self c.args.number c.args.id.now c.in-Some.document there
    (ap is_within (sym c.raw.ensures) ∙ sym c.in_ok-is_within.ensures ∙ c.if-not-branch.true) (λ now place (found : Option Pairs). found ≡ stored_at place)
