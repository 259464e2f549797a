use Rattle.std.proofs.Common.{◌≡◌, Option, Vec, Global, map, take, subst}
use Rattle.std.specs.Borrow.{Bor}
use Rattle.std.specs.Prelude.{IfSome}
use Rattle.std.specs.List.{filter}
use Rattle.std.proofs.lemmas.Result.{err_from_is_err_and}
use Rattle.bson.specs.Tree.{Pairs}
use Rattle.filter.specs.Condition.{Conditions}
use Rattle.asked_documents.specs.Asking.{IsAsked}
use Rattle.asked_documents.specs.ById.{AreIdsOf, but_not}
use Rattle.queries.specs.PartlyTold.{IsToldOf}
use Rattle.candidate_ids.specs.declared.telling.Told.{Told}
use Rattle.asked_documents.proofs.ReadingLemmas.{reads_behind, reads_refused}
use Rattle.queries.proofs.looking_up.spelled_in.Goals as goal

pub returns-in_err-told-clause-reads : goal.returns-in_err-told-clause-reads
returns-in_err-told-clause-reads g c =
    let home = c.args.home.now in
    let p = g.S.DocumentPredicate.selects c.args.which.now in
    let e = err_from_is_err_and c.from_residual.result c.from_residual.ensures.1 in
    rw (e.1, e.2)
    (reads_refused g.D.Disk.history (IsAsked home)
    (λ now of (o : Option Told). IfSome o (λ t. AreIdsOf home.number (but_not p (map (λ (q : Bor Conditions). q.now) t.walked.items)) t.ids now of))
    (λ now of (found : Vec Pairs Global). found.items ≡ take c.args.most (filter p of.documents))
    c.args.file.now c.told_in.new.file c.in_err-told.field-0.0 c.in_err-told.ensures)

pub returns-in_default-clause-reads : goal.returns-in_default-clause-reads
returns-in_default-clause-reads g c =
    let home = c.args.home.now in
    let p = g.S.DocumentPredicate.selects c.args.which.now in
    reads_behind g.D.Disk.history (IsAsked home)
    (λ now of (o : Option Told). IfSome o (λ t. AreIdsOf home.number (but_not p (map (λ (q : Bor Conditions). q.now) t.walked.items)) t.ids now of))
    (IsAsked home) (λ now of (found : Vec Pairs Global). found.items ≡ take c.args.most (filter p of.documents))
    (λ now of (found : Vec Pairs Global). found.items ≡ take c.args.most (filter p of.documents))
    c.args.file.now c.told_in.new.file c.scanned.new.file c.in_ok-told.field-0 c.scanned.result c.in_ok-told.ensures c.scanned.ensures.reads
    (λ now of asked told. record { other = of; was = asked; right = λ found right. right })

pub returns-clause-reads : goal.returns-clause-reads
returns-clause-reads g c =
    let home = c.args.home.now in
    let p = g.S.DocumentPredicate.selects c.args.which.now in
    reads_behind g.D.Disk.history (IsAsked home)
    (λ now of (o : Option Told). IfSome o (λ t. AreIdsOf home.number (but_not p (map (λ (q : Bor Conditions). q.now) t.walked.items)) t.ids now of))
    (IsToldOf home p c.in-Some.told) (λ now of (found : Vec Pairs Global). found.items ≡ take c.args.most (filter p of.documents))
    (λ now of (found : Vec Pairs Global). found.items ≡ take c.args.most (filter p of.documents))
    c.args.file.now c.told_in.new.file c.selected_as_told.new.file c.in_ok-told.field-0 c.selected_as_told.result c.in_ok-told.ensures
    c.selected_as_told.ensures.reads
    (λ now of asked told. record {
      other = of;
      was = record {
        asked = asked;
        ids = subst (λ (o : Option Told). IfSome o (λ t. AreIdsOf home.number (but_not p (map (λ (q : Bor Conditions). q.now) t.walked.items)) t.ids now of))
            c.in-Some.is told;
      };
      right = λ found right. right;
    })
