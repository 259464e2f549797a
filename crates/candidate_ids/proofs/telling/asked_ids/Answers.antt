use Rattle.std.proofs.Common.{ℕ, List, Option, Some, Vec, Global, map, ap, sym, subst}
use Rattle.std.specs.Borrow.{Bor}
use Rattle.std.specs.Prelude.{IfSome}
use Rattle.std.proofs.lemmas.Result.{err_from_is_err_and}
use Rattle.filter.specs.Condition.{Conditions}
use Rattle.index.specs.View.{texts_of}
use Rattle.asked_documents.specs.Asking.{IsAsked}
use Rattle.asked_documents.specs.ById.{AreIdsOf, but_not}
use Rattle.candidate_ids.specs.declared.telling.Told.{Told}
use Rattle.candidate_ids.proofs.TellingLemmas.{all_are_told}
use Rattle.asked_documents.proofs.AskingLemmas.{none_there}
use Rattle.asked_documents.proofs.ReadingLemmas.{reads_made, reads_refused}
use Rattle.candidate_ids.proofs.telling.asked_ids.Goals as goal

pub returns-in_err-told : goal.returns-in_err-told
returns-in_err-told g c =
    let home = c.args.home.now in
    let p = g.S.DocumentPredicate.selects c.args.which.now in
    let e = err_from_is_err_and c.from_residual.result c.from_residual.ensures.1 in
    rw (e.1, e.2)
    (reads_refused g.D.Disk.history (IsAsked home)
    (λ now of (o : Option Told). IfSome o (λ t. AreIdsOf home.number (but_not p (map (λ (q : Bor Conditions). q.now) t.walked.items)) t.ids now of))
    (λ now of (o : Option (Vec (Vec ℕ Global) Global)). IfSome o (λ ids. AreIdsOf home.number p (texts_of ids.items) now of)) c.args.file.now
    c.told_in.new.file c.in_err-told.field-0.0 c.in_err-told.ensures)

pub returns-then-is_empty : goal.returns-then-is_empty
returns-then-is_empty g c =
    let home = c.args.home.now in
    let p = g.S.DocumentPredicate.selects c.args.which.now in
    let ws : List Conditions = map (λ (q : Bor Conditions). q.now) c.in-Some.told.walked.items in
    reads_made g.D.Disk.history (IsAsked home)
    (λ now of (o : Option Told). IfSome o (λ t. AreIdsOf home.number (but_not p (map (λ (q : Bor Conditions). q.now) t.walked.items)) t.ids now of))
    (λ now of (o : Option (Vec (Vec ℕ Global) Global)). IfSome o (λ ids. AreIdsOf home.number p (texts_of ids.items) now of)) c.args.file.now
    c.told_in.new.file c.in_ok-told.field-0 (Some c.into_texts.result) c.in_ok-told.ensures
    (λ now of asked told. subst (λ (ts : List (List ℕ)). AreIdsOf home.number p ts now of) (sym c.into_texts.ensures)
    (all_are_told home.number p ws c.in-Some.told.ids now of
    (ap (map (λ (q : Bor Conditions). q.now)) (none_there c.in-Some.told.walked (sym c.if-is_empty.ensures)))
    (subst (λ (o : Option Told). IfSome o (λ t. AreIdsOf home.number (but_not p (map (λ (q : Bor Conditions). q.now) t.walked.items)) t.ids now of))
    c.in-Some.is told)))
