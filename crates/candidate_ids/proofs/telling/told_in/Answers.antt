use Rattle.std.proofs.Common.{◌≡◌, true, ℕ, Bool, List, Option, Some, Vec, Global, map, sym, subst}
use Rattle.std.specs.Borrow.{Bor}
use Rattle.std.specs.List.{AllByRecursion}
use Rattle.std.specs.Prelude.{IfSome}
use Rattle.filter.specs.Condition.{Conditions}
use Rattle.index.specs.View.{texts_of}
use Rattle.asked_documents.specs.Asking.{IsAsked}
use Rattle.asked_documents.specs.ById.{AreIdsOf, IsIdText, TellOf, but_not, one_matches}
use Rattle.candidate_ids.specs.declared.telling.Told.{Told}
use Rattle.candidate_ids.proofs.TellingLemmas.{both_tell}
use Rattle.candidate_ids.proofs.IdTextLemmas.{ids_told}
use Rattle.asked_documents.proofs.ReadingLemmas.{reads_told}
use Rattle.candidate_ids.proofs.telling.told_in.Goals as goal

pub returns : goal.returns
returns g c =
    let home = c.args.home.now in
    let p = g.S.DocumentPredicate.selects c.args.which.now in
    let filters = g.S.DocumentPredicate.filters c.args.which.now in
    let ws : List Conditions = map (λ (q : Bor Conditions). q.now) c.put_all_matched.new.walked.items in
    let own = texts_of c.put_ids.new.ids.items in
    let all = texts_of c.put_all_matched.new.ids.items in
    let told : Told = record { ids = c.of.result; walked = c.put_all_matched.new.walked } in
    let none = subst (λ (vs : List (Vec ℕ Global)). AllByRecursion IsIdText (texts_of vs)) (sym c.new-ids.ensures.items) tt in
    reads_told g.D.Disk.history (IsAsked home) (λ now of (told : Bool). told ≡ true → TellOf of (but_not (one_matches filters) ws) own all)
    (λ now of (o : Option Told). IfSome o (λ t. AreIdsOf home.number (but_not p (map (λ (q : Bor Conditions). q.now) t.walked.items)) t.ids now of))
    c.args.file.now c.put_all_matched.new.file c.in_ok-put_all_matched.field-0 (Some told) (sym c.if-is_stopped.ensures) c.in_ok-put_all_matched.ensures
    (λ now state of asked so.
    let tells = so c.if-not-branch-2.false in
    ids_told home (but_not p ws) all c.of.result now of (tells.put.texts (c.in_ok-put_ids.ensures.put.texts none))
    (both_tell of p filters ws own all (c.in_ok-put_ids.ensures.tells c.if-not-branch.false) tells) c.of.ensures state asked)
