use Rattle.std.proofs.Common.{◌≡◌, ℕ, List, Vec, Global, map, take, ap, sym, subst, ◌∙◌}
use Rattle.std.specs.Borrow.{Bor}
use Rattle.std.specs.Prelude.{◌&&◌}
use Rattle.std.specs.List.{filter}
use Rattle.bson.specs.Tree.{Pairs}
use Rattle.filter.specs.Condition.{Conditions}
use Rattle.entry_model.specs.State.{Collection}
use Rattle.index.specs.View.{texts_of}
use Rattle.asked_documents.specs.Asking.{IsAsked}
use Rattle.asked_documents.specs.ById.{AreIdsOf}
use Rattle.queries.specs.PartlyTold.{IsToldOf}
use Rattle.queries.proofs.PartlyToldLemmas.{is_beside, same_beside}
use Rattle.candidate_ids.proofs.TellingLemmas.{all_are_told}
use Rattle.asked_documents.proofs.AskingLemmas.{none_there}
use Rattle.asked_documents.proofs.ReadingLemmas.{reads_within}
use Rattle.queries.proofs.looking_up.selected_as_told.Goals as goal

pub returns-then-is_empty-clause-reads : goal.returns-then-is_empty-clause-reads
returns-then-is_empty-clause-reads g c =
    let home = c.args.home.now in
    let p = g.S.DocumentPredicate.selects c.args.which.now in
    let told = c.args.told.now in
    let ws : List Conditions = map (λ (q : Bor Conditions). q.now) told.walked.items in
    let right : List Collection → Collection → Vec Pairs Global → Type 0 = λ now of found. found.items ≡ take c.args.most (filter p of.documents) in
    reads_within g.D.Disk.history (IsToldOf home p told) (AreIdsOf home.number p (texts_of c.texts.result.now)) right right
    c.args.file.now c.selected_by_ids.new.file c.selected_by_ids.result c.selected_by_ids.ensures.reads
    (λ now of is. subst (λ (ts : List (List ℕ)). AreIdsOf home.number p ts now of) (sym c.texts.ensures)
    (all_are_told home.number p ws told.ids now of
    (ap (map (λ (q : Bor Conditions). q.now)) (none_there told.walked (sym c.if-is_empty.ensures))) is.ids))
    (λ now of found is made. made)

pub returns-then-is_empty-2-clause-reads : goal.returns-then-is_empty-2-clause-reads
returns-then-is_empty-2-clause-reads g c =
    let home = c.args.home.now in
    let p = g.S.DocumentPredicate.selects c.args.which.now in
    let right : List Collection → Collection → Vec Pairs Global → Type 0 = λ now of found. found.items ≡ take c.args.most (filter p of.documents) in
    reads_within g.D.Disk.history (IsToldOf home p c.args.told.now) (IsAsked home) right right c.args.file.now c.scanned.new.file c.scanned.result
    c.scanned.ensures.reads (λ now of is. is.asked) (λ now of found is made. made)

pub returns-clause-reads : goal.returns-clause-reads
returns-clause-reads g c =
    let home = c.args.home.now in
    let p = g.S.DocumentPredicate.selects c.args.which.now in
    let told = c.args.told.now in
    let ws : List Conditions = map (λ (q : Bor Conditions). q.now) told.walked.items in
    let walk : List Conditions = map (λ (q : Bor Conditions). q.now) c.deref.result.now in
    let same : walk ≡ ws = ap (map (λ (q : Bor Conditions). q.now)) c.deref.ensures.value in
    reads_within g.D.Disk.history (IsToldOf home p told) (IsAsked home)
    (λ now of (found : Vec Pairs Global). found.items ≡ take c.args.most (filter (λ d. is_beside walk told.ids d && p d) of.documents))
    (λ now of (found : Vec Pairs Global). found.items ≡ take c.args.most (filter p of.documents)) c.args.file.now c.scanned-2.new.file c.scanned-2.result
    c.scanned-2.ensures.reads (λ now of is. is.asked)
    (λ now of found is made. made
    ∙ ap (λ (xs : List Conditions). take c.args.most (filter (λ d. is_beside xs told.ids d && p d) of.documents)) same
    ∙ ap (take c.args.most) (same_beside home.number p ws told.ids now of is.ids))
