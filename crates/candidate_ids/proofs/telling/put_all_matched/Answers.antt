use Rattle.std.proofs.Common.{◌≡◌, ◌+◌, ◌<◌, true, false, List, [], ◌∷◌, ◌++◌, Bool, Option, Ok, Err, drop, length, map, sym, ap, subst, ◌∙◌, arith}
use Rattle.std.proofs.lemmas.List.{drop_all, map-append}
use Rattle.std.proofs.lemmas.Result.{err_from_is_err_and}
use Rattle.std.specs.Borrow.{Bor}
use Rattle.std.specs.Prelude.{IfSome, get_or}
use Rattle.filter.specs.Condition.{Conditions}
use Rattle.index.specs.View.{texts_of}
use Rattle.path.proofs.NameLemmas.{drop_step}
use Rattle.asked_documents.specs.Asking.{IsAsked}
use Rattle.asked_documents.specs.ById.{TellOf, but_not, one_matches}
use Rattle.candidate_ids.proofs.TellingLemmas.{AreToldBut, IsNextOf, begins_but, ends_but, not_some, one_read, texts_appended}
use Rattle.asked_documents.proofs.ReadingLemmas.{reads_made, reads_memory, reads_none, reads_refused}
use Rattle.candidate_ids.proofs.telling.put_all_matched.Goals as goal

pub filters-init : goal.filters-init
filters-init g c =
    let filters = g.S.DocumentPredicate.filters c.args.which.now in
    let ws : List Conditions = map (λ (q : Bor Conditions). q.now) c.args.walked.now.items in
    let before = texts_of c.args.ids.now.items in
    reads_none g.D.Disk.history (IsAsked c.args.home.now) (λ now of (_ : Unit {0}). AreToldBut of filters before (filters ++ ws) before) c.args.file.now tt
    (sym c.if-is_stopped.ensures) (λ now state of asked. begins_but of filters before ws)

pub returns-in_default : goal.returns-in_default
returns-in_default g c =
    let filters = g.S.DocumentPredicate.filters c.args.which.now in
    let ws : List Conditions = map (λ (q : Bor Conditions). q.now) c.filters.walked.items in
    let before = texts_of c.args.ids.now.items in
    let mid = texts_of c.filters.ids.items in
    reads_made g.D.Disk.history (IsAsked c.args.home.now) (λ now of (_ : Unit {0}). AreToldBut of filters before (drop c.filters.at filters ++ ws) mid)
    (λ now of (told : Bool). told ≡ true → TellOf of (but_not (one_matches filters) ws) before mid) c.args.file.now c.filters.file tt false
    c.filters.invariant (λ now of asked so e. absurd cc)

pub returns-in_err-found : goal.returns-in_err-found
returns-in_err-found g c =
    let home = c.args.home.now in
    let filters = g.S.DocumentPredicate.filters c.args.which.now in
    let i = c.filters.at in
    let f : Conditions = c.in-Some.filter.now in
    let rest = drop (i + 1) filters in
    let ws : List Conditions = map (λ (q : Bor Conditions). q.now) c.filters.walked.items in
    let before = texts_of c.args.ids.now.items in
    let mid = texts_of c.filters.ids.items in
    let is : f ≡ get_or filters i f =
    subst (λ (o : Option (Bor Conditions)). IfSome o (λ (q : Bor Conditions). q.now ≡ get_or filters i q.now)) c.in-Some.is c.filter_at.ensures in
    let within : i < length filters = omega (arith, c.filters-test.true, c.filter_count-at-end.ensures) in
    let e = err_from_is_err_and c.from_residual.result c.from_residual.ensures.1 in
    rw (e.1, e.2)
    (reads_refused g.D.Disk.history (IsAsked home) (λ now of found. IsNextOf of filters ws f rest before mid found) _ c.args.file.now
    c.ids_matched.new.file c.in_err-found.field-0.0
    (one_read g.D.Disk.history home filters ws (drop i filters) f rest before mid c.args.file.now c.filters.file c.ids_matched.new.file
    (Err c.in_err-found.field-0.0) (drop_step filters i f within is) c.filters.invariant c.in_err-found.ensures))

pub returns-in_err-push : goal.returns-in_err-push
returns-in_err-push g c =
    let home = c.args.home.now in
    let filters = g.S.DocumentPredicate.filters c.args.which.now in
    let i = c.filters.at in
    let f : Conditions = c.in-Some.filter.now in
    let rest = drop (i + 1) filters in
    let ws : List Conditions = map (λ (q : Bor Conditions). q.now) c.filters.walked.items in
    let before = texts_of c.args.ids.now.items in
    let mid = texts_of c.filters.ids.items in
    let is : f ≡ get_or filters i f =
    subst (λ (o : Option (Bor Conditions)). IfSome o (λ (q : Bor Conditions). q.now ≡ get_or filters i q.now)) c.in-Some.is c.filter_at.ensures in
    let within : i < length filters = omega (arith, c.filters-test.true, c.filter_count-at-end.ensures) in
    let e = err_from_is_err_and c.from_residual-in_err-push.result c.from_residual-in_err-push.ensures.1 in
    rw e.1
    (reads_memory g.D.Disk.history (IsAsked home) (λ now of found. IsNextOf of filters ws f rest before mid found) _ (Ok c.in_ok-found.field-0)
    c.args.file.now c.ids_matched.new.file e.0 e.2
    (one_read g.D.Disk.history home filters ws (drop i filters) f rest before mid c.args.file.now c.filters.file c.ids_matched.new.file
    (Ok c.in_ok-found.field-0) (drop_step filters i f within is) c.filters.invariant c.in_ok-found.ensures))

pub filters-preserved-in_default-2 : goal.filters-preserved-in_default-2
filters-preserved-in_default-2 g c =
    let home = c.args.home.now in
    let filters = g.S.DocumentPredicate.filters c.args.which.now in
    let i = c.filters.at in
    let f : Conditions = c.in-Some.filter.now in
    let rest = drop (i + 1) filters in
    let ws : List Conditions = map (λ (q : Bor Conditions). q.now) c.filters.walked.items in
    let before = texts_of c.args.ids.now.items in
    let mid = texts_of c.filters.ids.items in
    let is : f ≡ get_or filters i f =
    subst (λ (o : Option (Bor Conditions)). IfSome o (λ (q : Bor Conditions). q.now ≡ get_or filters i q.now)) c.in-Some.is c.filter_at.ensures in
    let within : i < length filters = omega (arith, c.filters-test.true, c.filter_count-at-end.ensures) in
    let walked : List Conditions = map (λ (q : Bor Conditions). q.now) c.push.new.self.items in
    let one : List (Bor Conditions) = c.in-Some.filter ∷ [] in
    let made : walked ≡ ws ++ f ∷ [] =
    ap (map (λ (q : Bor Conditions). q.now)) {y = c.filters.walked.items ++ one} c.in_ok-push.ensures.items
    ∙ map-append (λ (q : Bor Conditions). q.now) c.filters.walked.items one in
    reads_made g.D.Disk.history (IsAsked home) (λ now of found. IsNextOf of filters ws f rest before mid found)
    (λ now of (_ : Unit {0}). AreToldBut of filters before (rest ++ walked) mid) c.args.file.now c.ids_matched.new.file c.in_ok-found.field-0 tt
    (one_read g.D.Disk.history home filters ws (drop i filters) f rest before mid c.args.file.now c.filters.file c.ids_matched.new.file
    (Ok c.in_ok-found.field-0) (drop_step filters i f within is) c.filters.invariant c.in_ok-found.ensures)
    (λ now of asked so. subst (λ (xs : List Conditions). AreToldBut of filters before (rest ++ xs) mid) (sym made)
    (subst (IsNextOf of filters ws f rest before mid) (not_some c.in_ok-found.field-0 c.in_default-2.not-Some) so))

pub returns-in_err-append : goal.returns-in_err-append
returns-in_err-append g c =
    let home = c.args.home.now in
    let filters = g.S.DocumentPredicate.filters c.args.which.now in
    let i = c.filters.at in
    let f : Conditions = c.in-Some.filter.now in
    let rest = drop (i + 1) filters in
    let ws : List Conditions = map (λ (q : Bor Conditions). q.now) c.filters.walked.items in
    let before = texts_of c.args.ids.now.items in
    let mid = texts_of c.filters.ids.items in
    let is : f ≡ get_or filters i f =
    subst (λ (o : Option (Bor Conditions)). IfSome o (λ (q : Bor Conditions). q.now ≡ get_or filters i q.now)) c.in-Some.is c.filter_at.ensures in
    let within : i < length filters = omega (arith, c.filters-test.true, c.filter_count-at-end.ensures) in
    let e = err_from_is_err_and c.from_residual-in_err-append.result c.from_residual-in_err-append.ensures.1 in
    rw e.1
    (reads_memory g.D.Disk.history (IsAsked home) (λ now of found. IsNextOf of filters ws f rest before mid found) _ (Ok c.in_ok-found.field-0)
    c.args.file.now c.ids_matched.new.file e.0 e.2
    (one_read g.D.Disk.history home filters ws (drop i filters) f rest before mid c.args.file.now c.filters.file c.ids_matched.new.file
    (Ok c.in_ok-found.field-0) (drop_step filters i f within is) c.filters.invariant c.in_ok-found.ensures))

pub filters-preserved : goal.filters-preserved
filters-preserved g c =
    let home = c.args.home.now in
    let filters = g.S.DocumentPredicate.filters c.args.which.now in
    let i = c.filters.at in
    let f : Conditions = c.in-Some.filter.now in
    let rest = drop (i + 1) filters in
    let ws : List Conditions = map (λ (q : Bor Conditions). q.now) c.filters.walked.items in
    let before = texts_of c.args.ids.now.items in
    let mid = texts_of c.filters.ids.items in
    let is : f ≡ get_or filters i f =
    subst (λ (o : Option (Bor Conditions)). IfSome o (λ (q : Bor Conditions). q.now ≡ get_or filters i q.now)) c.in-Some.is c.filter_at.ensures in
    let within : i < length filters = omega (arith, c.filters-test.true, c.filter_count-at-end.ensures) in
    let after = texts_of c.append.new.self.items in
    reads_made g.D.Disk.history (IsAsked home) (λ now of found. IsNextOf of filters ws f rest before mid found)
    (λ now of (_ : Unit {0}). AreToldBut of filters before (rest ++ ws) after) c.args.file.now c.ids_matched.new.file c.in_ok-found.field-0 tt
    (one_read g.D.Disk.history home filters ws (drop i filters) f rest before mid c.args.file.now c.filters.file c.ids_matched.new.file
    (Ok c.in_ok-found.field-0) (drop_step filters i f within is) c.filters.invariant c.in_ok-found.ensures)
    (λ now of asked so. subst (AreToldBut of filters before (rest ++ ws))
    (sym (ap texts_of {y = c.filters.ids.items ++ c.in-Some-2.found.items} c.in_ok-append.ensures.items
    ∙ texts_appended c.filters.ids.items c.in-Some-2.found.items))
    (subst (IsNextOf of filters ws f rest before mid) c.in-Some-2.is so))

pub returns : goal.returns
returns g c =
    let filters = g.S.DocumentPredicate.filters c.args.which.now in
    let ws : List Conditions = map (λ (q : Bor Conditions). q.now) c.filters.walked.items in
    let before = texts_of c.args.ids.now.items in
    let after = texts_of c.filters.ids.items in
    reads_made g.D.Disk.history (IsAsked c.args.home.now) (λ now of (_ : Unit {0}). AreToldBut of filters before (drop c.filters.at filters ++ ws) after)
    (λ now of (told : Bool). told ≡ true → TellOf of (but_not (one_matches filters) ws) before after) c.args.file.now c.filters.file tt true
    c.filters.invariant
    (λ now of asked so e. ends_but of filters before ws after
    (subst (λ (fs : List Conditions). AreToldBut of filters before (fs ++ ws) after)
    (drop_all c.filters.at filters (omega (arith, c.filters-test.false, c.filter_count-at-end.ensures))) so))
