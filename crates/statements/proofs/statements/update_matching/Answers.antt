use Rattle.std.proofs.Common.{◌≡◌, ◌<◌, ◌≤◌, true, false, length, sym, ap, subst, ◌∙◌, arith}
use Rattle.std.proofs.lemmas.List.{get_or_default}
use Rattle.std.proofs.lemmas.Result.{err_from_is_err_and}
use Rattle.bson.specs.Tree.{no_pairs}
use Rattle.filter.specs.Matches.{matches}
use Rattle.command_model.specs.Update.{UpdateStatement, IsRead}
use Rattle.outcome.specs.Outcome.{Fails}
use Rattle.path.specs.declared.refusal.Refusal.TheVariants as refusals
use Rattle.update_model.specs.Applying.{apply}
use Rattle.statements.specs.Updating.{document_at, ChangesAt}
use Rattle.statements.proofs.UpdatingLoop.{begins, goes_by, refused_one, goes_on, only_first, looked_at_all}
use Rattle.statements.proofs.statements.update_matching.Goals as goal
use Rattle.statements.proofs.statements.update_matching.Goals.{then-matches+in_ok-change_at+else-not-statement, else-matches}

pub places-init : goal.places-init
places-init c = begins c.args.statement.now c.args.run.now c.requires.within

pub index-requires : goal.index-requires
index-requires c = omega (arith, c.places-test.true, c.places.invariant.count, c.len-count.ensures, c.args.run.now.documents.ok.0, c.places.run.documents.ok.0)

pub change_at-requires-clause-there : goal.change_at-requires-clause-there
change_at-requires-clause-there c = omega (arith, c.places-test.true, c.places.invariant.count, c.len-count.ensures, c.args.run.now.documents.ok.0)

pub change_at-requires-clause-within : goal.change_at-requires-clause-within
change_at-requires-clause-within c = c.places.invariant.extends.within

pub change_at-requires-clause-read : goal.change_at-requires-clause-read
change_at-requires-clause-read c = subst (λ (s : UpdateStatement). IsRead s.change) (sym c.statement.view_is) c.requires.read

pub returns-in_err-change_at : goal.returns-in_err-change_at
returns-in_err-change_at c =
    let p = err_from_is_err_and c.from_residual.result c.from_residual.ensures.1 in
    let now = c.places.run in
    let d = document_at c.places.place now in
    let below : c.places.place < length now.documents.items =
    omega (arith, c.places-test.true, c.places.invariant.count, c.len-count.ensures, c.args.run.now.documents.ok.0) in
    let here : c.document.result.now ≡ d =
    c.document.ensures ∙ c.index.ensures ∙ get_or_default now.documents.items c.places.place c.index.result.now no_pairs below in
    let match : matches c.args.statement.now.filter d ≡ true =
    (λ i. matches (sym c.statement.view_is i).filter (sym here i)) ∙ sym c.matches.ensures ∙ c.if-matches.true in
    let no = subst
    (λ (s : UpdateStatement). Fails refusals.OutOfMemory c.in_err-change_at.field-0.0 (apply s.change 65535 d)) c.statement.view_is
    c.in_err-change_at.ensures.refused in
    rw (p.1, p.2)
    (refused_one c.args.statement.now c.args.run.now now c.places.found c.places.place c.places.invariant below c.in_err-change_at.field-0.0
    c.change_at.new.run match no c.in_err-change_at.ensures.same)

pub returns-then-not-statement : goal.returns-then-not-statement
returns-then-not-statement c =
    let now = c.places.run in
    let d = document_at c.places.place now in
    let below : c.places.place < length now.documents.items =
    omega (arith, c.places-test.true, c.places.invariant.count, c.len-count.ensures, c.args.run.now.documents.ok.0) in
    let here : c.document.result.now ≡ d =
    c.document.ensures ∙ c.index.ensures ∙ get_or_default now.documents.items c.places.place c.index.result.now no_pairs below in
    let match : matches c.args.statement.now.filter d ≡ true =
    (λ i. matches (sym c.statement.view_is i).filter (sym here i)) ∙ sym c.matches.ensures ∙ c.if-matches.true in
    let up = subst (λ (s : UpdateStatement). ChangesAt s.change c.places.place now c.change_at.new.run) c.statement.view_is c.in_ok-change_at.ensures.changes in
    let single : c.args.statement.now.multi ≡ false = ap (λ (s : UpdateStatement). s.multi) (sym c.statement.view_is) ∙ c.if-not-statement.true in
    only_first c.args.statement.now c.args.run.now now c.places.found c.places.place c.places.invariant below c.change_at.new.run match up single

pub places-preserved : goal.places-preserved
places-preserved c =
    let now = c.places.run in
    let d = document_at c.places.place now in
    let below : c.places.place < length now.documents.items =
    omega (arith, c.places-test.true, c.places.invariant.count, c.len-count.ensures, c.args.run.now.documents.ok.0) in
    let here : c.document.result.now ≡ d =
    c.document.ensures ∙ c.index.ensures ∙ get_or_default now.documents.items c.places.place c.index.result.now no_pairs below in
    let asked : matches c.args.statement.now.filter d ≡ c.matches.result =
    (λ i. matches (sym c.statement.view_is i).filter (sym here i)) ∙ sym c.matches.ensures in
    elim c.if-matches.branch [
      | then-matches+in_ok-change_at+else-not-statement w ↦
          let up = subst
          (λ (s : UpdateStatement). ChangesAt s.change c.places.place now w.change_at.new.run) c.statement.view_is w.in_ok-change_at.ensures.changes in
          let multi : c.args.statement.now.multi ≡ true = ap (λ (s : UpdateStatement). s.multi) (sym c.statement.view_is) ∙ w.if-not-statement.false in
          rw (w.run-is, w.found-is)
          (goes_on c.args.statement.now c.args.run.now now c.places.found c.places.place c.places.invariant below w.change_at.new.run
          (asked ∙ w.if-matches.true) up multi)
      | else-matches w ↦
          rw (w.run-is, w.found-is)
          (goes_by c.args.statement.now c.args.run.now now c.places.found c.places.place c.places.invariant below (asked ∙ w.if-matches.false))
    ]

pub returns : goal.returns
returns c =
    let whole : length c.places.run.documents.items ≤ c.places.place =
    omega (arith, c.places-test.false, c.places.invariant.count, c.len-count.ensures, c.args.run.now.documents.ok.0) in
    looked_at_all c.args.statement.now c.args.run.now c.places.run c.places.found c.places.place c.places.invariant whole
