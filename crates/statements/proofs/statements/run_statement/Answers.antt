use Rattle.std.proofs.Common.{◌≡◌, true, false, sym, ap, subst, ◌∙◌, Result}
use Rattle.std.specs.Prelude.{not, ◌&&◌}
use Rattle.std.proofs.lemmas.Result.{err_from_is_err_and}
use Rattle.outcome.specs.Outcome.{Gives}
use Rattle.path.specs.declared.refusal.Refusal.{Refusal}
use Rattle.path.specs.declared.refusal.Refusal.TheVariants as refusals
use Rattle.command_model.specs.Update.{UpdateStatement}
use Rattle.database_model.specs.Merging.{Listed}
use Rattle.statements.specs.Updating.{listed_of}
use Rattle.statements.proofs.UpdatingLoop.{done, found_wrote, makes, none_wrote, refused_statement, upsert_wrote}
use Rattle.statements.proofs.statements.run_statement.Goals as goal

pub upsert-requires-clause-within : goal.upsert-requires-clause-within
upsert-requires-clause-within c = c.in_ok-found.ensures.extends.within

pub returns-in_err-found-clause-gives : goal.returns-in_err-found-clause-gives
returns-in_err-found-clause-gives c =
    let p = err_from_is_err_and c.from_residual.result c.from_residual.ensures.1 in
    rw (p.1, p.2)
    (refused_statement c.args.index c.args.statement.now c.args.run.now c.update_matching.new.run c.in_err-found.field-0.0 c.in_err-found.ensures.planned)

pub returns-then-found-clause-gives : goal.returns-then-found-clause-gives
returns-then-found-clause-gives c =
    let s = c.args.statement.now in
    done c.args.index s c.args.run.now c.update_matching.new.run c.in_ok-found.found c.in_ok-found.ensures (ap (λ b. not b && s.upsert) c.if-found.true)

pub returns-then-statement-clause-gives : goal.returns-then-statement-clause-gives
returns-then-statement-clause-gives c =
    let s = c.args.statement.now in
    let asked : s.upsert ≡ true = ap (λ (x : UpdateStatement). x.upsert) (sym c.statement.view_is) ∙ c.if-statement.true in
    let e = makes c.args.index s c.args.run.now c.update_matching.new.run c.in_ok-found.found c.in_ok-found.ensures
    ((λ i. not (c.if-found.false i) && asked i)) c.if-found.false in
    subst (λ (planned : Result Listed Refusal). Gives refusals.OutOfMemory (λ u. listed_of c.upsert.new.run) c.upsert.result planned)
    (sym e) c.upsert.ensures.gives

pub returns-in_err-found-clause-wrote : goal.returns-in_err-found-clause-wrote
returns-in_err-found-clause-wrote c =
    let p = err_from_is_err_and c.from_residual.result c.from_residual.ensures.1 in
    rw (p.1, p.2) c.in_err-found.ensures.writes

pub returns-then-found-clause-wrote : goal.returns-then-found-clause-wrote
returns-then-found-clause-wrote c =
    found_wrote c.args.index c.args.statement.now c.args.run.now c.update_matching.new.run c.in_ok-found.found c.in_ok-found.ensures c.if-found.true

pub returns-then-statement-clause-wrote : goal.returns-then-statement-clause-wrote
returns-then-statement-clause-wrote c =
    let s = c.args.statement.now in
    let asked : s.upsert ≡ true = ap (λ (x : UpdateStatement). x.upsert) (sym c.statement.view_is) ∙ c.if-statement.true in
    upsert_wrote c.args.index s c.args.run.now c.update_matching.new.run c.in_ok-found.found c.in_ok-found.ensures c.if-found.false asked c.upsert.result
    c.upsert.new.run c.upsert.ensures.wrote

pub returns-clause-wrote : goal.returns-clause-wrote
returns-clause-wrote c =
    let s = c.args.statement.now in
    let asked : s.upsert ≡ false = ap (λ (x : UpdateStatement). x.upsert) (sym c.statement.view_is) ∙ c.if-statement.false in
    none_wrote c.args.index s c.args.run.now c.update_matching.new.run c.in_ok-found.found c.in_ok-found.ensures c.if-found.false asked

pub returns-clause-gives : goal.returns-clause-gives
returns-clause-gives c =
    let s = c.args.statement.now in
    let asked : s.upsert ≡ false = ap (λ (x : UpdateStatement). x.upsert) (sym c.statement.view_is) ∙ c.if-statement.false in
    done c.args.index s c.args.run.now c.update_matching.new.run c.in_ok-found.found c.in_ok-found.ensures ((λ i. not (c.if-found.false i) && asked i))
