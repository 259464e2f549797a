use Rattle.std.proofs.Common.{◌≡◌, Err, refl, sym, subst}
use Rattle.path.specs.declared.refusal.Refusal.{Refusal}
use Rattle.database_model.specs.Merging.{not_listed}
use Rattle.statements.specs.Updating.{IsRan, listed_of}
use Rattle.statements.specs.declared.statements.Run.{Run}
use Rattle.statements.proofs.StatementLoop.{ran_to_end, ran_to_refusal}
use Rattle.statements.proofs.statements.run_on.Goals as goal

pub returns-in-Ok : goal.returns-in-Ok
returns-in-Ok c =
    let ds = c.args.documents.items in
    let start : Run = record {
      documents = c.args.documents;
      writes = c.new.result;
      keeps_old = c.args.keeps_old;
      tally = record { matched = 0; modified = 0; upserted = c.new-2.result };
    } in
    let begun : listed_of start ≡ not_listed ds = λ i. record { documents = ds; matched = 0; modified = 0; upserted = c.new-2.ensures i } in
    ran_to_end start c.run_statements-result.new.run ds refl c.new.ensures.items c.args.statements.now c.args.keeps_old refl begun c.in-Ok.ensures.gives
    c.in-Ok.ensures.wrote

pub returns-in_ok-refusal-in-Err : goal.returns-in_ok-refusal-in-Err
returns-in_ok-refusal-in-Err c =
    let ds = c.args.documents.items in
    let new = c.run_statements-result.new.run in
    let start : Run = record {
      documents = c.args.documents;
      writes = c.new.result;
      keeps_old = c.args.keeps_old;
      tally = record { matched = 0; modified = 0; upserted = c.new-2.result };
    } in
    let begun : listed_of start ≡ not_listed ds = λ i. record { documents = ds; matched = 0; modified = 0; upserted = c.new-2.ensures i } in
    let planned = c.in_ok-refusal-in-Err.ensures in
    subst (λ (e : Refusal). IsRan c.args.keeps_old c.args.statements.now ds (record { writes = new.writes; end = Err e })) (sym planned.0)
    (ran_to_refusal start new ds refl c.new.ensures.items c.args.statements.now c.args.keeps_old refl begun c.in-Err.refusal planned.1 c.in-Err.ensures.gives
    c.in-Err.ensures.wrote)
