use Rattle.std.proofs.Common.{refl}
use Rattle.std.proofs.lemmas.Result.{err_from_is_err_and}
use Rattle.statements.proofs.UpsertLemmas.{upsert_done, upsert_refused, upsert_stopped, upsert_wrote}
use Rattle.statements.proofs.statements.upsert.Goals as goal

pub returns-in_err-insert-clause-gives : goal.returns-in_err-insert-clause-gives
returns-in_err-insert-clause-gives c =
    let p = err_from_is_err_and c.from_residual-in_err-insert.result c.from_residual-in_err-insert.ensures.1 in
    rw (p.1, p.2)
    (upsert_refused c.args.index c.args.statement.now c.in_ok-document.document c.args.run.now c.in_ok-document.ensures.gives c.in_err-insert.field-0.0
    c.in_err-insert.ensures.placed)

pub returns-clause-gives : goal.returns-clause-gives
returns-clause-gives c =
    let mid = c.insert.new.run in
    let new = record mid { tally = record mid.tally { matched = c.counted-run.result; upserted = c.add.new.array } } in
    upsert_done c.args.index c.args.statement.now c.in_ok-document.document c.args.run.now c.in_ok-document.ensures.gives mid new c.in_ok-insert.ensures refl
    c.in_ok-entry.entry c.in_ok-entry.ensures.entry c.in_ok-add.ensures c.counted-run.ensures refl

pub returns-in_err-insert-clause-wrote : goal.returns-in_err-insert-clause-wrote
returns-in_err-insert-clause-wrote c =
    let p = err_from_is_err_and c.from_residual-in_err-insert.result c.from_residual-in_err-insert.ensures.1 in
    rw (p.1, p.2)
    (upsert_stopped c.args.index c.args.statement.now c.in_ok-document.document c.args.run.now c.in_ok-document.ensures.gives c.in_err-insert.field-0.0
    c.insert.new.run
    c.in_ok-document.ensures.stored c.in_ok-document.ensures.readable c.in_err-insert.ensures)

pub returns-clause-wrote : goal.returns-clause-wrote
returns-clause-wrote c =
    let mid = c.insert.new.run in
    let new = record mid { tally = record mid.tally { matched = c.counted-run.result; upserted = c.add.new.array } } in
    upsert_wrote c.args.index c.args.statement.now c.in_ok-document.document c.args.run.now c.in_ok-document.ensures.gives mid new c.in_ok-insert.ensures refl
    c.in_ok-entry.entry c.in_ok-entry.ensures.entry c.in_ok-add.ensures c.in_ok-document.ensures.stored c.in_ok-document.ensures.readable refl refl
