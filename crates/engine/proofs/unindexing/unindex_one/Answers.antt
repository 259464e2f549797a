use Rattle.std.proofs.lemmas.Result.{err_from_is_err_and}
use Rattle.engine.proofs.UnindexingLemmas.{unkeyed_memory}
use Rattle.engine.proofs.unindexing.unindex_one.Goals as goal

pub returns-in_err-id-clause-refuses : goal.returns-in_err-id-clause-refuses
returns-in_err-id-clause-refuses c =
    let p = err_from_is_err_and c.from_residual.result c.from_residual.ensures.1 in
    rw (p.1, p.2) (λ has. c.in_err-id.ensures.stored has.storable)

pub returns-in_err-keys-clause-refuses : goal.returns-in_err-keys-clause-refuses
returns-in_err-keys-clause-refuses c =
    let p = err_from_is_err_and c.from_residual-in_err-keys.result c.from_residual-in_err-keys.ensures.1 in
    rw (p.1, p.2) (λ has. unkeyed_memory c.args.index.now c.args.document.now c.in_err-keys.field-0.0 has c.in_err-keys.ensures.gives)
