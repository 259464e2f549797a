use Rattle.std.proofs.Common.{List, ap, ◌∙◌, arith}
use Rattle.std.proofs.lemmas.Result.{err_from_is_err_and}
use Rattle.collections.specs.declared.lookups.Name.{Name}
use Rattle.engine.specs.Numbering.{numbered}
use Rattle.database_model.specs.World.{unused}
use Rattle.engine.proofs.NumberingLemmas.{number_found, number_many, number_unread, number_without_memory}
use Rattle.engine.proofs.engine.Engine.new_number.Goals as goal

pub returns-in_err-names-clause-tries : goal.returns-in_err-names-clause-tries
returns-in_err-names-clause-tries g c =
    let p = err_from_is_err_and c.from_residual.result c.from_residual.ensures.1 in
    rw (p.1, p.2) (number_unread g.D.Disk.history c.args.self.now c.names.new.self c.requires.sound c.in_err-names.field-0.0 c.in_err-names.ensures)

pub returns-then-len-ge-MOST_COLLECTIONS-clause-tries : goal.returns-then-len-ge-MOST_COLLECTIONS-clause-tries
returns-then-len-ge-MOST_COLLECTIONS-clause-tries g c =
    number_many g.D.Disk.history c.args.self.now c.names.new.self c.requires.sound c.in_ok-names.names c.in_ok-names.ensures (omega arith)

pub returns-in_err-least_unused-clause-tries : goal.returns-in_err-least_unused-clause-tries
returns-in_err-least_unused-clause-tries g c =
    let p = err_from_is_err_and c.from_residual-in_err-least_unused.result c.from_residual-in_err-least_unused.ensures.1 in
    rw (p.1, p.2) (number_without_memory g.D.Disk.history c.args.self.now c.names.new.self c.requires.sound c.in_ok-names.names c.in_ok-names.ensures)

pub returns-clause-tries : goal.returns-clause-tries
returns-clause-tries g c =
    number_found g.D.Disk.history c.args.self.now c.names.new.self c.requires.sound c.in_ok-names.names c.in_ok-names.ensures c.in_ok-least_unused.field-0
    (omega arith)
    (c.in_ok-least_unused.ensures.number ∙ ap (λ (ns : List Name). unused (numbered ns)) c.deref.ensures.value)
