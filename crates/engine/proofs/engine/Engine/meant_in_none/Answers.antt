use Rattle.std.proofs.Common.{true, false, sym, ◌∙◌, refl}
use Rattle.std.proofs.lemmas.Result.{err_from_is_err_and}
use Rattle.engine.specs.declared.updates.Candidates.{Candidates}
use Rattle.engine.proofs.MeantLemmas.{new_meant, none_meant, none_numbered}
use Rattle.engine.proofs.engine.Engine.meant_in_none.Goals as goal

pub returns-then-not-makes_any-clause-tries : goal.returns-then-not-makes_any-clause-tries
returns-then-not-makes_any-clause-tries g c =
    let m : Candidates = record { number = 0; is_new = false; documents = c.new.result } in
    none_meant g.D.Disk.history c.args.statements.now c.args.self.now c.args.self.now m c.requires.sound c.new.ensures.items refl
    (sym c.makes_any.ensures ∙ c.if-not-makes_any.true)

pub returns-in_err-number-clause-tries : goal.returns-in_err-number-clause-tries
returns-in_err-number-clause-tries g c =
    let p = err_from_is_err_and c.from_residual.result c.from_residual.ensures.1 in
    rw (p.1, p.2)
    (none_numbered g.D.Disk.history c.args.statements.now c.args.self.now c.new_number.new.self c.in_err-number.field-0.0 c.in_err-number.ensures.tries
    (sym c.makes_any.ensures ∙ c.if-not-makes_any.false))

pub returns-clause-tries : goal.returns-clause-tries
returns-clause-tries g c =
    new_meant g.D.Disk.history c.args.statements.now c.args.self.now c.new_number.new.self
    (record { number = c.in_ok-number.number; is_new = true; documents = c.new-2.result }) c.in_ok-number.number c.in_ok-number.ensures.tries
    c.new-2.ensures.items refl refl (sym c.makes_any.ensures ∙ c.if-not-makes_any.false)
