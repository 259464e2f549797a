use Rattle.std.proofs.Common.{◌+◌, Bool, Ok, drop, sym, ◌∙◌, subst}
use Rattle.std.proofs.lemmas.Result.{err_from_is_err_and}
use Rattle.entries.specs.OtherKeys.{has_other_key}
use Rattle.index.specs.View.{texts_of}
use Rattle.collections.specs.Calls.{Reads}
use Rattle.collections.specs.OtherKeys.{TellsOf, any_other_key}
use Rattle.collections.proofs.AnyLemmas.{first_key_left, looks_begin, looks_failed, looks_found, looks_none, looks_step, looks_stopped, no_key_left}
use Rattle.collections.proofs.collections.Collections.has_any_other_key.Goals as goal

pub returns-in_err-has_other_key : goal.returns-in_err-has_other_key
returns-in_err-has_other_key g c =
    let p = err_from_is_err_and c.from_residual.result c.from_residual.ensures.1 in
    let a = c.args in
    let split = first_key_left a.number a.id.now a.index a.keys.now c.keys.key-index c.key-item.result c.deref.result.now c.keys-test.true c.key-item.is
    c.deref.ensures.value in
    rw (p.1, p.2)
    (looks_failed g.D.Disk.history a.edits.now (any_other_key a.number a.index a.id.now (texts_of a.keys.now))
    (any_other_key a.number a.index a.id.now (texts_of (drop c.keys.key-index a.keys.now)))
    (has_other_key a.number a.index c.deref.result.now a.id.now)
    (any_other_key a.number a.index a.id.now (texts_of (drop (c.keys.key-index + 1) a.keys.now))) a.self.now c.keys.self c.has_other_key.new.self
    c.keys.invariant split
    c.in_err-has_other_key.field-0.0 c.in_err-has_other_key.ensures)

pub returns-then-branch : goal.returns-then-branch
returns-then-branch g c =
    let a = c.args in
    let split = first_key_left a.number a.id.now a.index a.keys.now c.keys.key-index c.key-item.result c.deref.result.now c.keys-test.true c.key-item.is
    c.deref.ensures.value in
    looks_found g.D.Disk.history a.edits.now (any_other_key a.number a.index a.id.now (texts_of a.keys.now))
    (any_other_key a.number a.index a.id.now (texts_of (drop c.keys.key-index a.keys.now)))
    (has_other_key a.number a.index c.deref.result.now a.id.now)
    (any_other_key a.number a.index a.id.now (texts_of (drop (c.keys.key-index + 1) a.keys.now))) a.self.now c.keys.self c.has_other_key.new.self
    c.keys.invariant split
    (subst (λ (b : Bool). Reads g.D.Disk.history (TellsOf (has_other_key a.number a.index c.deref.result.now a.id.now) a.edits.now)
    (Ok b) c.keys.self c.has_other_key.new.self) c.if-branch.true c.in_ok-has_other_key.ensures)

pub keys-preserved : goal.keys-preserved
keys-preserved g c =
    let a = c.args in
    let split = first_key_left a.number a.id.now a.index a.keys.now c.keys.key-index c.key-item.result c.deref.result.now c.keys-test.true c.key-item.is
    c.deref.ensures.value in
    looks_step g.D.Disk.history a.edits.now (any_other_key a.number a.index a.id.now (texts_of a.keys.now))
    (any_other_key a.number a.index a.id.now (texts_of (drop c.keys.key-index a.keys.now)))
    (has_other_key a.number a.index c.deref.result.now a.id.now)
    (any_other_key a.number a.index a.id.now (texts_of (drop (c.keys.key-index + 1) a.keys.now))) a.self.now c.keys.self c.has_other_key.new.self
    c.keys.invariant split
    (subst (λ (b : Bool). Reads g.D.Disk.history (TellsOf (has_other_key a.number a.index c.deref.result.now a.id.now) a.edits.now)
    (Ok b) c.keys.self c.has_other_key.new.self) c.if-branch.false c.in_ok-has_other_key.ensures)

pub keys-init : goal.keys-init
keys-init g c =
    looks_begin g.D.Disk.history c.args.edits.now (any_other_key c.args.number c.args.index c.args.id.now (texts_of c.args.keys.now)) c.args.self.now

pub returns : goal.returns
returns g c =
    let a = c.args in
    looks_none g.D.Disk.history a.edits.now (any_other_key a.number a.index a.id.now (texts_of a.keys.now))
    (any_other_key a.number a.index a.id.now (texts_of (drop c.keys.key-index a.keys.now))) a.self.now c.keys.self
    (sym c.is_stopped.ensures ∙ c.if-is_stopped.false) c.keys.invariant (no_key_left a.number a.id.now a.index a.keys.now c.keys.key-index c.keys-test.false)

pub returns-then-is_stopped : goal.returns-then-is_stopped
returns-then-is_stopped g c =
    looks_stopped g.D.Disk.history c.args.edits.now (any_other_key c.args.number c.args.index c.args.id.now (texts_of c.args.keys.now)) c.args.self.now
    (sym c.is_stopped.ensures ∙ c.if-is_stopped.true)
