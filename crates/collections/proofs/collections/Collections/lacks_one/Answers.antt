use Rattle.std.proofs.Common.{◌+◌, Bool, Ok, drop, subst}
use Rattle.std.proofs.lemmas.Result.{err_from_is_err_and}
use Rattle.index.specs.View.{texts_of}
use Rattle.collections.specs.Entries.{ReadsTree}
use Rattle.collections.specs.IndexChecks.{lacks_key, lacks_one}
use Rattle.collections.proofs.TreeReadLemmas.{IsTest, key_left, looks_end, looks_failed, looks_found, looks_none, looks_step, no_keys_left}
use Rattle.collections.proofs.collections.Collections.lacks_one.Goals as goal

pub keys-init : goal.keys-init
keys-init g c = looks_none g.D.Disk.history (lacks_one c.args.number c.args.index.now c.args.id.now (texts_of c.args.keys.now)) c.args.self.now

pub returns-in_err-lacks_key : goal.returns-in_err-lacks_key
returns-in_err-lacks_key g c =
    let p = err_from_is_err_and c.from_residual.result c.from_residual.ensures.1 in
    let a = c.args in
    let split = key_left a.number a.index.now a.id.now a.keys.now c.keys.key-index c.key-item.result c.deref.result.now c.keys-test.true c.key-item.is
    c.deref.ensures.value in
    rw (p.1, p.2)
    (looks_failed g.D.Disk.history (lacks_one a.number a.index.now a.id.now (texts_of a.keys.now))
    (lacks_one a.number a.index.now a.id.now (texts_of (drop c.keys.key-index a.keys.now)))
    (lacks_key a.number a.index.now a.id.now c.deref.result.now)
    (lacks_one a.number a.index.now a.id.now (texts_of (drop (c.keys.key-index + 1) a.keys.now))) a.self.now c.keys.self c.lacks_key.new.self c.keys.invariant
    split
    c.in_err-lacks_key.field-0.0 c.in_err-lacks_key.ensures)

pub returns-then-branch : goal.returns-then-branch
returns-then-branch g c =
    let a = c.args in
    let split = key_left a.number a.index.now a.id.now a.keys.now c.keys.key-index c.key-item.result c.deref.result.now c.keys-test.true c.key-item.is
    c.deref.ensures.value in
    looks_found g.D.Disk.history (lacks_one a.number a.index.now a.id.now (texts_of a.keys.now))
    (lacks_one a.number a.index.now a.id.now (texts_of (drop c.keys.key-index a.keys.now)))
    (lacks_key a.number a.index.now a.id.now c.deref.result.now)
    (lacks_one a.number a.index.now a.id.now (texts_of (drop (c.keys.key-index + 1) a.keys.now))) a.self.now c.keys.self c.lacks_key.new.self c.keys.invariant
    split
    (subst (λ (b : Bool). ReadsTree g.D.Disk.history (IsTest (lacks_key a.number a.index.now a.id.now c.deref.result.now))
    (Ok b) c.keys.self c.lacks_key.new.self) c.if-branch.true c.in_ok-lacks_key.ensures)

pub keys-preserved : goal.keys-preserved
keys-preserved g c =
    let a = c.args in
    let split = key_left a.number a.index.now a.id.now a.keys.now c.keys.key-index c.key-item.result c.deref.result.now c.keys-test.true c.key-item.is
    c.deref.ensures.value in
    looks_step g.D.Disk.history (lacks_one a.number a.index.now a.id.now (texts_of a.keys.now))
    (lacks_one a.number a.index.now a.id.now (texts_of (drop c.keys.key-index a.keys.now)))
    (lacks_key a.number a.index.now a.id.now c.deref.result.now)
    (lacks_one a.number a.index.now a.id.now (texts_of (drop (c.keys.key-index + 1) a.keys.now))) a.self.now c.keys.self c.lacks_key.new.self c.keys.invariant
    split
    (subst (λ (b : Bool). ReadsTree g.D.Disk.history (IsTest (lacks_key a.number a.index.now a.id.now c.deref.result.now))
    (Ok b) c.keys.self c.lacks_key.new.self) c.if-branch.false c.in_ok-lacks_key.ensures)

pub returns : goal.returns
returns g c =
    let a = c.args in
    looks_end g.D.Disk.history (lacks_one a.number a.index.now a.id.now (texts_of a.keys.now))
    (lacks_one a.number a.index.now a.id.now (texts_of (drop c.keys.key-index a.keys.now))) a.self.now c.keys.self
    c.keys.invariant (no_keys_left a.number a.index.now a.id.now a.keys.now c.keys.key-index c.keys-test.false)
