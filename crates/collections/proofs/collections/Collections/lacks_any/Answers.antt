use Rattle.std.proofs.Common.{◌+◌, Bool, Ok, drop, map, subst}
use Rattle.std.proofs.lemmas.Result.{err_from_is_err_and}
use Rattle.index.specs.View.{texts_of}
use Rattle.collections.specs.Entries.{ReadsTree}
use Rattle.collections.specs.IndexChecks.{lacks_any, lacks_one}
use Rattle.collections.proofs.TreeReadLemmas.{IsTest, index_left, looks_end, looks_failed, looks_found, looks_none, looks_step, no_indexes_left}
use Rattle.collections.proofs.collections.Collections.lacks_any.Goals as goal

pub indexes-init : goal.indexes-init
indexes-init g c = let a = c.args in
    looks_none g.D.Disk.history (lacks_any a.number a.id.now a.indexes.now (map (λ ks. texts_of ks.items) a.keys.now)) a.self.now

pub returns-in_err-lacks_one : goal.returns-in_err-lacks_one
returns-in_err-lacks_one g c =
    let p = err_from_is_err_and c.from_residual.result c.from_residual.ensures.1 in
    let a = c.args in
    let split = index_left a.number a.id.now a.indexes.now a.keys.now c.indexes.at c.index-indexes-at.result c.index-keys-at.result c.deref.result.now
    c.indexes-test.true c.requires c.index-indexes-at.is c.index-keys-at.is c.deref.ensures.value in
    rw (p.1, p.2)
    (looks_failed g.D.Disk.history (lacks_any a.number a.id.now a.indexes.now (map (λ ks. texts_of ks.items) a.keys.now))
    (lacks_any a.number a.id.now (drop c.indexes.at a.indexes.now) (map (λ ks. texts_of ks.items) (drop c.indexes.at a.keys.now)))
    (lacks_one a.number c.index-indexes-at.result a.id.now (texts_of c.deref.result.now))
    (lacks_any a.number a.id.now (drop (c.indexes.at + 1) a.indexes.now) (map (λ ks. texts_of ks.items) (drop (c.indexes.at + 1) a.keys.now))) a.self.now
    c.indexes.self c.lacks_one.new.self c.indexes.invariant split c.in_err-lacks_one.field-0.0 c.in_err-lacks_one.ensures)

pub returns-then-branch : goal.returns-then-branch
returns-then-branch g c =
    let a = c.args in
    let split = index_left a.number a.id.now a.indexes.now a.keys.now c.indexes.at c.index-indexes-at.result c.index-keys-at.result c.deref.result.now
    c.indexes-test.true c.requires c.index-indexes-at.is c.index-keys-at.is c.deref.ensures.value in
    looks_found g.D.Disk.history (lacks_any a.number a.id.now a.indexes.now (map (λ ks. texts_of ks.items) a.keys.now))
    (lacks_any a.number a.id.now (drop c.indexes.at a.indexes.now) (map (λ ks. texts_of ks.items) (drop c.indexes.at a.keys.now)))
    (lacks_one a.number c.index-indexes-at.result a.id.now (texts_of c.deref.result.now))
    (lacks_any a.number a.id.now (drop (c.indexes.at + 1) a.indexes.now) (map (λ ks. texts_of ks.items) (drop (c.indexes.at + 1) a.keys.now))) a.self.now
    c.indexes.self c.lacks_one.new.self c.indexes.invariant split
    (subst (λ (b : Bool). ReadsTree g.D.Disk.history (IsTest (lacks_one a.number c.index-indexes-at.result a.id.now (texts_of c.deref.result.now)))
    (Ok b) c.indexes.self c.lacks_one.new.self) c.if-branch.true c.in_ok-lacks_one.ensures)

pub indexes-preserved : goal.indexes-preserved
indexes-preserved g c =
    let a = c.args in
    let split = index_left a.number a.id.now a.indexes.now a.keys.now c.indexes.at c.index-indexes-at.result c.index-keys-at.result c.deref.result.now
    c.indexes-test.true c.requires c.index-indexes-at.is c.index-keys-at.is c.deref.ensures.value in
    looks_step g.D.Disk.history (lacks_any a.number a.id.now a.indexes.now (map (λ ks. texts_of ks.items) a.keys.now))
    (lacks_any a.number a.id.now (drop c.indexes.at a.indexes.now) (map (λ ks. texts_of ks.items) (drop c.indexes.at a.keys.now)))
    (lacks_one a.number c.index-indexes-at.result a.id.now (texts_of c.deref.result.now))
    (lacks_any a.number a.id.now (drop (c.indexes.at + 1) a.indexes.now) (map (λ ks. texts_of ks.items) (drop (c.indexes.at + 1) a.keys.now))) a.self.now
    c.indexes.self c.lacks_one.new.self c.indexes.invariant split
    (subst (λ (b : Bool). ReadsTree g.D.Disk.history (IsTest (lacks_one a.number c.index-indexes-at.result a.id.now (texts_of c.deref.result.now)))
    (Ok b) c.indexes.self c.lacks_one.new.self) c.if-branch.false c.in_ok-lacks_one.ensures)

pub returns : goal.returns
returns g c =
    let a = c.args in
    looks_end g.D.Disk.history (lacks_any a.number a.id.now a.indexes.now (map (λ ks. texts_of ks.items) a.keys.now))
    (lacks_any a.number a.id.now (drop c.indexes.at a.indexes.now) (map (λ ks. texts_of ks.items) (drop c.indexes.at a.keys.now))) a.self.now c.indexes.self
    c.indexes.invariant (no_indexes_left a.number a.id.now a.indexes.now a.keys.now c.indexes.at c.indexes-test.false)
