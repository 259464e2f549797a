use Rattle.std.proofs.Common.{◌+◌, Bool, Ok, drop, map, sym, ◌∙◌, subst}
use Rattle.std.proofs.lemmas.Result.{err_from_is_err_and}
use Rattle.index.specs.View.{texts_of}
use Rattle.collections.specs.Calls.{Reads}
use Rattle.collections.specs.OtherKeys.{TellsOf, any_other_key, is_taken}
use Rattle.collections.proofs.AnyLemmas.{index_passed, looks_begin, looks_failed, looks_found, looks_none, looks_skip, looks_step, looks_stopped, no_index_left}
use Rattle.collections.proofs.AnyLemmas.{unique_index_left}
use Rattle.collections.proofs.collections.Collections.is_taken.Goals as goal

pub indexes-init : goal.indexes-init
indexes-init g c = let a = c.args in
    looks_begin g.D.Disk.history a.edits.now (is_taken a.number a.id.now a.indexes.now (map (λ ks. texts_of ks.items) a.keys.now)) a.self.now

pub indexes-preserved-then-not-is_unique : goal.indexes-preserved-then-not-is_unique
indexes-preserved-then-not-is_unique g c =
    let a = c.args in
    looks_skip g.D.Disk.history a.edits.now (is_taken a.number a.id.now a.indexes.now (map (λ ks. texts_of ks.items) a.keys.now))
    (is_taken a.number a.id.now (drop c.indexes.at a.indexes.now) (map (λ ks. texts_of ks.items) (drop c.indexes.at a.keys.now)))
    (is_taken a.number a.id.now (drop (c.indexes.at + 1) a.indexes.now) (map (λ ks. texts_of ks.items) (drop (c.indexes.at + 1) a.keys.now))) a.self.now
    c.indexes.self c.indexes.invariant
    (index_passed a.number a.id.now a.indexes.now a.keys.now c.indexes.at c.index-indexes-at.result c.indexes-test.true c.index-indexes-at.is
    (sym c.is_unique.ensures ∙ c.if-not-is_unique.true))

pub returns-in_err-has_any_other_key : goal.returns-in_err-has_any_other_key
returns-in_err-has_any_other_key g c =
    let p = err_from_is_err_and c.from_residual.result c.from_residual.ensures.1 in
    let a = c.args in
    let unique = sym c.is_unique.ensures ∙ c.if-not-is_unique.false in
    let split = unique_index_left a.number a.id.now a.indexes.now a.keys.now c.indexes.at c.index-indexes-at.result c.index-keys-at.result c.number.result
    c.deref.result.now c.indexes-test.true c.requires c.index-indexes-at.is c.index-keys-at.is c.number.ensures.number c.deref.ensures.value unique in
    rw (p.1, p.2)
    (looks_failed g.D.Disk.history a.edits.now (is_taken a.number a.id.now a.indexes.now (map (λ ks. texts_of ks.items) a.keys.now))
    (is_taken a.number a.id.now (drop c.indexes.at a.indexes.now) (map (λ ks. texts_of ks.items) (drop c.indexes.at a.keys.now)))
    (any_other_key a.number c.number.result a.id.now (texts_of c.deref.result.now))
    (is_taken a.number a.id.now (drop (c.indexes.at + 1) a.indexes.now) (map (λ ks. texts_of ks.items) (drop (c.indexes.at + 1) a.keys.now))) a.self.now
    c.indexes.self c.has_any_other_key.new.self c.indexes.invariant split c.in_err-has_any_other_key.field-0.0 c.in_err-has_any_other_key.ensures)

pub returns-then-branch : goal.returns-then-branch
returns-then-branch g c =
    let a = c.args in
    let unique = sym c.is_unique.ensures ∙ c.if-not-is_unique.false in
    let split = unique_index_left a.number a.id.now a.indexes.now a.keys.now c.indexes.at c.index-indexes-at.result c.index-keys-at.result c.number.result
    c.deref.result.now c.indexes-test.true c.requires c.index-indexes-at.is c.index-keys-at.is c.number.ensures.number c.deref.ensures.value unique in
    looks_found g.D.Disk.history a.edits.now (is_taken a.number a.id.now a.indexes.now (map (λ ks. texts_of ks.items) a.keys.now))
    (is_taken a.number a.id.now (drop c.indexes.at a.indexes.now) (map (λ ks. texts_of ks.items) (drop c.indexes.at a.keys.now)))
    (any_other_key a.number c.number.result a.id.now (texts_of c.deref.result.now))
    (is_taken a.number a.id.now (drop (c.indexes.at + 1) a.indexes.now) (map (λ ks. texts_of ks.items) (drop (c.indexes.at + 1) a.keys.now))) a.self.now
    c.indexes.self c.has_any_other_key.new.self c.indexes.invariant split
    (subst (λ (b : Bool). Reads g.D.Disk.history (TellsOf (any_other_key a.number c.number.result a.id.now (texts_of c.deref.result.now)) a.edits.now)
    (Ok b) c.indexes.self c.has_any_other_key.new.self) c.if-branch.true c.in_ok-has_any_other_key.ensures)

pub indexes-preserved : goal.indexes-preserved
indexes-preserved g c =
    let a = c.args in
    let unique = sym c.is_unique.ensures ∙ c.if-not-is_unique.false in
    let split = unique_index_left a.number a.id.now a.indexes.now a.keys.now c.indexes.at c.index-indexes-at.result c.index-keys-at.result c.number.result
    c.deref.result.now c.indexes-test.true c.requires c.index-indexes-at.is c.index-keys-at.is c.number.ensures.number c.deref.ensures.value unique in
    looks_step g.D.Disk.history a.edits.now (is_taken a.number a.id.now a.indexes.now (map (λ ks. texts_of ks.items) a.keys.now))
    (is_taken a.number a.id.now (drop c.indexes.at a.indexes.now) (map (λ ks. texts_of ks.items) (drop c.indexes.at a.keys.now)))
    (any_other_key a.number c.number.result a.id.now (texts_of c.deref.result.now))
    (is_taken a.number a.id.now (drop (c.indexes.at + 1) a.indexes.now) (map (λ ks. texts_of ks.items) (drop (c.indexes.at + 1) a.keys.now))) a.self.now
    c.indexes.self c.has_any_other_key.new.self c.indexes.invariant split
    (subst (λ (b : Bool). Reads g.D.Disk.history (TellsOf (any_other_key a.number c.number.result a.id.now (texts_of c.deref.result.now)) a.edits.now)
    (Ok b) c.indexes.self c.has_any_other_key.new.self) c.if-branch.false c.in_ok-has_any_other_key.ensures)

pub returns : goal.returns
returns g c =
    let a = c.args in
    looks_none g.D.Disk.history a.edits.now (is_taken a.number a.id.now a.indexes.now (map (λ ks. texts_of ks.items) a.keys.now))
    (is_taken a.number a.id.now (drop c.indexes.at a.indexes.now) (map (λ ks. texts_of ks.items) (drop c.indexes.at a.keys.now))) a.self.now c.indexes.self
    (sym c.is_stopped.ensures ∙ c.if-is_stopped.false) c.indexes.invariant
    (no_index_left a.number a.id.now a.indexes.now a.keys.now c.indexes.at c.indexes-test.false)

pub returns-then-is_stopped : goal.returns-then-is_stopped
returns-then-is_stopped g c =
    let a = c.args in
    looks_stopped g.D.Disk.history a.edits.now (is_taken a.number a.id.now a.indexes.now (map (λ ks. texts_of ks.items) a.keys.now)) a.self.now
    (sym c.is_stopped.ensures ∙ c.if-is_stopped.true)
