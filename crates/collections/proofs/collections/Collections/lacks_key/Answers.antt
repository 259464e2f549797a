use Rattle.std.proofs.Common.{ℕ, Bool, true, Ok, sym, subst}
use Rattle.std.proofs.lemmas.Result.{err_from_is_err_and}
use Rattle.collections.specs.Entries.{ReadsTree}
use Rattle.collections.specs.IndexChecks.{has_entry, lacks_key}
use Rattle.entries.specs.OtherKeys.{has_other_key}
use Rattle.collections.proofs.TreeReadLemmas.{IsTest, others_there, tree_refused}
use Rattle.collections.proofs.collections.Collections.lacks_key.Goals as goal

pub returns-in_err-has_entry : goal.returns-in_err-has_entry
returns-in_err-has_entry g c =
    let p = err_from_is_err_and c.from_residual.result c.from_residual.ensures.1 in
    let a = c.args in
    rw (p.1, p.2)
    (tree_refused g.D.Disk.history (IsTest (has_entry a.number c.number-at.result a.key.now a.id.now))
    (IsTest (lacks_key a.number a.index.now a.id.now a.key.now)) a.self.now c.has_entry.new.self c.in_err-has_entry.field-0.0 c.in_err-has_entry.ensures)

pub returns : goal.returns
returns g c =
    let a = c.args in
    let history = g.D.Disk.history in
    let mid = c.has_entry.new.self in
    let first = subst (λ (n : ℕ). ReadsTree history (IsTest (has_entry a.number n a.key.now a.id.now)) (Ok true) a.self.now mid) c.number-at.ensures.number
    (subst (λ (b : Bool). ReadsTree history (IsTest (has_entry a.number c.number-at.result a.key.now a.id.now)) (Ok b) a.self.now mid) c.if-not-branch.false
    c.in_ok-has_entry.ensures) in
    let second =
    subst (λ (n : ℕ). ReadsTree history (IsTest (has_other_key a.number n a.key.now a.id.now)) c.has_other_entry.result mid c.has_other_entry.new.self)
    c.number-at.ensures.number c.has_other_entry.ensures in
    others_there history a.number a.index.now a.id.now a.key.now a.self.now mid c.has_other_entry.new.self
    (sym c.if-not-is_unique.ensures) first c.has_other_entry.result second
