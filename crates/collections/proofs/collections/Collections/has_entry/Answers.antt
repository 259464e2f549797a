use Rattle.std.proofs.lemmas.Result.{err_from_is_err_and}
use Rattle.collections.specs.IndexChecks.{has_entry}
use Rattle.collections.specs.Lookups.{IsValueAt}
use Rattle.collections.proofs.TreeReadLemmas.{IsTest, tree_refused}
use Rattle.collections.proofs.collections.Collections.has_entry.Goals as goal

pub returns-in_err-found : goal.returns-in_err-found
returns-in_err-found g c =
    let p = err_from_is_err_and c.from_residual-in_err-found.result c.from_residual-in_err-found.ensures.1 in
    rw (p.1, p.2)
    (tree_refused g.D.Disk.history (IsValueAt c.deref.result.now)
    (IsTest (has_entry c.args.number c.args.index c.args.key.now c.args.id.now)) c.args.self.now c.tree_value.new.self c.in_err-found.field-0.0
    c.in_err-found.ensures)
