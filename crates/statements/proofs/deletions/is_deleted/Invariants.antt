use Rattle.std.proofs.Common.{◌≡◌, drop}
use Rattle.database_model.specs.Merging.{is_deleted}
use Rattle.statements.proofs.deletions.is_deleted.Given as goal

abbrev pub invariant-deletions : goal.invariant-deletions
invariant-deletions l = is_deleted (drop l.deletion-index l.deletions) l.document ≡ is_deleted l.deletions l.document
