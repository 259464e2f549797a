use Rattle.std.proofs.Common.{◌≡◌, ◌++◌, drop}
use Rattle.database_model.specs.Delete.{after_deletions}
use Rattle.statements.specs.Redoing.{all_taken}
use Rattle.statements.proofs.deletions.run_deletions.Given as goal

abbrev pub invariant-deletions : goal.invariant-deletions
invariant-deletions l = record {
  left : after_deletions (drop l.deletion-index l.deletions) l.documents.items ≡ after_deletions l.deletions l.initial.documents.items;
  removed : l.removed.items ++ all_taken (drop l.deletion-index l.deletions) l.documents.items ≡ l.initial.removed.items
      ++ all_taken l.deletions l.initial.documents.items;
}
