use Rattle.std.proofs.Common.{◌≡◌, ◌++◌, drop}
use Rattle.statements.proofs.deletions.after_deletions.Given as goal

abbrev pub invariant-documents : goal.invariant-documents
invariant-documents l = l.rest.items ++ drop l.document-index l.documents ≡ l.documents
