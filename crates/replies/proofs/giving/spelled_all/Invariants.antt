use Rattle.std.proofs.Common.{◌≡◌, ◌++◌, drop}
use Rattle.replies.proofs.giving.spelled_all.Given as goal

abbrev pub invariant-documents : goal.invariant-documents
invariant-documents l = l.spelled.items ++ drop l.document-index l.documents ≡ l.documents
