use Rattle.std.proofs.Common.{◌≡◌, ◌++◌}
use Rattle.queries.proofs.looking_up.shared_all.Given as goal

abbrev pub invariant-documents : goal.invariant-documents
invariant-documents l = l.shared.items ++ l.document-iterator.rest.items ≡ l.fn.documents.items
