use Rattle.std.proofs.Common.{◌≡◌, ◌++◌}
use Rattle.queries.proofs.ordering.built_all.Given as goal

abbrev pub invariant-documents : goal.invariant-documents
invariant-documents l = l.built.items ++ l.document-iterator.rest.items ≡ l.fn.documents.items
