use Rattle.std.proofs.Common.{◌≡◌, ◌++◌, drop}
use Rattle.command_model.specs.Insert.{documents_at}
use Rattle.queries.proofs.needed.copies.Given as goal

abbrev pub invariant-documents : goal.invariant-documents
invariant-documents l = l.copies.items ++ documents_at (drop l.document-index l.documents) ≡ documents_at l.documents
