use Rattle.std.proofs.Common.{◌≡◌}
use Rattle.aggregate_model.specs.Each.{behind}
use Rattle.aggregate_model.specs.Unwind.{unwound}
use Rattle.aggregate.proofs.unwinding.unwound.Given as goal

abbrev pub invariant-documents : goal.invariant-documents
invariant-documents l = behind l.given.items (unwound l.path l.document-iterator.rest.items) ≡ unwound l.path l.fn.documents.items
