use Rattle.std.proofs.Common.{◌≡◌, ◌-◌, ◌++◌}
use Rattle.driver_messages.specs.WithIntegers.{documents_with}
use Rattle.driver_messages.proofs.with_integers.put_documents.Given as goal

abbrev pub invariant-documents : goal.invariant-documents
invariant-documents l = l.out.items ++ documents_with (l.most - l.i) l.i l.name l.rest ≡ l.fn.out.items ++ documents_with l.most 0 l.name l.bytes
