use Rattle.std.proofs.Common.{◌≡◌, ◌-◌, length}
use Rattle.driver_messages.specs.Seeking.{in_documents}
use Rattle.driver_messages.proofs.sections.in_documents.Given as goal

abbrev pub invariant-documents : goal.invariant-documents
invariant-documents l = in_documents (length l.bytes - l.i) l.i l.name l.rest ≡ in_documents (length l.bytes) 0 l.name l.bytes
