use Rattle.std.proofs.Common.{drop}
use Rattle.command_model.specs.Insert.{documents_at}
use Rattle.engine.proofs.InsertSteps.{NotesSoFar}
use Rattle.engine.proofs.engine.Engine.note_documents.Given as goal

abbrev pub invariant-documents : goal.invariant-documents
invariant-documents g l =
    NotesSoFar g.D.Disk.history l.namespace (documents_at l.documents)
    (documents_at (drop l.document-index l.documents)) l.initial.home l.home l.initial.edits l.edits l.initial.self l.self
