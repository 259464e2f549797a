use Rattle.std.proofs.Common.{drop, map}
use Rattle.engine.proofs.TakingOutLemmas.{TakesLeft}
use Rattle.engine.proofs.removing.note_removed.Given as goal

abbrev pub invariant-documents : goal.invariant-documents
invariant-documents g l =
    TakesLeft l.initial.edits l.edits l.home.number l.home.indexes.items (map g.T.AsDocument.document l.documents)
    (map g.T.AsDocument.document (drop l.document-index l.documents))
