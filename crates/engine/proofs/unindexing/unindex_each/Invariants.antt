use Rattle.std.proofs.Common.{take}
use Rattle.entries.specs.IndexBuilding.{HasRemovedEntries}
use Rattle.engine.proofs.unindexing.unindex_each.Given as goal

abbrev pub invariant-documents : goal.invariant-documents
invariant-documents l = HasRemovedEntries l.initial.edits l.edits l.number l.index (take l.document-index l.documents)
