use Rattle.std.proofs.Common.{take}
use Rattle.engine.specs.Indexing.{TakesEach}
use Rattle.engine.proofs.indexing.take_each.Given as goal

abbrev pub invariant-documents : goal.invariant-documents
invariant-documents l = TakesEach l.initial.made l.made (take l.document-index l.documents)
