use Rattle.std.proofs.Common.{drop}
use Rattle.engine.proofs.IndexingSteps.{each_index}
use Rattle.engine.proofs.NotingEach.{NotesTo}
use Rattle.engine.proofs.engine.Engine.note_indexes.Given as goal

abbrev pub invariant-indexes : goal.invariant-indexes
invariant-indexes g l =
    NotesTo g.D.Disk.history (each_index l.namespace) l.namespace l.indexes
    (drop l.index-index l.indexes) l.initial.home l.home l.initial.edits l.edits l.initial.self l.self
