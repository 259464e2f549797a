use Rattle.std.proofs.Common.{length}
use Rattle.commands.specs.View.{dropped_of}
use Rattle.engine.proofs.DroppingIndexes.{DropsTo}
use Rattle.engine.proofs.engine.Engine.note_dropped.Given as goal

abbrev pub invariant-indexes : goal.invariant-indexes
invariant-indexes g l = DropsTo g.D.Disk.history l.namespace (dropped_of l.dropped) l.initial.home l.home l.initial.edits l.edits l.initial.self l.self

abbrev pub decreases-indexes : goal.decreases-indexes
decreases-indexes g l = length l.home.indexes.items
