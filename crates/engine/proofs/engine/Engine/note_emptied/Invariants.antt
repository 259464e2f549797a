use Rattle.engine.proofs.DroppingLemmas.{IsEmptiedTo}
use Rattle.engine.proofs.engine.Engine.note_emptied.Given as goal

abbrev pub invariant-batches : goal.invariant-batches
invariant-batches g l = IsEmptiedTo g.D.Disk.history l.home l.initial.edits l.edits l.walk l.initial.self l.self

abbrev pub decreases-batches : goal.decreases-batches
decreases-batches g l = l.walk.left
