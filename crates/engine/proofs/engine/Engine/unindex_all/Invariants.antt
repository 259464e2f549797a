use Rattle.engine.proofs.UnindexingLemmas.{HasUnindexedTo}
use Rattle.engine.proofs.engine.Engine.unindex_all.Given as goal

abbrev pub invariant-batches : goal.invariant-batches
invariant-batches g l = HasUnindexedTo g.D.Disk.history l.number l.index l.initial.edits l.edits l.walk l.initial.self l.self

abbrev pub decreases-batches : goal.decreases-batches
decreases-batches g l = l.walk.left
