use Rattle.engine.proofs.IndexingLemmas.{HasEnteredTo}
use Rattle.engine.proofs.engine.Engine.take_all.Given as goal

abbrev pub invariant-batches : goal.invariant-batches
invariant-batches g l = HasEnteredTo g.D.Disk.history l.namespace l.initial.made l.made l.walk l.fn.self l.self

abbrev pub decreases-batches : goal.decreases-batches
decreases-batches g l = l.walk.left
