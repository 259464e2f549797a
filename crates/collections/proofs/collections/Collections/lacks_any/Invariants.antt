use Rattle.std.proofs.Common.{drop, map}
use Rattle.index.specs.View.{texts_of}
use Rattle.collections.specs.IndexChecks.{lacks_any}
use Rattle.collections.proofs.TreeReadLemmas.{LooksTo}
use Rattle.collections.proofs.collections.Collections.lacks_any.Given as goal

abbrev pub invariant-indexes : goal.invariant-indexes
invariant-indexes g l =
    LooksTo g.D.Disk.history (lacks_any l.number l.id l.indexes (map (λ ks. texts_of ks.items) l.keys))
    (lacks_any l.number l.id (drop l.at l.indexes) (map (λ ks. texts_of ks.items) (drop l.at l.keys))) l.initial.self l.self
