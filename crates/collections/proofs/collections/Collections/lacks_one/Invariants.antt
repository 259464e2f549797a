use Rattle.std.proofs.Common.{drop}
use Rattle.index.specs.View.{texts_of}
use Rattle.collections.specs.IndexChecks.{lacks_one}
use Rattle.collections.proofs.TreeReadLemmas.{LooksTo}
use Rattle.collections.proofs.collections.Collections.lacks_one.Given as goal

abbrev pub invariant-keys : goal.invariant-keys
invariant-keys g l =
    LooksTo g.D.Disk.history (lacks_one l.number l.index l.id (texts_of l.keys))
    (lacks_one l.number l.index l.id (texts_of (drop l.key-index l.keys))) l.initial.self l.self
