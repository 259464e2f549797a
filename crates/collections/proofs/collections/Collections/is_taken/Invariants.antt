use Rattle.std.proofs.Common.{drop, map}
use Rattle.index.specs.View.{texts_of}
use Rattle.collections.specs.OtherKeys.{is_taken}
use Rattle.collections.proofs.AnyLemmas.{LooksOn}
use Rattle.collections.proofs.collections.Collections.is_taken.Given as goal

abbrev pub invariant-indexes : goal.invariant-indexes
invariant-indexes g l =
    LooksOn g.D.Disk.history l.edits (is_taken l.number l.id l.indexes (map (λ ks. texts_of ks.items) l.keys))
    (is_taken l.number l.id (drop l.at l.indexes) (map (λ ks. texts_of ks.items) (drop l.at l.keys))) l.initial.self l.self
