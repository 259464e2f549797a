use Rattle.std.proofs.Common.{drop}
use Rattle.index.specs.View.{texts_of}
use Rattle.collections.specs.OtherKeys.{any_other_key}
use Rattle.collections.proofs.AnyLemmas.{LooksOn}
use Rattle.collections.proofs.collections.Collections.has_any_other_key.Given as goal

abbrev pub invariant-keys : goal.invariant-keys
invariant-keys g l =
    LooksOn g.D.Disk.history l.edits (any_other_key l.number l.index l.id (texts_of l.keys))
    (any_other_key l.number l.index l.id (texts_of (drop l.key-index l.keys))) l.initial.self l.self
