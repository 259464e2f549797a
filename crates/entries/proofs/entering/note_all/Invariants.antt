use Rattle.std.proofs.Common.{◌≡◌, ◌++◌, take, drop, map}
use Rattle.index.specs.IndexKeys.{noted}
use Rattle.entries.proofs.entering.note_all.Given as goal

abbrev pub invariant-indexes : goal.invariant-indexes
invariant-indexes l = take l.index-index l.indexes ++ map (noted l.document) (drop l.index-index l.indexes) ≡ map (noted l.document) l.initial.indexes
