use Rattle.std.proofs.Common.{◌≡◌, take}
use Rattle.entries.proofs.catalogue_reading.copy_indexes.Given as goal

abbrev pub invariant-indexes : goal.invariant-indexes
invariant-indexes l = l.copies.items ≡ take l.index-index l.indexes
