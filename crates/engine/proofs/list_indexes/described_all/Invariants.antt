use Rattle.std.proofs.Common.{drop}
use Rattle.std.specs.List.{AllByRecursion}
use Rattle.index.specs.Definition.{IsDefinition}
use Rattle.engine.proofs.ListingIndexes.{Describes}
use Rattle.engine.proofs.list_indexes.described_all.Given as goal

abbrev pub invariant-indexes : goal.invariant-indexes
invariant-indexes l = record {
  all : Describes l.indexes l.index-index l.described.items;
  lawful : AllByRecursion IsDefinition (drop l.index-index l.indexes) → AllByRecursion IsDefinition l.indexes;
}
