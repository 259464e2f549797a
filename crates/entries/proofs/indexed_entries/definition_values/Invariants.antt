use Rattle.std.proofs.Common.{◌≡◌, drop}
use Rattle.std.specs.List.{AllByRecursion}
use Rattle.bson.specs.Tree.{append_items}
use Rattle.bson.specs.View.{items_of}
use Rattle.index.specs.Definition.{IsDefinition}
use Rattle.entry_model.specs.StateEntries.{definition_items}
use Rattle.entries.proofs.indexed_entries.definition_values.Given as goal

abbrev pub invariant-indexes : goal.invariant-indexes
invariant-indexes l = record {
  items : append_items (items_of l.values.items) (definition_items (drop l.index-index l.indexes)) ≡ definition_items l.indexes;
  lawful : AllByRecursion IsDefinition (drop l.index-index l.indexes) → AllByRecursion IsDefinition l.indexes;
}
