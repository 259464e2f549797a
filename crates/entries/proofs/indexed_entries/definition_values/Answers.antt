use Rattle.std.proofs.Common.{ap}
use Rattle.bson.specs.Tree.{document}
use Rattle.entry_model.specs.StateEntries.{definition_items}
use Rattle.entries.proofs.CatalogueValues.{item_more, items_end, lawful_more, lawful_end}
use Rattle.entries.proofs.indexed_entries.definition_values.Goals as goal

pub indexes-preserved : goal.indexes-preserved
indexes-preserved c = record {
  items = item_more c.args.indexes.now c.indexes.index-index c.index-item.result c.indexes.values.items c.push.new.self.items _
      (definition_items c.args.indexes.now)
      c.indexes-test.true c.index-item.is c.in_ok-push.ensures.items (ap document c.in_ok-document.ensures) c.indexes.invariant.items;
  lawful = lawful_more c.args.indexes.now c.indexes.index-index c.index-item.result c.indexes-test.true c.index-item.is c.number-number.ensures.lawful
      c.indexes.invariant.lawful;
}

pub returns-clause-items : goal.returns-clause-items
returns-clause-items c =
    items_end c.args.indexes.now c.indexes.index-index c.indexes.values.items
    (definition_items c.args.indexes.now) c.indexes-test.false c.indexes.invariant.items

pub returns-clause-lawful : goal.returns-clause-lawful
returns-clause-lawful c = lawful_end c.args.indexes.now c.indexes.index-index c.indexes-test.false c.indexes.invariant.lawful
