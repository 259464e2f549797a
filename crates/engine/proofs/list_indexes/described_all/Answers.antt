use Rattle.std.proofs.Common.{[], ◌∷◌, ◌++◌, ap, ◌∙◌}
use Rattle.bson.specs.Tree.{Pairs}
use Rattle.entries.proofs.CatalogueValues.{lawful_end, lawful_more}
use Rattle.engine.proofs.ListingIndexes.{describes_all, describes_one}
use Rattle.engine.proofs.list_indexes.described_all.Goals as goal

pub indexes-preserved : goal.indexes-preserved
indexes-preserved c = record {
  all = describes_one c.args.indexes.now c.indexes.index-index c.index-item.result c.indexes.described.items c.push-in-indexes.new.self.items
      c.indexes-test.true c.index-item.is
      (c.in_ok-push-2.ensures.items ∙ ap (λ (d : Pairs). c.indexes.described.items ++ d ∷ []) c.in_ok-described_index.ensures) c.indexes.invariant.all;
  lawful = lawful_more c.args.indexes.now c.indexes.index-index c.index-item.result c.indexes-test.true c.index-item.is c.number-number.ensures.lawful
      c.indexes.invariant.lawful;
}

pub returns-clause-all : goal.returns-clause-all
returns-clause-all c = describes_all c.args.indexes.now c.indexes.index-index c.indexes.described.items c.indexes-test.false c.indexes.invariant.all

pub returns-clause-lawful : goal.returns-clause-lawful
returns-clause-lawful c = lawful_end c.args.indexes.now c.indexes.index-index c.indexes-test.false c.indexes.invariant.lawful
