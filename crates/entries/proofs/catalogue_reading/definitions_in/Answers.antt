use Rattle.std.proofs.Common.{sym, ◌∙◌}
use Rattle.bson.specs.View.{items_of}
use Rattle.entries.specs.CatalogueReading.{definitions_in}
use Rattle.entries.proofs.CatalogueReadLaws.{read_more, read_none, read_all}
use Rattle.entries.proofs.catalogue_reading.definitions_in.Goals as goal

pub items-preserved : goal.items-preserved
items-preserved c =
    read_more c.args.items.now c.items.item-index c.item-item.result c.items.indexes.items c.push.new.self.items c.in-Some.index
    (definitions_in (items_of c.args.items.now)) c.items-test.true c.item-item.is
    (sym c.in-Some.is ∙ c.in_ok-index.ensures) c.in_ok-push-in-Some.ensures.items c.items.invariant

pub returns-in-None : goal.returns-in-None
returns-in-None c =
    read_none c.args.items.now c.items.item-index c.item-item.result c.items.indexes.items
    (definitions_in (items_of c.args.items.now)) c.items-test.true c.item-item.is
    (sym c.in-None.is ∙ c.in_ok-index.ensures) c.items.invariant

pub returns : goal.returns
returns c = read_all c.args.items.now c.items.item-index c.items.indexes.items (definitions_in (items_of c.args.items.now)) c.items-test.false c.items.invariant
