use Rattle.std.proofs.Common.{Some, sym, ap, ◌∙◌}
use Rattle.bson.specs.View.{tree, items_of}
use Rattle.bson.specs.declared.value.Value.{Value}
use Rattle.entries.proofs.CatalogueReadLaws.{indexes_back}
use Rattle.entries.proofs.catalogue_reading.indexes_told.Goals as goal

pub returns-in-Some-Array : goal.returns-in-Some-Array
returns-in-Some-Array c =
    indexes_back c.definitions_in.result c.args.document.now _ (items_of c.items.result.now) c.definitions_in.ensures c.items.ensures.items
    (sym c.in-Some-Array.ensures ∙ ap (λ (v : Value). Some (tree v)) c.in-Some-Array.field-0-is)
