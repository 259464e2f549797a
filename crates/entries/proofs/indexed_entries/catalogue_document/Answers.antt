use Rattle.std.proofs.Common.{ap, sym, subst, arith}
use Rattle.bson.specs.Lawful.{IsArray, items_levels}
use Rattle.bson.specs.Tree.{Items}
use Rattle.entries.proofs.CatalogueEntries.{items_flat}
use Rattle.entries.proofs.CatalogueValues.{definitions_array}
use Rattle.entries.proofs.indexed_entries.catalogue_document.Goals as goal

pub from_items-requires : goal.from_items-requires
from_items-requires c =
    subst (λ (ts : Items). IsArray ts) (sym c.in_ok-values.ensures.items) (definitions_array c.args.indexes.now c.in_ok-values.ensures.lawful)

pub put_field-requires-2-clause-flat : goal.put_field-requires-2-clause-flat
put_field-requires-2-clause-flat c =
    omega (arith, items_flat c.args.indexes.now, ap items_levels c.in_ok-values.ensures.items, ap items_levels c.from_items.ensures)
