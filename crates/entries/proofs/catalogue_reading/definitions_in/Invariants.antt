use Rattle.std.proofs.Common.{◌≡◌, drop, ◌++◌}
use Rattle.std.specs.Option.{option_map}
use Rattle.bson.specs.View.{items_of}
use Rattle.entries.specs.CatalogueReading.{definitions_in}
use Rattle.entries.proofs.catalogue_reading.definitions_in.Given as goal

abbrev pub invariant-items : goal.invariant-items
invariant-items l =
    option_map (λ ds. l.indexes.items ++ ds) (definitions_in (items_of (drop l.item-index l.items))) ≡ definitions_in (items_of l.items)
