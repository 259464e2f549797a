-- The way back from what the catalogue says of a collection to its indexes.
use Rattle.std.specs.Prelude.{Option, Some, None, List, [], ◌∷◌}
use Rattle.std.specs.Option.{option_and_then, option_map}
use Rattle.bson.specs.Tree.{Tree, document, Items, no_items, item}
use Rattle.index.specs.Definition.{Definition}
use Rattle.index.specs.Catalogue.{definition_in}

-- the definition that a value spells, if it spells one
abbrev pub item_in : Tree → Option Definition
item_in (document ps) = definition_in ps
item_in t = None

-- those that the items of an array spell, if each of them spells one
abbrev pub definitions_in : Items → Option (List Definition)
definitions_in no_items = Some []
definitions_in (item t ts) =
    option_and_then (λ d. option_map (λ ds. d ∷ ds) (definitions_in ts)) (item_in t)
