-- The distinct values of a path in documents (MongoDB manual, distinct): what the path reaches in
-- each, of an array at its end each element by itself, each once, in the order of values.
use Rattle.std.specs.Prelude.{ℕ, Option, None, Some, List, [], ◌∷◌, ◌++◌}
use Rattle.std.specs.BTreeSet.{insert_key}
use Rattle.bson.specs.Lawful.{levels}
use Rattle.bson.specs.Tree.{Tree, scalar, document, array, Pairs, Items, no_items, item}
use Rattle.path.specs.Reach.{Reached, reach, items_list}
use Rattle.value_order.specs.Order.{compare}

-- ---- the values that a path has in a document

-- a value, or the elements of an array
abbrev pub elements : Reached → List Tree
elements None = []
elements (Some (scalar s)) = scalar s ∷ []
elements (Some (document ps)) = document ps ∷ []
elements (Some (array ts)) = items_list ts

abbrev pub all_elements : List Reached → List Tree
all_elements [] = []
all_elements (r ∷ rs) = elements r ++ all_elements rs

abbrev pub values_at : List (List ℕ) → Pairs → List Tree
values_at path ps = all_elements (reach path (document ps))

-- ---- each once

-- among values in their order one more, unless one that is equal to it is there
abbrev pub with_value : List Tree → Tree → List Tree
with_value values t = insert_key compare values t

abbrev pub with_values : List Tree → List Tree → List Tree
with_values values [] = values
with_values values (t ∷ ts) = with_values (with_value values t) ts

-- as the items of an array
abbrev pub items_from : List Tree → Items
items_from [] = no_items
items_from (t ∷ ts) = item t (items_from ts)

-- how deep nests what a path reached
abbrev pub reached_levels : Reached → ℕ
reached_levels None = 0
reached_levels (Some t) = levels t
