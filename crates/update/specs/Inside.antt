-- Edits of the fields of one value further down, which is reached once however many they are:
-- all of them take fields away, or all rename some.
use Rattle.std.specs.Prelude.{ℕ, Bool, true, false, if◌then◌else◌, Option, Some, List, [], ◌∷◌}
use Rattle.bson.specs.Tree.{Tree, scalar, document, array, Pairs, no_pairs, Items}
use Rattle.path.specs.Edits.{cut_field, cut_item}
use Rattle.path.specs.Parts.{index_of}
use Rattle.path.specs.Place.{child, is_array, some_passes}
use Rattle.update.specs.Renaming.{renamed}
use Rattle.update.specs.Unsets.{marked, unmarked, without_items}
use Rattle.update_model.specs.Update.{Path, Action, rename, Edit}

abbrev pub moves : Action → Bool
moves (rename new) = true
moves other = false

abbrev pub begins_with_rename : List Edit → Bool
begins_with_rename [] = false
begins_with_rename (e ∷ es) = moves e.action

-- ---- what the edits leave of a value

abbrev pub pairs_after : List Edit → Pairs → Pairs
pairs_after es ps =
    if begins_with_rename es then renamed es ps else unmarked (marked es no_pairs) ps

abbrev pub items_after : List Edit → Items → Items
items_after es ts = if begins_with_rename es then ts else without_items es ts

abbrev pub value_after : List Edit → Tree → Tree
value_after es (scalar s) = scalar s
value_after es (document ps) = document (pairs_after es ps)
value_after es (array ts) = array (items_after es ts)

-- ---- further down

-- with what `made` gives in place of what stands at a field or an element, if anything does
abbrev pub in_field : (Tree → Tree) → List ℕ → Pairs → Pairs
in_field made name ps = cut_field (λ t. Some (made t)) name ps

abbrev pub in_item : (Tree → Tree) → Option ℕ → Items → Items
in_item made i ts = cut_item (λ t. Some (made t)) i ts

-- with what `made` gives in place of what stands at the end of these parts, if the way goes there
abbrev pub inside : Path → (Tree → Tree) → Tree → Tree
inside [] made t = made t
inside (name ∷ rest) made (scalar s) = scalar s
inside (name ∷ rest) made (document ps) = document (in_field (inside rest made) name ps)
inside (name ∷ rest) made (array ts) = array (in_item (inside rest made) (index_of name) ts)

-- an array stands on the way, or at its end
abbrev pub leads_to_array : Path → Tree → Bool
leads_to_array [] t = is_array t
leads_to_array (name ∷ rest) t =
    if is_array t then true else some_passes (leads_to_array rest) (child name t)
