-- `$push` puts values at the end of an array, `$pull` takes elements out of one.
use Rattle.std.specs.Prelude.{ℕ, if◌then◌else◌, Option, Some, None, Result, Ok, Err, List, codes}
use Rattle.std.specs.Str.{bytes_eq}
use Rattle.bson.specs.Tree.{Tree, scalar, document, array, Pairs, no_pairs, pair, Items, no_items}
use Rattle.bson.specs.Tree.{item, append_items}
use Rattle.path.specs.declared.refusal.Refusal.{Refusal}
use Rattle.path.specs.declared.refusal.Refusal.TheVariants as refusals
use Rattle.path.specs.Edits.{if_ok, within, write_at}
use Rattle.path.specs.Place.{value_at}
use Rattle.filter.specs.Condition.{Condition}
use Rattle.filter.specs.Elements.{element_matches}
use Rattle.filter.specs.Parsing.{array_in, has_operators}
use Rattle.update_model.specs.Update.{Path}

-- ---- $push

abbrev pub only_one : Tree → Items
only_one t = item t no_items

-- `$each` is the one modifier
abbrev pub no_more : Items → Pairs → Result Items Refusal
no_more ts no_pairs = Ok ts
no_more ts (pair name t ps) = Err refusals.BadValue

abbrev pub items_of_each : List ℕ → Tree → Pairs → Result Items Refusal
items_of_each name t ps =
    if bytes_eq name (codes "$each") then if_ok (array_in t) (λ ts. no_more ts ps)
    else Err refusals.BadValue

abbrev pub each_items : Pairs → Result Items Refusal
each_items no_pairs = Err refusals.BadValue
each_items (pair name t ps) = items_of_each name t ps

-- the values that are to be put there: all of `{$each: [..]}`, else the operand itself
abbrev pub items_to_push : Tree → Result Items Refusal
items_to_push (document ps) =
    if has_operators ps then each_items ps else Ok (only_one (document ps))
items_to_push (array ts) = Ok (only_one (array ts))
items_to_push (scalar s) = Ok (only_one (scalar s))

-- an array nests at most 99 levels
abbrev pub pushed : Items → Option Tree → Result Tree Refusal
pushed new None = within 99 (Ok (array new))
pushed new (Some (array ts)) = within 99 (Ok (array (append_items ts new)))
pushed new (Some (document ps)) = Err refusals.BadValue
pushed new (Some (scalar s)) = Err refusals.BadValue

-- ---- $pull

abbrev pub items_without : Condition → Items → Items
items_without condition no_items = no_items
items_without condition (item t ts) =
    if element_matches condition t then items_without condition ts
    else item t (items_without condition ts)

abbrev pub pulled : Condition → Option Tree → Result Tree Refusal
pulled condition (Some (array ts)) = Ok (array (items_without condition ts))
pulled condition other = Err refusals.BadValue

abbrev pub if_there : Option Tree → Result Pairs Refusal → Pairs → Result Pairs Refusal
if_there None changed ps = Ok ps
if_there (Some t) changed ps = changed

-- where the path isn't there nothing changes
abbrev pub pull_at : Path → Condition → Pairs → Result Pairs Refusal
pull_at path condition ps =
    if_there (value_at path (document ps)) (write_at (pulled condition) path ps) ps
