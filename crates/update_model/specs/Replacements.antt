-- A replacement takes the whole document's place and keeps its `_id`, which it may only repeat.
use Rattle.std.specs.Prelude.{if◌then◌else◌, Option, Some, None, Result, Ok, Err}
use Rattle.bson.specs.Tree.{Tree, Pairs, pair}
use Rattle.bson.specs.Lookup.{lookup}
use Rattle.value_order.specs.Order.{compare}
use Rattle.path.specs.declared.refusal.Refusal.{Refusal}
use Rattle.path.specs.declared.refusal.Refusal.TheVariants as refusals
use Rattle.filter.specs.Matches.{is_equal}
use Rattle.update_model.specs.Stored.{id_name, without, id_first}

-- the old `_id`, where the new one is missing or equal by the order of values
abbrev pub with_id : Tree → Option Tree → Pairs → Result Pairs Refusal
with_id old None new = Ok (pair id_name old (without new id_name))
with_id old (Some id) new =
    if is_equal (compare old id) then Ok (pair id_name old (without new id_name))
    else Err refusals.ImmutableField

abbrev pub in_place_of : Option Tree → Pairs → Result Pairs Refusal
in_place_of None new = Ok (id_first new)
in_place_of (Some old) new = with_id old (lookup new id_name) new

abbrev pub replace : Pairs → Pairs → Result Pairs Refusal
replace new old = in_place_of (lookup old id_name) new
