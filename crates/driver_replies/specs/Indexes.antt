-- What drivers are told of a collection's indexes (MongoDB manual, listIndexes): of each what the
-- database says and the version of its form, and not that the one on `_id` is unique.
use Rattle.std.specs.Prelude.{pos, Bool, if◌then◌else◌, codes, Option, Some}
use Rattle.std.specs.Str.{bytes_eq}
use Rattle.bson.specs.Edits.{put, cut}
use Rattle.bson.specs.Lookup.{lookup}
use Rattle.bson.specs.Tree.{Tree, document, array, Pairs, Items, no_items, item}
use Rattle.driver_replies.specs.Fields.{int}
use Rattle.driver_replies.specs.Texts.{text_or_none}

-- an index is known by its name
abbrev pub is_on_id : Pairs → Bool
is_on_id ps = bytes_eq (text_or_none (lookup ps (codes "name"))) (codes "_id_")

abbrev pub told_index : Pairs → Pairs
told_index ps =
    put (if is_on_id ps then cut ps (codes "unique") else ps) (codes "v") (int (pos 2))

abbrev pub told_entry : Tree → Tree
told_entry (document ps) = document (told_index ps)
told_entry other = other

abbrev pub told_indexes : Items → Items
told_indexes no_items = no_items
told_indexes (item t ts) = item (told_entry t) (told_indexes ts)

abbrev pub with_batch : Option Tree → Pairs → Pairs → Pairs
with_batch (Some (array ts)) cursor reply =
    put reply (codes "cursor")
    (document (put cursor (codes "firstBatch") (array (told_indexes ts))))
with_batch other cursor reply = reply

abbrev pub with_cursor : Option Tree → Pairs → Pairs
with_cursor (Some (document cursor)) reply =
    with_batch (lookup cursor (codes "firstBatch")) cursor reply
with_cursor other reply = reply

-- The reply to a listIndexes, as drivers expect it.
abbrev pub indexes_told : Pairs → Pairs
indexes_told reply = with_cursor (lookup reply (codes "cursor")) reply
