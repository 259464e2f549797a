-- The documents of an insert: one that says no `_id` gets an object id in front of its other
-- fields, each its own (MongoDB manual, insert, and documents, the `_id` field).
use Rattle.std.specs.Prelude.{ℕ, Bool, false, ◌||◌, is_none, if◌then◌else◌, List, codes, Option}
use Rattle.std.specs.Prelude.{Some}
use Rattle.bson.specs.Tree.{Tree, scalar, document, array, object_id, Pairs, pair, Items, no_items}
use Rattle.bson.specs.Tree.{item}
use Rattle.bson.specs.Lookup.{lookup}
use Rattle.bson.specs.Edits.{put}
use Rattle.driver_replies.specs.Writes.{has_no_id, fresh_id, next_ids}
use Rattle.driver_replies.specs.declared.fresh_ids.FreshIds.{FreshIds}
use Rattle.driver_replies.specs.declared.writes.Write.{Write}
use Rattle.driver_replies.specs.declared.writes.Write.TheVariants as writes

abbrev pub document_with_id : List ℕ → Pairs → Pairs
document_with_id id ps =
    if is_none (lookup ps (codes "_id")) then pair (codes "_id") (scalar (object_id id)) ps else ps

-- What is no document stays as it is: the database refuses it.
abbrev pub value_with_id : List ℕ → Tree → Tree
value_with_id id (document ps) = document (document_with_id id ps)
value_with_id id other = other

abbrev pub with_ids : FreshIds → Items → Items
with_ids ids no_items = no_items
with_ids ids (item t ts) = item (value_with_id (fresh_id ids) t) (with_ids (next_ids ids) ts)

abbrev pub insert_with_ids : FreshIds → Option Tree → Pairs → Pairs
insert_with_ids ids (Some (array ts)) body = put body (codes "documents") (array (with_ids ids ts))
insert_with_ids ids other body = body

-- A command that writes: of these an insert alone has documents.
abbrev pub with_new_ids : FreshIds → Option Write → Pairs → Pairs
with_new_ids ids (Some writes.Insert) body =
    insert_with_ids ids (lookup body (codes "documents")) body
with_new_ids ids other body = body

-- one of these says no `_id`
abbrev pub lack_ids : Items → Bool
lack_ids no_items = false
lack_ids (item t ts) = has_no_id (Some t) || lack_ids ts
