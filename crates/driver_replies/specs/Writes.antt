-- A write of several statements, which is done as a whole or refused as a whole: where it was
-- refused its statements are asked one after the other, up to the first that is refused, or past it
-- where their order makes no difference (mongodb/specifications, crud and bulk write; MongoDB
-- manual, insert, update and delete).
use Rattle.std.specs.Prelude.{ℕ, pos, ◌+ℤ◌, Bool, true, false, ◌&&◌, ◌==◌, not, is_none, is_some}
use Rattle.std.specs.Prelude.{if◌then◌else◌, ◌++◌, ◌+◌, ◌-◌, ◌^◌, min, List, [], ◌∷◌, codes, Option}
use Rattle.std.specs.Prelude.{Some, None}
use Rattle.std.specs.Int.{w32, w64, to_be_bytes, saturate_signed}
use Rattle.bson.specs.Tree.{Tree, scalar, document, array, object_id, boolean, int32, Pairs, Items}
use Rattle.bson.specs.Tree.{no_items, item}
use Rattle.bson.specs.Lookup.{lookup}
use Rattle.bson.specs.Edits.{put, cut, items_len, without_item}
use Rattle.driver_replies.specs.Tables.{beside}
use Rattle.driver_replies.specs.Tallies.{refused, no_tally, with_reply, write_reply}
use Rattle.driver_replies.specs.declared.batch.Batch.{Batch}
use Rattle.driver_replies.specs.declared.fresh_ids.FreshIds.{FreshIds}
use Rattle.driver_replies.specs.declared.writes.Write.{Write}
use Rattle.driver_replies.specs.declared.writes.Write.TheVariants as writes

abbrev pub writes_by_name : List (List ℕ × Write)
writes_by_name =
    (codes "insert", writes.Insert) ∷ (codes "update", writes.Update)
    ∷ (codes "delete", writes.Delete) ∷ []

-- the write of this name
abbrev pub write_of : List ℕ → Option Write
write_of name = beside writes_by_name name

-- the field that holds its statements
abbrev pub field_of : Write → List ℕ
field_of writes.Insert = codes "documents"
field_of writes.Update = codes "updates"
field_of writes.Delete = codes "deletes"

abbrev pub is_update : Write → Bool
is_update writes.Update = true
is_update other = false

-- ---- upserts without an `_id`

abbrev pub is_true : Option Tree → Bool
is_true (Some (scalar (boolean b))) = b
is_true other = false

-- a filter that says no `_id`, and whose equalities all stand at its top, where an upsert takes
-- them from
abbrev pub is_open : Option Tree → Bool
is_open (Some (document qs)) =
    is_none (lookup qs (codes "_id")) && is_none (lookup qs (codes "$and"))
    && is_none (lookup qs (codes "$or"))
is_open other = false

-- a document that says no `_id`
abbrev pub has_no_id : Option Tree → Bool
has_no_id (Some (document ps)) = is_none (lookup ps (codes "_id"))
has_no_id other = false

-- An upsert that says no `_id` for the document that it may make.
abbrev pub is_upsert : Pairs → Bool
is_upsert ps =
    is_true (lookup ps (codes "upsert")) && is_open (lookup ps (codes "q"))
    && has_no_id (lookup ps (codes "u"))

abbrev pub needs_id : Write → Tree → Bool
needs_id writes.Update (document ps) = is_upsert ps
needs_id write t = false

-- an object id that no document has: the seconds since 1970, and a number
abbrev pub fresh_id : FreshIds → List ℕ
fresh_id ids = to_be_bytes w32 ids.seconds ++ to_be_bytes w64 ids.number

abbrev pub next_ids : FreshIds → FreshIds
next_ids ids = record ids { number = min (ids.number + 1) (2 ^ 64 - 1) }

abbrev pub with_filter : List ℕ → Option Tree → Pairs → Pairs
with_filter id (Some (document qs)) ps =
    put ps (codes "q") (document (put qs (codes "_id") (scalar (object_id id))))
with_filter id other ps = ps

-- an upsert with this `_id` in its filter
abbrev pub with_id : List ℕ → Pairs → Pairs
with_id id ps = with_filter id (lookup ps (codes "q")) (cut ps (codes "q"))

-- ---- statements that are asked one after the other

abbrev pub statements_in : Option Tree → Items
statements_in (Some (array ts)) = ts
statements_in other = no_items

-- Nothing was asked yet.
abbrev pub batch_of : Write → Bool → FreshIds → Pairs → Batch
batch_of write ordered ids body = record {
  write = write;
  body = cut body (field_of write);
  left = statements_in (lookup body (field_of write));
  index = pos 0;
  is_ordered = ordered;
  is_new = false;
  ids = ids;
  tally = no_tally;
}

-- An upsert without an `_id` is asked as an update, and, where that found nothing, with one.
abbrev pub asked_upsert : Batch → Pairs → Pairs
asked_upsert batch ps =
    if batch.is_new then with_id (fresh_id batch.ids) ps else cut ps (codes "upsert")

abbrev pub asked_document : Batch → Pairs → Pairs
asked_document batch ps =
    if needs_id batch.write (document ps) then asked_upsert batch ps else ps

abbrev pub asked_statement : Batch → Tree → Tree
asked_statement batch (document ps) = document (asked_document batch ps)
asked_statement batch other = other

-- the command for the first of the statements that are left, if one is left
abbrev pub next_command : Items → Batch → Option Pairs
next_command no_items batch = None
next_command (item t ts) batch = Some (
    put batch.body (field_of batch.write)
    (array (item (asked_statement batch t) no_items))
    )

abbrev pub first_needs_id : Write → Items → Bool
first_needs_id write no_items = false
first_needs_id write (item t ts) = needs_id write t

abbrev pub is_zero_count : Option Tree → Bool
is_zero_count (Some (scalar (int32 (pos n)))) = n == 0
is_zero_count other = false

-- an upsert that was asked as an update found nothing
abbrev pub finds_nothing : Batch → Pairs → Bool
finds_nothing batch reply =
    first_needs_id batch.write batch.left && not batch.is_new && is_none (refused reply)
    && is_zero_count (lookup reply (codes "n"))

-- Where the statements are in order the first that is refused is the last.
abbrev pub left_after : Batch → Pairs → Items
left_after batch reply =
    if batch.is_ordered && is_some (refused reply) then no_items else
    without_item batch.left 0

-- behind the statement that this is the reply to
abbrev pub passed : Batch → Pairs → Batch
passed batch reply = record batch {
  left = left_after batch reply;
  index = saturate_signed w32 (batch.index +ℤ pos 1);
  is_new = false;
  ids = next_ids batch.ids;
}

abbrev pub with_tally : Batch → Pairs → Batch
with_tally batch reply = record batch { tally = with_reply batch.index reply batch.tally }

-- with the reply to the first of the statements that are left
abbrev pub after_reply : Batch → Pairs → Batch
after_reply batch reply =
    if finds_nothing batch reply then record batch { is_new = true } else
    passed (with_tally batch reply) reply

-- the answer for all
abbrev pub batch_reply : Batch → Pairs
batch_reply batch = write_reply (is_update batch.write) batch.tally

-- ---- which writes are asked so

-- One statement that needs no `_id` is refused as a whole or done.
abbrev pub is_alone : Write → Option Tree → Bool
is_alone write (Some (array ts)) = items_len ts == 1 && not (first_needs_id write ts)
is_alone write other = false

abbrev pub is_ordered_in : Option Tree → Bool
is_ordered_in (Some (scalar (boolean b))) = b
is_ordered_in other = true
