-- What a driver is answered where the database was asked. `ok` becomes an int64, so that no frame
-- has under 36 bytes, which one driver takes for cut. Two refusals are told by drivers and programs
-- from their texts: that a collection isn't there, and that a key is there already (MongoDB manual,
-- error codes).
use Rattle.std.specs.Prelude.{ℕ, ℤ, pos, negsuc, Bool, true, false, ◌||◌, ◌==◌, if◌then◌else◌}
use Rattle.std.specs.Prelude.{List, ◌++◌, codes, Option, Some, None, Result, Ok, Err}
use Rattle.bson.specs.Tree.{Tree, scalar, document, array, int32, int64, Pairs, no_pairs, pair}
use Rattle.bson.specs.Tree.{append, Items, no_items, item}
use Rattle.bson.specs.Lookup.{lookup}
use Rattle.bson.specs.Edits.{put, cut, items_len, without_item}
use Rattle.std.specs.Str.{bytes_eq}
use Rattle.driver_replies.specs.Fields.{words}
use Rattle.driver_fields.specs.Rules.{is_zero}
use Rattle.driver_replies.specs.Texts.{text_or_none, collection_of}
use Rattle.driver_replies.specs.WriteErrors.{refused_statement}
use Rattle.driver_replies.specs.Tallies.{refused, no_tally, with_reply, write_reply}
use Rattle.driver_replies.specs.Modifying.{part_in, modification_of, find_one, subject_of, made_by}
use Rattle.driver_replies.specs.Modifying.{change_one, update_none, nothing_done, done_with}
use Rattle.driver_replies.specs.Modifying.{modified_reply}
use Rattle.driver_replies.specs.NewIds.{with_new_ids}
use Rattle.driver_replies.specs.declared.modifying.Modification.{Modification}
use Rattle.driver_replies.specs.Writes.{is_true, write_of, field_of, is_alone, is_ordered_in}
use Rattle.driver_replies.specs.Writes.{batch_of, next_command, after_reply, batch_reply}
use Rattle.driver_fields.specs.Cleaning.{kept}
use Rattle.driver_replies.specs.Cursors.{ids_of, first_id, kill_one, no_kills, after, kill_reply}
use Rattle.driver_fields.specs.declared.command.Asked.TheVariants as askeds
use Rattle.driver_replies.specs.declared.kills.Kills.{Kills}
use Rattle.driver_replies.specs.declared.batch.Batch.{Batch}
use Rattle.driver_replies.specs.declared.fresh_ids.FreshIds.{FreshIds}
use Rattle.driver_replies.specs.declared.writes.Write.{Write}
use Rattle.driver_replies.specs.Distinct.{distinct_of, documents_in, with_documents, get_more}
use Rattle.driver_replies.specs.Distinct.{distinct_reply}
use Rattle.driver_replies.specs.declared.distinct.Distinct.{Distinct}
use Rattle.driver_replies.specs.Dropping.{drop_command, is_gone, dropped_reply}
use Rattle.driver_replies.specs.Indexes.{indexes_told}
use Rattle.driver_replies.specs.Listing.{name_in, batch_in, retold}
use Rattle.drivers.specs.Explaining.{explained}
use Rattle.drivers.specs.Starting.{name_of, unheard}
use Rattle.driver_messages.specs.declared.message.BodyFault.{BodyFault}
use Rattle.driver_messages.specs.declared.message.Message.{Message}
use Rattle.drivers.specs.declared.plan.Plan.{Plan}
use Rattle.drivers.specs.declared.plan.Wait.{Wait}
use Rattle.drivers.specs.declared.plan.Wait.TheVariants as waits
use Rattle.drivers.specs.declared.step.Step.{Step}
use Rattle.drivers.specs.declared.step.Step.TheVariants as steps

-- ---- a plan: what is kept of a message until the database has answered. First without what is
-- asked.

-- what is kept of the cursors that a killCursors names
abbrev pub kill_wait : Pairs → Option Items → Wait
kill_wait body None = waits.Plain
kill_wait body (Some ids) = waits.Kill (no_kills (kept askeds.KillCursors body) ids)

-- what is kept of the collections that a listCollections asks for
abbrev pub collections_wait : Pairs → Wait
collections_wait body = waits.Collections (name_in (lookup body (codes "filter")))

-- what is kept of a distinct: nothing where its key is no path, which is refused
abbrev pub distinct_kept : Option Distinct → Wait
distinct_kept None = waits.Plain
distinct_kept (Some d) = waits.Distinct d

abbrev pub distinct_wait : Pairs → Wait
distinct_wait body = distinct_kept (distinct_of body)

-- A find may say that its first batch is its last (mongodb/specifications, find, getMore and
-- killCursors).
abbrev pub is_single : Pairs → Bool
is_single body = if bytes_eq (name_of body) (codes "find")
    then is_true (lookup body (codes "singleBatch"))
    else false

-- Of statements that may be asked one after the other only this is kept before they are asked.
abbrev pub write_wait : FreshIds → Pairs → Write → Wait
write_wait ids body write =
    if is_alone write (lookup body (field_of write)) then waits.Write else
    waits.Whole write (is_ordered_in (lookup body (codes "ordered"))) ids

abbrev pub other_wait : FreshIds → Pairs → Option Write → Wait
other_wait ids body None = waits.Plain
other_wait ids body (Some write) = write_wait ids body write

-- a findAndModify has two names
abbrev pub is_modification : List ℕ → Bool
is_modification name =
    bytes_eq name (codes "findAndModify") || bytes_eq name (codes "findandmodify")

abbrev pub wait_of : FreshIds → Pairs → Wait
wait_of ids body =
    if bytes_eq (name_of body) (codes "killCursors") then kill_wait body (ids_of body) else
    if bytes_eq (name_of body) (codes "listCollections") then collections_wait body else
    if bytes_eq (name_of body) (codes "listIndexes") then waits.Indexes else
    if bytes_eq (name_of body) (codes "dropDatabase") then waits.Listed else
    if bytes_eq (name_of body) (codes "explain") then waits.Explained else
    if is_modification (name_of body) then waits.Found (modification_of ids body) else
    if bytes_eq (name_of body) (codes "distinct") then distinct_wait body else
    if is_single body then waits.Single else
    other_wait ids body (write_of (name_of body))

abbrev pub first_plan_for : FreshIds → Bool → Pairs → Plan
first_plan_for ids more body = record {
  more_to_come = more;
  database = text_or_none (lookup body (codes "$db"));
  collection = collection_of body;
  is_update = bytes_eq (name_of body) (codes "update");
  wait = wait_of ids body;
}

abbrev pub first_plan_in : FreshIds → Bool → Result Pairs BodyFault → Plan
first_plan_in ids more (Ok body) = first_plan_for ids more body
first_plan_in ids more (Err fault) = first_plan_for ids more no_pairs

abbrev pub first_plan : FreshIds → Message → Plan
first_plan ids message = first_plan_in ids message.more_to_come message.body

-- ---- and then with what was asked, where its statements may be asked one after the other

-- Statements are kept with the command, where there are any.
abbrev pub batch_wait : Batch → Wait
batch_wait batch = if items_len batch.left == 0 then waits.Plain else waits.Batch batch

abbrev pub asked_wait : Wait → Pairs → Wait
asked_wait (waits.Whole write ordered ids) command =
    batch_wait (batch_of write ordered ids command)
asked_wait other command = other

abbrev pub with_asked : Plan → Pairs → Plan
with_asked plan command = record plan { wait = asked_wait plan.wait command }

-- what is asked as a whole of a write
abbrev pub whole_write : FreshIds → Pairs → Pairs
whole_write ids body = with_new_ids ids (write_of (name_of body)) (kept askeds.Write body)

abbrev pub plan_for : FreshIds → Bool → Pairs → Plan
plan_for ids more body = with_asked (first_plan_for ids more body) (whole_write ids body)

abbrev pub plan_in : FreshIds → Bool → Result Pairs BodyFault → Plan
plan_in ids more (Ok body) = plan_for ids more body
plan_in ids more (Err fault) = plan_for ids more no_pairs

abbrev pub plan_of : FreshIds → Message → Plan
plan_of ids message = plan_in ids message.more_to_come message.body

-- ---- the answer

abbrev pub wide_ok : Option Tree → Pairs → Pairs
wide_ok (Some (scalar (int32 z))) reply = put reply (codes "ok") (scalar (int64 z))
wide_ok other reply = reply

abbrev pub widened : Pairs → Pairs
widened reply = wide_ok (lookup reply (codes "ok")) reply

-- the text by which a refusal with this number is known
abbrev pub known_text : ℤ → List ℕ → List ℕ → Option (List ℕ)
known_text (pos n) database collection =
    if n == 26 then Some (codes "ns not found") else
    if n == 11000
    then Some (((codes "E11000 duplicate key error collection: " ++ database) ++ codes ".")
    ++ collection)
    else None
known_text (negsuc n) database collection = None

abbrev pub text_for : Option Tree → List ℕ → List ℕ → Option (List ℕ)
text_for (Some (scalar (int32 z))) database collection = known_text z database collection
text_for other database collection = None

abbrev pub with_text : Option (List ℕ) → Pairs → Pairs
with_text None reply = reply
with_text (Some s) reply = put reply (codes "errmsg") (words s)

abbrev pub reworded : List ℕ → List ℕ → Pairs → Pairs
reworded database collection reply =
    with_text (text_for (lookup reply (codes "code")) database collection) reply

-- the answer that a reply of the database makes
abbrev pub final : Plan → Pairs → Step
final plan reply =
    unheard plan.more_to_come
    (steps.Reply (widened (reworded plan.database plan.collection reply)))

-- ---- a cursor that is left behind a first batch

abbrev pub open_id : Option Tree → Option ℤ
open_id (Some (scalar (int64 z))) = if is_zero z then None else Some z
open_id other = None

abbrev pub id_in : Option Tree → Option ℤ
id_in (Some (document c)) = open_id (lookup c (codes "id"))
id_in other = None

-- the number of the cursor that is left
abbrev pub cursor_left : Pairs → Option ℤ
cursor_left reply = id_in (lookup reply (codes "cursor"))

-- the cursor without a number, behind the other fields of the reply
abbrev pub with_cursor : Option Tree → Pairs → Pairs
with_cursor (Some (document c)) reply =
    append reply
    (pair (codes "cursor") (document (put c (codes "id") (scalar (int64 (pos 0))))) no_pairs)
with_cursor other reply = reply

abbrev pub ended : Pairs → Pairs
ended reply = with_cursor (lookup reply (codes "cursor")) (cut reply (codes "cursor"))

abbrev pub kill_command : List ℕ → List ℕ → ℤ → Pairs
kill_command database collection id =
    pair (codes "killCursors") (words collection)
    (pair (codes "cursors") (array (item (scalar (int64 id)) no_items))
    (pair (codes "$db") (words database) no_pairs))

-- Where a cursor is left it is ended first.
abbrev pub end_cursor : Option ℤ → Plan → Pairs → Plan × Step
end_cursor None plan reply = (record plan { wait = waits.Plain }, final plan reply)
end_cursor (Some id) plan reply = (
  record plan { wait = waits.Ended (ended reply) },
  steps.AskOwner id (kill_command plan.database plan.collection id),
)

-- ---- cursors that are ended one after the other

-- the next one, or the answer for all
abbrev pub kill_next : Option ℤ → Plan → Kills → Plan × Step
kill_next None plan kills = (
  record plan { wait = waits.Plain },
  unheard plan.more_to_come (steps.Reply (kill_reply kills)),
)
kill_next (Some z) plan kills =
    (record plan { wait = waits.Kill kills }, steps.AskOwner z (kill_one kills.body z))

-- A refusal ends it.
abbrev pub killed : Option Tree → Plan → Kills → Pairs → Plan × Step
killed None plan kills reply = (record plan { wait = waits.Plain }, final plan reply)
killed (Some t) plan kills reply =
    kill_next (first_id (after kills reply).left) plan (after kills reply)

-- ---- a write of one statement

-- how the refusal of a statement is answered
abbrev pub error_step : Option ℤ → Plan → Pairs → Step
error_step None plan reply = final plan reply
error_step (Some z) plan reply = unheard plan.more_to_come (steps.Reply (
    write_reply plan.is_update
    (with_reply (pos 0) (reworded plan.database plan.collection reply) no_tally)
    ))

-- ---- a write of several statements

-- the next one is asked, or all are answered
abbrev pub next_statement : Option Pairs → Plan → Batch → Plan × Step
next_statement None plan batch = (
  record plan { wait = waits.Plain },
  unheard plan.more_to_come (steps.Reply (batch_reply batch)),
)
next_statement (Some command) plan batch =
    (record plan { wait = waits.Statement batch }, steps.Ask command)

-- Where the whole was refused by a statement, each is asked by itself.
abbrev pub whole_step : Option ℤ → Plan → Batch → Pairs → Plan × Step
whole_step None plan batch reply = (record plan { wait = waits.Plain }, final plan reply)
whole_step (Some z) plan batch reply = next_statement (next_command batch.left batch) plan batch

abbrev pub statement_step : Plan → Batch → Plan × Step
statement_step plan batch = next_statement (next_command batch.left batch) plan batch

-- ---- a database that is dropped

-- the next collection is dropped, or all are
abbrev pub drop_next : Option Pairs → Plan → Items → Plan × Step
drop_next None plan ts = (
  record plan { wait = waits.Plain },
  unheard plan.more_to_come (steps.Reply (dropped_reply plan.database)),
)
drop_next (Some command) plan ts = (record plan { wait = waits.Drops ts }, steps.Ask command)

abbrev pub drop_step : Plan → Items → Plan × Step
drop_step plan ts = drop_next (drop_command plan.database ts) plan ts

abbrev pub drop_listed : Option Items → Plan → Pairs → Plan × Step
drop_listed None plan reply = (record plan { wait = waits.Plain }, final plan reply)
drop_listed (Some ts) plan reply = drop_step plan ts

-- A refusal ends it, but for that of a collection that isn't there any more.
abbrev pub drop_on : Plan → Items → Pairs → Plan × Step
drop_on plan ts reply =
    if is_gone reply then drop_step plan (without_item ts 0) else
    (record plan { wait = waits.Plain }, final plan reply)

-- ---- a distinct

-- the next batch of the documents' cursor is asked for, or their values are told
abbrev pub distinct_next : Option ℤ → Plan → Distinct → Plan × Step
distinct_next None plan d = (
  record plan { wait = waits.Plain },
  unheard plan.more_to_come (steps.Reply (distinct_reply d)),
)
distinct_next (Some id) plan d = (
  record plan { wait = waits.Distinct d },
  steps.AskOwner id (get_more plan.database plan.collection id),
)

-- The values of a batch of documents are taken. A refusal ends it.
abbrev pub distinct_on : Option Items → Plan → Distinct → Pairs → Plan × Step
distinct_on None plan d reply = (record plan { wait = waits.Plain }, final plan reply)
distinct_on (Some ts) plan d reply =
    distinct_next (cursor_left reply) plan (with_documents d ts)

-- ---- a findAndModify

abbrev pub told_step : Plan → Pairs → Plan × Step
told_step plan reply =
    (record plan { wait = waits.Plain }, unheard plan.more_to_come (steps.Reply reply))

-- A document was changed, deleted or made: what is told of it, as it was or as it is now.
abbrev pub modified : Plan → Modification → Bool → Option Pairs → Pairs → Plan × Step
modified plan m is_new was subject =
    if m.wants_new then (
      record plan { wait = waits.Again m is_new subject },
      steps.Ask (find_one plan.database plan.collection subject),
    ) else told_step plan (modified_reply (done_with m.is_removal is_new subject) was)

abbrev pub changed_by : Option Pairs → Plan → Modification → Bool → Option Pairs → Pairs
    → Plan × Step
changed_by None plan m is_new was reply =
    (record plan { wait = waits.Plain }, final plan reply)
changed_by (Some subject) plan m is_new was reply = modified plan m is_new was subject

-- No document was found, and none is made.
abbrev pub done_nothing : Plan → Modification → Plan × Step
done_nothing plan m = told_step plan (modified_reply (nothing_done m) None)

-- The document that was found was changed or deleted, or one was made; a refusal ends it.
abbrev pub changed : Option ℤ → Plan → Modification → Option Pairs → Pairs → Plan × Step
changed (Some code) plan m was reply = (record plan { wait = waits.Plain }, final plan reply)
changed None plan m (Some ps) reply = changed_by (subject_of ps) plan m false (Some ps) reply
changed None plan m None reply =
    if m.may_insert then changed_by (made_by reply) plan m true None reply else done_nothing plan m

-- what finds that document, if it wasn't refused
abbrev pub subject_after : Option ℤ → Option Pairs → Pairs → Option Pairs
subject_after (Some code) was reply = None
subject_after None (Some ps) reply = subject_of ps
subject_after None None reply = made_by reply

-- The document that was found is changed or deleted.
abbrev pub change_found : Option Pairs → Plan → Modification → Pairs → Pairs → Plan × Step
change_found None plan m ps reply = (record plan { wait = waits.Plain }, final plan reply)
change_found (Some subject) plan m ps reply = (
  record plan { wait = waits.Changed m (Some ps) },
  steps.Ask (change_one plan.database plan.collection m subject),
)

abbrev pub found_part : Option Pairs → Plan → Modification → Pairs → Plan × Step
found_part None plan m reply = (record plan { wait = waits.Plain }, final plan reply)
found_part (Some ps) plan m reply = change_found (subject_of ps) plan m ps reply

-- No document was found: one is made, where that is wanted. Where it isn't the update is asked all
-- the same, so that what is none is refused.
abbrev pub found_none : Plan → Modification → Plan × Step
found_none plan m =
    if m.is_removal then done_nothing plan m else (
      record plan { wait = waits.Changed m None },
      steps.Ask (update_none plan.database plan.collection m),
    )

-- The first document was found, or none was; a refusal ends it.
abbrev pub found : Option Items → Plan → Modification → Pairs → Plan × Step
found None plan m reply = (record plan { wait = waits.Plain }, final plan reply)
found (Some no_items) plan m reply = found_none plan m
found (Some (item t ts)) plan m reply = found_part (part_in (Some t)) plan m reply

abbrev pub first_part : Items → Option Pairs
first_part no_items = None
first_part (item t ts) = part_in (Some t)

-- The document was found again, as it is now.
abbrev pub found_again : Option Items → Plan → Modification → Bool → Pairs → Pairs → Plan × Step
found_again None plan m is_new subject reply =
    (record plan { wait = waits.Plain }, final plan reply)
found_again (Some ts) plan m is_new subject reply =
    told_step plan (modified_reply (done_with m.is_removal is_new subject) (first_part ts))

-- Nobody else may ask the database before the answer.
abbrev pub asks_alone : Wait → Bool
asks_alone (waits.Found m) = true
asks_alone (waits.Changed m was) = true
asks_alone (waits.Again m is_new subject) = true
asks_alone other = false

-- What is done where the database was asked and answered so, and what is kept then.
abbrev pub answered_by : Wait → Plan → Pairs → Plan × Step
answered_by waits.Plain plan reply = (record plan { wait = waits.Plain }, final plan reply)
answered_by waits.Single plan reply = end_cursor (cursor_left reply) plan reply
answered_by (waits.Ended answer) plan reply =
    (record plan { wait = waits.Plain }, final plan answer)
answered_by waits.Write plan reply = (
  record plan { wait = waits.Plain },
  error_step (refused_statement (lookup reply (codes "code"))) plan reply,
)
-- (it wasn't asked, so no reply is to it)
answered_by (waits.Whole write ordered ids) plan reply =
    (record plan { wait = waits.Plain }, final plan reply)
answered_by (waits.Batch batch) plan reply =
    whole_step (refused_statement (lookup reply (codes "code"))) plan batch reply
answered_by (waits.Statement batch) plan reply =
    statement_step plan (after_reply batch (reworded plan.database plan.collection reply))
answered_by waits.Listed plan reply =
    drop_listed (batch_in (lookup reply (codes "cursor"))) plan reply
answered_by (waits.Drops ts) plan reply = drop_on plan ts reply
answered_by (waits.Kill kills) plan reply =
    killed (lookup reply (codes "cursorsKilled")) plan kills reply
answered_by (waits.Collections wanted) plan reply = (
  record plan { wait = waits.Plain },
  final plan (retold wanted plan.database (batch_in (lookup reply (codes "cursor"))) reply),
)
answered_by waits.Indexes plan reply =
    (record plan { wait = waits.Plain }, final plan (indexes_told reply))
answered_by waits.Explained plan reply = (
  record plan { wait = waits.Plain },
  final plan (explained (lookup reply (codes "plan")) reply),
)
answered_by (waits.Found m) plan reply =
    found (batch_in (lookup reply (codes "cursor"))) plan m reply
answered_by (waits.Changed m was) plan reply = changed (refused reply) plan m was reply
answered_by (waits.Again m is_new subject) plan reply =
    found_again (batch_in (lookup reply (codes "cursor"))) plan m is_new subject reply
answered_by (waits.Distinct d) plan reply =
    distinct_on (documents_in (lookup reply (codes "cursor"))) plan d reply

abbrev pub answered : Plan → Pairs → Plan × Step
answered plan reply = answered_by plan.wait plan reply
